mod Blocks
mod StoredBytes
mod Alike
mod Causes
mod RegisterLines
