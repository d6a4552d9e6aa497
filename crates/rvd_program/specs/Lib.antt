pub mod Lookup
pub mod Checks
