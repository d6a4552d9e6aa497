pub mod Bytes
pub mod Layout
pub mod Header
pub mod Assembly
pub mod Code
pub mod Strings
pub mod Image
pub mod Laws
