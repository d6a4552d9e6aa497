pub mod Masks
pub mod Rows
pub mod Places
pub mod Words
pub mod RoundTrip
pub mod Names
pub mod Hex
