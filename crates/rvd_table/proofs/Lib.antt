pub mod MapLaws
pub mod Places
pub mod Searching
