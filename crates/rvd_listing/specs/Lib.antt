pub mod Names
pub mod Answers
pub mod Lookups
pub mod Lines
