pub mod Edits
pub mod Verdicts
