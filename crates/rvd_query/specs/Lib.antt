pub mod Counts
pub mod Reply
