pub mod Listing
pub mod History
pub mod Answers
