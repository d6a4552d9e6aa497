pub mod Edits
pub mod Events
pub mod Answers
pub mod Verdicts
pub mod Replies
pub mod Lines
