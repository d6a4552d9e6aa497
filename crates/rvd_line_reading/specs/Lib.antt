pub mod Replies
pub mod Edits
pub mod Events
pub mod Lines
pub mod Front
pub mod Laws
