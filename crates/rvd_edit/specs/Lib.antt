pub mod Steps
pub mod Spaces
pub mod Slots
pub mod Changes
pub mod Edits
pub mod Laws
