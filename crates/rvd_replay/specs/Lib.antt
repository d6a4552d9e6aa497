pub mod Steps
pub mod Replayed
pub mod Replaying
