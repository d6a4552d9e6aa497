pub mod Story
pub mod Calls
pub mod Admission
pub mod Turns
pub mod Owners
pub mod Shown
