pub mod Story
pub mod Known
pub mod Views
pub mod Steps
pub mod Rule
