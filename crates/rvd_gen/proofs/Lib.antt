pub mod Ranges
pub mod Sizes
pub mod Offsets
pub mod Functions
