pub mod Effects
pub mod Batches
pub mod Differing
pub mod Checks
