pub mod Steps
pub mod Locality
pub mod Fitting
pub mod Coming
pub mod Waking
