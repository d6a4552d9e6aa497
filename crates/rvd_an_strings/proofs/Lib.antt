mod Rows
pub mod Sample
pub mod Rooms
pub mod TextBytes
pub mod Strings
pub mod TextSteps
pub mod Wholes
pub mod Locality
pub mod Fitting
pub mod Waking
