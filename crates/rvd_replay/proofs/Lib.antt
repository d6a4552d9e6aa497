pub mod BareSteps
pub mod Texts
pub mod Exactness
pub mod Replays
