pub mod Growing
pub mod LinePlaces
pub mod Resting
pub mod WholeRuns
pub mod Making
