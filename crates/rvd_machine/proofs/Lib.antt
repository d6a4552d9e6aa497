pub mod Journals
pub mod Replied
pub mod Jobs
mod Bounds
mod Rooms
pub mod Members
mod Leads
mod Keeps
mod Analyses
mod Offers
mod Whole
pub mod Closed
pub mod Exacts
pub mod Readings
pub mod Keeping
mod Finish
mod Effects
pub mod Proper
mod Joins
mod WorkedRows
