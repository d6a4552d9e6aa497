mod Offering
mod TakenJobs
mod JobLists
mod Analysing
mod CandidateLists
mod Committing
mod Lengths
mod Waking
mod Switching
mod Ending
pub mod Emptiness
mod OfferReplies
