pub mod ItemOrder
pub mod Pairs
mod SmallFile
mod RuleRows
mod WakeRows
mod StringRows
pub mod Growing
pub mod ReachWalks
pub mod CodeAddresses
pub mod Listings
pub mod Told
pub mod Plain
pub mod Units
pub mod FreeBytes
pub mod Proposing
mod Candidates
mod Sparing
mod GeneratedRows
