pub mod WordLemmas
pub mod Joins
pub mod TextLemmas
pub mod LineLemmas
pub mod ActorLemmas
pub mod FileLemmas
pub mod WorkedRows
