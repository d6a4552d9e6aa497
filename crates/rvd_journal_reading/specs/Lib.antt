pub mod Asks
pub mod Answers
pub mod Verdicts
pub mod Refusals
pub mod Laws
