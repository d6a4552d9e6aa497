pub mod Notes
pub mod Rounds
pub mod MetOnce
