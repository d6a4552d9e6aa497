pub mod Seen
pub mod Lines
pub mod Plays
pub mod Analysed
