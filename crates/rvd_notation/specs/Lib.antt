pub mod Pieces
pub mod Words
pub mod Actors
pub mod Values
