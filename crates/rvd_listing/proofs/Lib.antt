pub mod Slots
pub mod Primary
pub mod BestSymbol
pub mod NextUnit
