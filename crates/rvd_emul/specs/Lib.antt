pub mod Machine
pub mod Classes
pub mod Effects
pub mod Run
pub mod Text
