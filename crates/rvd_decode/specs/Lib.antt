pub mod Instruction
pub mod Formats
pub mod Table
pub mod OpcodeMap
pub mod Encoding
pub mod Flow
pub mod Text
