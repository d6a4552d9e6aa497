pub mod EntryLines
pub mod Fronts
mod Rows
