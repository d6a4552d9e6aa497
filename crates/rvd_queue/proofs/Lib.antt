pub mod OrderedLists
pub mod ItemSets
mod Members
mod SweptCells
mod FirstItems
mod JobLists
