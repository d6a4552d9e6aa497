pub mod Entries
pub mod Transaction
