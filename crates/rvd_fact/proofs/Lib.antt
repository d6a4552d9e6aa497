pub mod KeyOrder
pub mod DerivedOrder
pub mod Programs
pub mod Scans
pub mod Placing
pub mod Validity
pub mod Suiting
pub mod NewUnits
pub mod RangeLists
pub mod RangeEquality
pub mod RangeJoins
pub mod RangeCuts
pub mod RangeGaps
mod WorkedRows
