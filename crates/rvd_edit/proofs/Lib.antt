pub mod StepLemmas
pub mod FirstSlot
pub mod FurtherRefs
pub mod BytesLength
pub mod Rows
pub mod NoAnalysis
pub mod FewChanges
pub mod WithoutLength
pub mod FurtherFits
pub mod NothingMet
pub mod NewUnits
pub mod NewBlocks
pub mod EditsFit
pub mod FirstMet
pub mod Given
mod WorkedRows
