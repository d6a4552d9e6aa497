mod FuncsLocality
mod MetSet
pub mod Lists
pub mod Rising
pub mod Spans
pub mod CodeOrder
pub mod Walks
pub mod BodyFitting
pub mod Walked
pub mod WalkEnds
pub mod Sorted
mod RangesOf
mod BodyAsks
mod BodyLocality
mod FuncsWaking
mod FuncsFitting
mod Steps
mod Coming
mod Bodies
mod BodySettling
mod BodyWaking
