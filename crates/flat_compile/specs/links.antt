pub mod KnownLists
pub mod ResumePlacesByNode
