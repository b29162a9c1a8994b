pub mod ItemLists
pub mod BoundaryCode
