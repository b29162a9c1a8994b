pub mod Elements
pub mod FewestCuts
pub mod Places
pub mod LocksAtBoundaries
pub mod BoundaryPlaces
pub mod EachWrite
pub mod links
