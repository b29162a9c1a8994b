pub mod Sites
pub mod Numbers
pub mod Cleans
pub mod BoundaryCode
pub mod Pieces
pub mod JoinedPieces
pub mod links
