pub mod Corners
pub mod FirstNull
pub mod FirstUnfitIndex
