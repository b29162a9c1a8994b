pub mod Evaluations
pub mod Locals
pub mod links
pub mod ThreadPieces
pub mod StoreCleans
pub mod Plans
