-- What links the walk's code to the discipline: nobody has to believe it.
pub mod Flow
pub mod Uses
pub mod Refusals
pub mod Sets
