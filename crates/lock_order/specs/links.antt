-- What links the walk's code to the order, and the walk to runs: nobody has to believe it.
pub mod Walks
pub mod Ascents
