-- What links the code of threads to what they have left to do: nobody has to believe it.
pub mod Spans
pub mod Holders
pub mod Codes
pub mod Threads
pub mod States
pub mod LifeRuns
pub mod SectionEnds
