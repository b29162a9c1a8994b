pub mod Public
mod HistoriesGrow
mod Memories
mod NewCells
mod WordParts
mod Rings
mod CellLoopSteps
