pub mod Public
mod Worked
mod Growth
mod Parts
mod Masks
mod LockLists
mod WorkedLocks
