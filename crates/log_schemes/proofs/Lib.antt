pub mod Public
mod Contents
mod BankLines
mod SlotNumbers
mod Facts
mod KeptLocks
mod Worked
