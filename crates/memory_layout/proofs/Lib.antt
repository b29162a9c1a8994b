pub mod Public
mod VariableEnds
mod Laying
mod Filling
mod Worked
