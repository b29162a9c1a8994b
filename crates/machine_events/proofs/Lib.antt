pub mod Public
mod Cores
