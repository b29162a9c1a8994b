pub mod Public
mod Refused
mod LiveKeys
