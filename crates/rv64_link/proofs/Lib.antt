pub mod Public
mod Places
mod Instructions
mod Lockstep
mod Words
mod Threads
