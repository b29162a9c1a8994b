pub mod Public
mod Images
mod WrittenImages
mod Worked
