mod Objects
mod Worked
