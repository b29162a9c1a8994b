mod Commands
mod Worked
