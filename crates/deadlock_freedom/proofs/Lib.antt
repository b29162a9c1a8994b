mod HartReplies
mod Holders
mod LockChains
mod EnabledHarts
mod SettledStops
mod Compilations
mod Worked
