pub mod Public
mod Prefixes
mod Sums
mod Journals
mod StepsKeepInv
mod FirstState
mod JoinsKeepInv
mod CoreTurns
mod MadeEvents
mod StepsAhead
mod ServedTurns
mod TriedTurns
mod Dealing
mod Meetings
mod Gathering
mod DealtSeats
