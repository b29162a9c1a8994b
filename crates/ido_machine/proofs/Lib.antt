pub mod Public
mod Lists
mod Starts
mod BegunAnew
mod MachineEvents
mod LocalStates
mod SignTables
mod LocalRuns
