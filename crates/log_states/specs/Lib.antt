pub mod Logs
pub mod BanksRead
pub mod Stages
pub mod Machines
pub mod Laws
pub mod LogInvariant
pub mod LogFacts
