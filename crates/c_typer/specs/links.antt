pub mod Declarations
pub mod Locals
pub mod Meanings
pub mod FirstFaults
pub mod Places
pub mod Rows
pub mod Scopes
pub mod JoinedPrograms
