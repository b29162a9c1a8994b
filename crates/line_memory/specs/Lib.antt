pub mod Access
pub mod ChangedWords
pub mod links
