pub mod KnownReferences
pub mod Origins
pub mod GraphStates
pub mod AttemptsInRegion
pub mod PendingCleans
pub mod Laws
