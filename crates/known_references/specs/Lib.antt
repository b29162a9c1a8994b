pub mod Laws
pub mod DurableReferences
