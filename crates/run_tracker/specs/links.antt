pub mod AccountRepresentation
pub mod EarlierLives
pub mod SectionRepresentation
pub mod LifeRepresentation
pub mod Journals
pub mod LifeParts
pub mod LocalRepresentation
