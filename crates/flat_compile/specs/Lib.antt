pub mod ResumePlaces
pub mod TranslatedForms
pub mod links
