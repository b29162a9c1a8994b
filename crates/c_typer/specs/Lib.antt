pub mod Answers
pub mod Laws
pub mod FormLaws
pub mod links
