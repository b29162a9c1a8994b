pub mod Inline
pub mod CallLaws
pub mod FormLaws
pub mod links
