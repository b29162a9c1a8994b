pub mod LoggedTexts
pub mod CompileAnswers
pub mod Verdicts
pub mod FormLaws
pub mod Files
pub mod links
