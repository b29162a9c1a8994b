pub mod EvaluationCode
pub mod links
