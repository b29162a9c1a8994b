pub mod Prefixes
pub mod Nestings
pub mod ParserFunctions
pub mod ParserContracts
pub mod Rows
pub mod ParserSteps
pub mod Tokens
pub mod ParserOutcomes
