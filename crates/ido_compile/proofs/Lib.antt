pub mod Public
mod Checks
mod FrontEndChecks
mod LoggedTexts
mod ReservedNames
mod LiftedTokens
mod PlainTrees
mod Verdicts
mod Translations
mod SourceLives
