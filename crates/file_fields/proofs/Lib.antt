pub mod Public
mod FieldLaws
mod RepeatedReads
