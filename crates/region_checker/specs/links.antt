-- What links the code to the definitions.
pub mod MarkPropagation
pub mod ConflictSearch
pub mod LabelSearch
