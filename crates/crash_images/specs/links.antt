pub mod Views
pub mod WrittenLives
