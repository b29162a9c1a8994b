-- What crates above may use of this crate's proofs, passed on from one place. Declares nothing.
pub use Rattle.image_runs.proofs.SpreadWords.{word_there, words_are}
