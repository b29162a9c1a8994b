-- What crates above may use of this crate's proofs, passed on from one place. Declares nothing.
pub use Rattle.log_schemes.proofs.Contents.{contains_none, contains_first, contains_later, contains_cases}
pub use Rattle.log_schemes.proofs.Facts.{scheme, size_holds}
pub use Rattle.log_schemes.proofs.KeptLocks.{IsListed, is_listed, locks_kept}
pub use Rattle.log_schemes.proofs.BankLines.{few_lines, line_below, line_there}
pub use Rattle.log_schemes.proofs.SlotNumbers.{register_exists}
