-- What crates above may use of this crate's proofs, passed on from one place. Declares nothing.
pub use Rattle.hart_board.proofs.CoreTurns.{events-append}
pub use Rattle.hart_board.proofs.Dealing.{numbers_more}
pub use Rattle.hart_board.proofs.DealtSeats.{all_dealt}
pub use Rattle.hart_board.proofs.FirstState.{count_from}
pub use Rattle.hart_board.proofs.Journals.{cut_more, entries-append}
