-- What crates above may use of this crate's proofs, passed on from one place. Declares nothing.
pub use Rattle.hart_driver.proofs.BoardEnds.{can_run, is_seat}
pub use Rattle.hart_driver.proofs.RunSeats.{all_below, refilled, same_numbers}
