-- What crates above may use of this crate's proofs, passed on from one place. Declares nothing.
pub use Rattle.thread_code.proofs.HeldLocks.{has_held, held_fits, held_read_back, mask_has_held, mask_with_held, named_some, names_are}
pub use Rattle.thread_code.proofs.HeldLocks.{names_at, nothing_held, nothing_named, numbers_some, plain_before, plain_numbers}
pub use Rattle.thread_code.proofs.KeptRegistersAtNodes.{enters_again, ready_again, ready_whatever}
pub use Rattle.thread_code.proofs.Locals.{locals_are}
