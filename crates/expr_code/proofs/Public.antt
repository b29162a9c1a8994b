-- What crates above may use of this crate's proofs, passed on from one place. Declares nothing.
pub use Rattle.expr_code.proofs.Addresses.{IsNear, bytes_small, near_declared}
pub use Rattle.expr_code.proofs.CodeComposition.{at_left, computed, room_right, then_ends, wider}
pub use Rattle.expr_code.proofs.ElementLoadCode.{absolute, all_held, free_first, index_of}
pub use Rattle.expr_code.proofs.PreservedRegisters.{local_kept, locals_kept, or_left, or_right, same_register, still_there}
pub use Rattle.expr_code.proofs.PureCode.{among_append, constant_none}
pub use Rattle.expr_code.proofs.RunComposition.{stands_right}
