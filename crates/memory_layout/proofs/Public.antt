-- What crates above may use of this crate's proofs, passed on from one place. Declares nothing.
pub use Rattle.memory_layout.proofs.Filling.{bytes-more, bytes-none, filled, get_below}
pub use Rattle.memory_layout.proofs.VariableEnds.{AreSizes, address, aligned_small, end_within, none, product_small, sizes}
