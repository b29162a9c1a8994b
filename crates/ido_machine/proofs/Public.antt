-- What crates above may use of this crate's proofs, passed on from one place. Declares nothing.
pub use Rattle.ido_machine.proofs.Lists.{from_each, get_is, get_map, get_push, get_some}
pub use Rattle.ido_machine.proofs.SignTables.{entry_stands, own_stands, own_table, placed_is, word_fence, word_mark, word_plain, word_store}
