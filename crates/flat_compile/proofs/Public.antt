-- What crates above may use of this crate's proofs, passed on from one place. Declares nothing.
pub use Rattle.flat_compile.proofs.LiveLocals.{coloured, few_colours, home_is}
pub use Rattle.flat_compile.proofs.ResumeEntries.{HasEntry, entry_at}
pub use Rattle.flat_compile.proofs.Systems.{node_there}
