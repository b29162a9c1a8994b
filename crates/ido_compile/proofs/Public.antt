-- What crates above may use of this crate's proofs, passed on from one place. Declares nothing.
pub use Rattle.ido_compile.proofs.Checks.{few_accepted, few_threads}
pub use Rattle.ido_compile.proofs.FrontEndChecks.{by_error}
