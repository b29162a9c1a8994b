-- What crates above may use of this crate's proofs, passed on from one place. Declares nothing.
pub use Rattle.machine_events.proofs.Cores.{least_enabled-next, least_enabled-stays, passed_count-more, played-append, played-more}
