-- What crates above may use of this crate's proofs, passed on from one place. Declares nothing.
pub use Rattle.region_cutter.proofs.EachWrite.{assigned_stands, at_each_write}
pub use Rattle.region_cutter.proofs.FewestRegions.{within_limit}
pub use Rattle.region_cutter.proofs.SetsOfThreads.{sets_of_threads}
pub use Rattle.region_cutter.proofs.StretchRegions.{labels_bound}
