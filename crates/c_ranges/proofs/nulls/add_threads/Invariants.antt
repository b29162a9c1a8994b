use Rattle.std.proofs.Common.{◌≡◌, ◌++◌, drop}
use Rattle.c_ranges.specs.links.FirstNull.{threads_nulls}
use Rattle.c_ranges.proofs.nulls.add_threads.Given as goal

abbrev pub invariant-loop-thread : goal.invariant-loop-thread
invariant-loop-thread l = l.places.items ++ threads_nulls (drop l.thread-index l.threads) ≡ l.initial.places.items ++ threads_nulls l.threads
