use Rattle.std.proofs.Common.{◌≡◌, map, take}
use Rattle.lock_discipline.proofs.Threads.{walk_from, rows, row_of}
use Rattle.lock_discipline.proofs.held.check.Given as goal

abbrev pub invariant-loop-thread : goal.invariant-loop-thread
invariant-loop-thread l = record {
  walk : walk_from l.language l.flat 0 ≡ walk_from l.language l.flat l.thread-index;
  sets : rows l.threads.items ≡ map (row_of l.flat) (take l.thread-index l.flat.threads.items);
}
