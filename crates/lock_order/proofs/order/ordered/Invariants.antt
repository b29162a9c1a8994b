use Rattle.std.proofs.Common.{◌≡◌}
use Rattle.lock_order.proofs.Walks.{walk_from}
use Rattle.lock_order.proofs.order.ordered.Given as goal

abbrev pub invariant-loop-thread : goal.invariant-loop-thread
invariant-loop-thread l = walk_from l.flat 0 ≡ walk_from l.flat l.thread-index
