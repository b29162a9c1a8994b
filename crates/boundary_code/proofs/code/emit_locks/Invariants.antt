use Rattle.std.proofs.Common.{◌≡◌, ◌++◌, drop}
use Rattle.boundary_code.proofs.code.emit_locks.Given as goal
use Rattle.boundary_code.specs.Boundaries.{keep_locks, lists_of}

abbrev pub invariant-loop-lock : goal.invariant-loop-lock
invariant-loop-lock l = record {
  at : l.index ≡ l.lock-index;
  listed : l.code.items ++ keep_locks l.log l.lock-index (lists_of (drop l.lock-index l.locks)) ≡ l.initial.code.items ++ keep_locks l.log 0 (lists_of l.locks);
}
