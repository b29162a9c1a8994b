use Rattle.std.proofs.Common.{◌≡◌, drop}
use Rattle.ido_base.specs.Locks.{held_from}
use Rattle.lock_table.proofs.table.LockTable.least_held.Given as goal

abbrev pub invariant-loop-lock : goal.invariant-loop-lock
invariant-loop-lock l = held_from 0 l.self l.hart ≡ held_from l.lock (drop l.lock l.self) l.hart
