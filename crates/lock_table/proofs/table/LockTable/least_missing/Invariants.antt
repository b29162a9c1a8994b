use Rattle.std.proofs.Common.{◌≡◌, drop}
use Rattle.ido_base.proofs.Public.{missing_from}
use Rattle.lock_table.proofs.table.LockTable.least_missing.Given as goal

abbrev pub invariant-loop-lock : goal.invariant-loop-lock
invariant-loop-lock l = record { found : missing_from 0 l.self l.mask l.hart ≡ missing_from l.lock (drop l.lock l.self) l.rest l.hart }
