use Rattle.std.proofs.Common.{◌≡◌, drop}
use Rattle.ido_base.specs.Locks.{held_from}
use Rattle.source_machine.proofs.locks.holds_none.Given as goal

abbrev pub invariant-loop-holder : goal.invariant-loop-holder
invariant-loop-holder l = held_from 0 l.holders l.thread ≡ held_from l.holder-index (drop l.holder-index l.holders) l.thread
