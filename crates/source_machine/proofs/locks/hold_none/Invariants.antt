use Rattle.std.proofs.Common.{◌≡◌, ◌<◌, ℕ, drop}
use Rattle.ido_base.specs.Locks.{held_from}
use Rattle.source_machine.proofs.locks.hold_none.Given as goal

abbrev pub invariant-loop-holder : goal.invariant-loop-holder
invariant-loop-holder l = (thread : ℕ) → thread < l.threads →
    held_from 0 l.holders thread ≡ held_from l.holder-index (drop l.holder-index l.holders) thread
