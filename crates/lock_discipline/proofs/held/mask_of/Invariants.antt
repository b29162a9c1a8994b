use Rattle.std.proofs.Common.{◌≡◌, ◌-◌, drop, length}
use Rattle.lock_discipline.specs.Masks.{mask_of}
use Rattle.lock_discipline.proofs.held.mask_of.Given as goal

abbrev pub invariant-loop-high : goal.invariant-loop-high
invariant-loop-high l = l.mask ≡ mask_of (drop (length l.held - l.high) l.held)
