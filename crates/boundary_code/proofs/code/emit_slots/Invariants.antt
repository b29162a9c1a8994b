use Rattle.std.proofs.Common.{◌≡◌, ◌++◌, drop}
use Rattle.boundary_code.specs.Boundaries.{keep_slots}
use Rattle.boundary_code.proofs.code.emit_slots.Given as goal

abbrev pub invariant-loop-register : goal.invariant-loop-register
invariant-loop-register l = l.code.items ++ keep_slots l.log (drop l.register-index l.live) ≡ l.initial.code.items ++ keep_slots l.log l.live
