use Rattle.std.proofs.Common.{◌≡◌, ◌/◌, ◌==◌, drop}
use Rattle.std.specs.List.{list_any}
use Rattle.boundary_code.proofs.code.is_in_use.Given as goal

abbrev pub invariant-loop-slot : goal.invariant-loop-slot
invariant-loop-slot l = list_any (λ slot. slot / 8 == l.line) (drop l.slot-index l.slots) ≡ list_any (λ slot. slot / 8 == l.line) l.slots
