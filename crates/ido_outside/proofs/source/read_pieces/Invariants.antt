use Rattle.std.proofs.Common.{◌≤◌, ◌-◌, vec_len}
use Rattle.ido_outside.specs.links.GatheredBytes.{Gathers}
use Rattle.ido_outside.proofs.source.read_pieces.Given as goal

-- what was taken so far stands after the bytes, within the limit, and the count of faults has not fallen
abbrev pub invariant-loop : goal.invariant-loop
invariant-loop g l = record {
  gathered : Gathers (g.S.Source.left l.initial.source) (g.S.Source.left l.source) l.initial.bytes.items l.bytes.items;
  within : vec_len l.bytes ≤ l.limit;
  later : g.S.Source.faults l.initial.source ≤ g.S.Source.faults l.source;
}

abbrev pub decreases-loop : goal.decreases-loop
decreases-loop g l = l.limit - vec_len l.bytes
