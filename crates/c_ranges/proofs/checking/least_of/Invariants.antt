use Rattle.std.proofs.Common.{take}
use Rattle.c_ranges.specs.links.FirstNull.{IsLeastOf}
use Rattle.c_ranges.proofs.checking.least_of.Given as goal

-- the least of the places before
abbrev pub invariant-loop-place : goal.invariant-loop-place
invariant-loop-place l = IsLeastOf (take l.place-index l.places) l.least
