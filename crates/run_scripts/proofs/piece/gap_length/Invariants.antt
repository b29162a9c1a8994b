use Rattle.std.proofs.Common.{◌≡◌, ◌+◌, ◌-◌, ◌≤◌, length, drop}
use Rattle.run_scripts.specs.links.Lengths.{is_gap, gap_length}
use Rattle.run_scripts.proofs.piece.gap_length.Given as goal

abbrev pub invariant-loop-at : goal.invariant-loop-at
invariant-loop-at l = (gap_length (is_gap l.gap) l.text ≡ l.at + gap_length (is_gap l.gap) (drop l.at l.text)) × (l.at ≤ length l.text)

abbrev pub decreases-loop-at : goal.decreases-loop-at
decreases-loop-at l = length l.text - l.at
