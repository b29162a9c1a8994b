use Rattle.std.proofs.Common.{◌≡◌, ℕ, ◌+◌, ◌≤◌, drop, length, get_or}
use Rattle.rv64_link.specs.LabelledCode.{label_position}
use Rattle.rv64_link.proofs.labels.Labels.new.Given as goal

abbrev pub invariant-loop-at : goal.invariant-loop-at
invariant-loop-at l = record {
  set : (label : ℕ) → get_or l.labels.positions.items label l.labels.end ≡ l.at + label_position label (drop l.at l.items);
  end : l.labels.end ≡ length l.items;
  within : l.at ≤ length l.items;
}

abbrev pub decreases-loop-at : goal.decreases-loop-at
decreases-loop-at l = l.at
