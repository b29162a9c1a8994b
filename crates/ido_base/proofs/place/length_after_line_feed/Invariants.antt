use Rattle.std.proofs.Common.{◌≡◌, ◌≤◌, take}
use Rattle.std.specs.Prelude.{reverse, ◌==◌, not}
use Rattle.std.specs.List.{prefix_len}
use Rattle.ido_base.specs.Places.{line_feed}
use Rattle.ido_base.proofs.place.length_after_line_feed.Given as goal

abbrev pub invariant-loop-c : goal.invariant-loop-c
invariant-loop-c l = (l.after ≡ prefix_len (λ c. not (c == line_feed)) (reverse (take l.c-index l.text))) × (l.after ≤ l.c-index)
