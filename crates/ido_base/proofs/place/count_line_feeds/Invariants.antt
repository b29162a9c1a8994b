use Rattle.std.proofs.Common.{◌≡◌, ◌≤◌, take}
use Rattle.std.specs.Prelude.{count_by, ◌==◌}
use Rattle.ido_base.specs.Places.{line_feed}
use Rattle.ido_base.proofs.place.count_line_feeds.Given as goal

abbrev pub invariant-loop-c : goal.invariant-loop-c
invariant-loop-c l = (l.count ≡ count_by (λ c. c == line_feed) (take l.c-index l.text)) × (l.count ≤ l.c-index)
