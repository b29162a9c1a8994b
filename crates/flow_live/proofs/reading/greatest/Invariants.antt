use Rattle.std.proofs.Common.{ℕ, ◌<◌, ◌≤◌, get_or}
use Rattle.flow_live.proofs.reading.greatest.Given as goal

abbrev pub invariant-loop-local : goal.invariant-loop-local
invariant-loop-local l = (l.least ≤ l.most) × ((k : ℕ) → k < l.local-index → get_or l.locals k 0 ≤ l.most)
