use Rattle.std.proofs.Common.{ℕ, ◌<◌, ◌≤◌, get_or}
use Rattle.c_inline.specs.links.CallRanks.{rank_at}
use Rattle.c_inline.specs.declared.calls.Call.{Call}
use Rattle.c_inline.proofs.rank.lead_no_higher.Given as goal

abbrev pub invariant-loop-call : goal.invariant-loop-call
invariant-loop-call l = (k : ℕ) (d : Call) → k < l.call-index → rank_at l.ranks (get_or l.calls k d).function ≤ l.rank
