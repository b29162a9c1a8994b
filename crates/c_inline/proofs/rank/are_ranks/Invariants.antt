use Rattle.std.proofs.Common.{ℕ, ◌<◌, ◌≤◌}
use Rattle.std.specs.Prelude.{Contains}
use Rattle.c_tree.specs.Inlining.{Call}
use Rattle.c_inline.specs.links.Calls.{calls_at, lists_of}
use Rattle.c_inline.specs.links.CallRanks.{rank_at}
use Rattle.c_inline.proofs.rank.are_ranks.Given as goal

abbrev pub invariant-loop-number : goal.invariant-loop-number
invariant-loop-number l = (g : ℕ) (c : Call) → g < l.number → Contains (calls_at (lists_of l.calls) g) c → rank_at l.ranks c.function ≤ rank_at l.ranks g
