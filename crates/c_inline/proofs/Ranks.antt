-- Calls that lead to functions of no higher rank.
use Rattle.std.proofs.Common.{ℕ, ◌<◌, ◌≤◌, List, arith}
use Rattle.c_tree.specs.Inlining.{Call}
use Rattle.c_inline.specs.links.Calls.{CallsLead, there, by_call}
use Rattle.c_inline.specs.links.CallRanks.{AreRanks, rank_at}

-- where calls lead from one function to another, the second one's rank is no higher
lead_down : (cs : List (List Call)) (ranks : _) → AreRanks cs ranks → (to from : ℕ) → CallsLead cs to from → rank_at ranks to ≤ rank_at ranks from
lead_down cs ranks are to from there = omega arith
lead_down cs ranks are to from (by_call _ c made rest) = let one = are from c made in let more = lead_down cs ranks are to c.function rest in
    omega (arith, one, more)

-- calls never lead from a function to one of a higher rank
pub never_back : (cs : List (List Call)) (ranks : _) → AreRanks cs ranks → (to from : ℕ) → rank_at ranks from < rank_at ranks to → CallsLead cs to from → ⊥
never_back cs ranks are to from lower lead = let down = lead_down cs ranks are to from lead in omega (arith, lower, down)
