-- No two places where a thread may be resumed have one address.
use Rattle.std.proofs.Common.{◌≡◌, inl, inr, ℕ, ◌<◌, ◌∙◌, ap, sym, subst, arith, Some}
use Rattle.std.proofs.lemmas.Bool.{cases_lt}
use Rattle.std.proofs.lemmas.Option.{same_Some}
use Rattle.flow_graph.specs.Nodes.{Node, next_of}
use Rattle.flow_graph.specs.IdempotentCuts.{IsChosen}
use Rattle.flow_graph.specs.Liveness.{NodeAt}
use Rattle.code_runs.specs.CodeTraces.{Program}
use Rattle.thread_code.specs.Plans.{Plan, IsPlan, Thread, IsThread, IsNodeOf}
use Rattle.thread_code.specs.Programs.{IsThreadCode}
use Rattle.flat_compile.specs.ResumePlaces.{Spot, Before, After, address_in, IsSpot, past_lock, past_unlock}
use Rattle.flat_compile.specs.links.ResumePlacesByNode.{rank}
use Rattle.flat_compile.proofs.ResumeAddresses.{rises}

module _ (p : Plan) (t : Thread) where
  -- the node whose ECALL it is after leads to the one that the thread goes on at
  record Leads (node next : ℕ) : Type 0 where
    is : Node
    at : NodeAt p.graph node is
    goes_on : next_of is.action ≡ Some next

  leads : (node next : ℕ) → IsSpot p t (After node next) → Leads node next
  leads node next (past_lock n lock to is own at does) = record { is = is; at = at; goes_on = ap next_of does }
  leads node next (past_unlock n lock to is own at does some) = record { is = is; at = at; goes_on = ap next_of does }

  one_next : (n m x y : ℕ) → n ≡ m → Leads n x → Leads m y → x ≡ y
  one_next n m x y same a b =
      let node : a.is ≡ b.is = same_Some a.is b.is (sym a.at ∙ subst (λ (k : ℕ). NodeAt p.graph k b.is) (sym same) b.at) in
      same_Some x y (sym a.goes_on ∙ ap (λ (z : Node). next_of z.action) node ∙ b.goes_on)

  same_rank : (a b : Spot) → IsSpot p t a → IsSpot p t b → rank a ≡ rank b → a ≡ b
  same_rank (Before n) (Before m) a b e = let same : n ≡ m = omega (arith, e) in ap (λ (k : ℕ). Before k) same
  same_rank (Before n) (After m y) a b e = absurd (omega (arith, e))
  same_rank (After n x) (Before m) a b e = absurd (omega (arith, e))
  same_rank (After n x) (After m y) a b e =
      let same : n ≡ m = omega (arith, e) in
      let next : x ≡ y = one_next n m x y same (leads n x a) (leads m y b) in
      ap (λ (k : ℕ). After k x) same ∙ ap (λ (k : ℕ). After m k) next

  module _ (plan : IsPlan p) (th : IsThread p t) (program : Program) (code : IsThreadCode p t program)
      (spaced : (node : ℕ) → IsNodeOf t node → IsChosen p.graph p.boundaries node → code.places.entry node < code.places.core node) where
    pub spots_apart : (a b : Spot) → IsSpot p t a → IsSpot p t b → address_in code.places a ≡ address_in code.places b → a ≡ b
    spots_apart a b one other same = elim (cases_lt (rank a) (rank b)) [
      | inl up ↦ absurd (let r = rises p plan t th program code spaced a b one other up in omega (arith, r, same))
      | inr down ↦ elim (cases_lt (rank b) (rank a)) [
        | inl up ↦ absurd (let r = rises p plan t th program code spaced b a other one up in omega (arith, r, same))
        | inr level ↦ same_rank a b one other (omega (arith, down, level))
      ]
    ]
