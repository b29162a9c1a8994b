-- A store stands after its evaluation alone.
use Rattle.std.proofs.Common.{◌≡◌, ◌⊎◌, inl, inr, ℕ, zero, suc, List, [], ◌∷◌, refl, ap, arith, sym, ◌∙◌, subst, Bool, true, false, Some}
use Rattle.std.specs.Prelude.{slice_get, Contains}
use Rattle.std.proofs.lemmas.Option.{none-some, same_Some}
use Rattle.c_tree.specs.Exprs as e
use Rattle.c_tree.specs.Flats as f
use Rattle.c_tree.specs.WellFormed.{IsWellFormed}
use Rattle.flow_graph.specs.Nodes.{Action, Eval, Store, Test, Lock, Unlock, End, Node, successors}
use Rattle.flow_graph.specs.Lowering.{lowered, threads_nodes}
use Rattle.flow_graph.specs.Liveness.{NodeAt}
use Rattle.flow_graph.specs.Lockstep.{Standing, free, threads_standings}
use Rattle.flow_graph.proofs.Public.{lowered_nodes, At, ActionLeads, Tests, chooses, repeats, Agree, agrees}

-- after it a store is pending
abbrev pub owes : Action → Bool
owes (Eval (e.ToLocal place local kind) value next) = false
owes (Eval (e.ToVariable place variable kind) value next) = true
owes (Eval (e.ToElement place variable kind index) value next) = true
owes (Store variable kind next) = false
owes (Test condition holds fails) = false
owes (Lock lock next) = false
owes (Unlock lock next) = false
owes End = false

abbrev pub is_store : Action → Bool
is_store (Eval target value next) = false
is_store (Store variable kind next) = true
is_store (Test condition holds fails) = false
is_store (Lock lock next) = false
is_store (Unlock lock next) = false
is_store End = false

pub only_one : (m n : ℕ) → Contains (m ∷ []) n → m ≡ n
only_one m n (zero, l, is) = is
only_one m n (suc i, l, is) = absurd (omega arith)

pub one_of_two : (m k n : ℕ) → Contains (m ∷ k ∷ []) n → (m ≡ n) ⊎ (k ≡ n)
one_of_two m k n (zero, l, is) = inl is
one_of_two m k n (suc zero, l, is) = inr is
one_of_two m k n (suc (suc i), l, is) = absurd (omega arith)

standing_of : (all : List Standing) (ns : List Node) (ss : List Standing) (k : ℕ) (n : Node) → Agree all ns ss → slice_get ns k ≡ Some n →
    (s : Standing) × (slice_get ss k ≡ Some s) × ActionLeads all n.action s
standing_of all [] ss k n h g = absurd (none-some n g)
standing_of all (x ∷ ns) [] k n h g = absurd h
standing_of all (x ∷ ns) (s ∷ ss) zero n h g = (s, refl, subst (λ (y : Node). ActionLeads all y.action s) (same_Some x n g) h.0)
standing_of all (x ∷ ns) (s ∷ ss) (suc k) n h g = standing_of all ns ss k n h.1 g

module _ (all : List Standing) where
  owes_is : (a : Action) (s : Standing) → ActionLeads all a s → s.owes ≡ is_store a
  owes_is (Eval target value next) s d = ap (λ (z : Standing). z.owes) d.is
  owes_is (Store variable kind next) s d = ap (λ (z : Standing). z.owes) d.is
  owes_is (Test condition holds fails) s d = by d
    where
      by : Tests all condition holds fails s → s.owes ≡ false
      by (chooses place body arms otherwise rest is h k) = ap (λ (z : Standing). z.owes) is
      by (repeats place body rest is h k) = ap (λ (z : Standing). z.owes) is
  owes_is (Lock lock next) s d = ap (λ (z : Standing). z.owes) d.is
  owes_is (Unlock lock next) s d = ap (λ (z : Standing). z.owes) d.is
  owes_is End s d = ap (λ (z : Standing). z.owes) d

  -- nothing is owed at the node
  record IsFree (next : ℕ) : Type 0 where
    left : List f.Statement
    at : At all next (free left)

  one_free : (n next : ℕ) (left : List f.Statement) → At all n (free left) → Contains (n ∷ []) next → IsFree next
  one_free n next left a c = subst (λ (z : ℕ). IsFree z) (only_one n next c) (record { left = left; at = a })

  two_free : (n m next : ℕ) → IsFree n → IsFree m → Contains (n ∷ m ∷ []) next → IsFree next
  two_free n m next a b c = by (one_of_two n m next c)
    where
      by : (n ≡ next) ⊎ (m ≡ next) → IsFree next
      by (inl same) = subst (λ (z : ℕ). IsFree z) same a
      by (inr same) = subst (λ (z : ℕ). IsFree z) same b

  free_after : (a : Action) (s : Standing) (next : ℕ) → ActionLeads all a s → owes a ≡ false → Contains (successors a) next → IsFree next
  free_after (Eval (e.ToLocal place local kind) value n) s next d none c = one_free n next d.rest d.follows c
  free_after (Eval (e.ToVariable place variable kind) value n) s next d none c = absurd (let z : ⊥ = cc none in z)
  free_after (Eval (e.ToElement place variable kind index) value n) s next d none c = absurd (let z : ⊥ = cc none in z)
  free_after (Store variable kind n) s next d none c = one_free n next d.rest d.follows c
  free_after (Test condition holds fails) s next d none c = by d
    where
      by : Tests all condition holds fails s → IsFree next
      by (chooses place body arms otherwise rest is h k) = two_free holds fails next (record { left = _; at = h }) (record { left = _; at = k }) c
      by (repeats place body rest is h k) = two_free holds fails next (record { left = _; at = h }) (record { left = _; at = k }) c
  free_after (Lock lock n) s next d none c = one_free n next d.rest d.follows c
  free_after (Unlock lock n) s next d none c = one_free n next d.rest d.follows c
  free_after End s next d none (i, l, is) = absurd (omega (arith, l))

pub no_store_after : (x : f.Flat) → IsWellFormed x → (node next : ℕ) (n m : Node) → NodeAt (lowered x) node n → NodeAt (lowered x) next m →
    owes n.action ≡ false → Contains (successors n.action) next → is_store m.action ≡ false
no_store_after x w node next n m at there none c =
    let all : List Standing = threads_standings x.threads in
    let here : slice_get (threads_nodes x x.threads 0) node ≡ Some n = ap (λ (ns : List Node). slice_get ns node) (sym (lowered_nodes x)) ∙ at in
    let after : slice_get (threads_nodes x x.threads 0) next ≡ Some m = ap (λ (ns : List Node). slice_get ns next) (sym (lowered_nodes x)) ∙ there in
    let s = standing_of all (threads_nodes x x.threads 0) all node n (agrees x w.threads) here in
    let r = standing_of all (threads_nodes x x.threads 0) all next m (agrees x w.threads) after in
    let free_there : IsFree all next = free_after all n.action s.0 next s.2 none c in
    sym (owes_is all m.action r.0 r.2) ∙ ap (λ (z : Standing). z.owes) (same_Some r.0 (free free_there.left) (sym r.1 ∙ free_there.at))
