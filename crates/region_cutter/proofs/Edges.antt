-- The nodes after a node, and the boundaries on the way to them.
use Rattle.std.proofs.Common.{◌≡◌, ◌⊎◌, ◌↔◌, inl, inr, ℕ, zero, suc, ◌||◌, ◌&&◌, Bool, true, false, List, [], ◌∷◌, Option, Some, refl, ap, sym, subst, ◌∙◌}
use Rattle.std.proofs.Common.{arith}
use Rattle.std.specs.Prelude.{slice_get, Contains, IsTrue}
use Rattle.flow_graph.specs.Nodes.{Action, Eval, Store, Test, Lock, Unlock, End, Node, Graph, next_of, other_of, successors}
use Rattle.flow_graph.specs.Liveness.{NodeAt}
use Rattle.flow_graph.specs.IdempotentCuts.{Boundaries, IsEdge, IsBoundary, IsLock, HasBoundaryAfter}
use Rattle.flow_graph.specs.IdempotentCuts as b
use Rattle.region_cutter.specs.links.BoundaryTrials as t
use Rattle.region_cutter.specs.links.Lines.{Leaves, LeadsOver, GoesOnPast, IsPast}
use Rattle.region_cutter.proofs.BoundariesEverywhere.{locked}

-- ---- The nodes after one

After : Action → ℕ → Type 0
After a to = (next_of a ≡ Some to) ⊎ (other_of a ≡ Some to)

one : (l to : ℕ) → Contains (l ∷ []) to → l ≡ to
one l to (zero, lt, is) = is
one l to (suc i, lt, is) = absurd (omega arith)

two : (l m to : ℕ) → Contains (l ∷ m ∷ []) to → (l ≡ to) ⊎ (m ≡ to)
two l m to (zero, lt, is) = inl is
two l m to (suc zero, lt, is) = inr is
two l m to (suc (suc i), lt, is) = absurd (omega arith)

some : (l to : ℕ) → l ≡ to → Some l ≡ Some to
some l to e = ap (λ (x : ℕ). Some x) e

pub after_from : (a : Action) (to : ℕ) → Contains (successors a) to → (next_of a ≡ Some to) ⊎ (other_of a ≡ Some to)
after_from (Eval target value next) to k = inl (some next to (one next to k))
after_from (Store variable kind next) to k = inl (some next to (one next to k))
after_from (Test condition holds fails) to k = elim (two holds fails to k) [ inl e ↦ inl (some holds to e) | inr e ↦ inr (some fails to e) ]
after_from (Lock lock next) to k = inl (some next to (one next to k))
after_from (Unlock lock next) to k = inl (some next to (one next to k))
after_from End to k = absurd (omega (arith, k.1))

first : (l : ℕ) (rest : List ℕ) (to : ℕ) → Some l ≡ Some to → Contains (l ∷ rest) to
first l rest to e = (0, omega arith, let same : l ≡ to = cc in same)

second : (l m to : ℕ) → Some m ≡ Some to → Contains (l ∷ m ∷ []) to
second l m to e = (1, omega arith, let same : m ≡ to = cc in same)

pub after_to : (a : Action) (to : ℕ) → (next_of a ≡ Some to) ⊎ (other_of a ≡ Some to) → Contains (successors a) to
after_to (Eval target value next) to (inl e) = first next [] to e
after_to (Eval target value next) to (inr e) = absurd (cc)
after_to (Store variable kind next) to (inl e) = first next [] to e
after_to (Store variable kind next) to (inr e) = absurd (cc)
after_to (Test condition holds fails) to (inl e) = first holds (fails ∷ []) to e
after_to (Test condition holds fails) to (inr e) = second holds fails to e
after_to (Lock lock next) to (inl e) = first next [] to e
after_to (Lock lock next) to (inr e) = absurd (cc)
after_to (Unlock lock next) to (inl e) = first next [] to e
after_to (Unlock lock next) to (inr e) = absurd (cc)
after_to End to (inl e) = absurd (cc)
after_to End to (inr e) = absurd (cc)

pub edge_to : (g : Graph) (n to : ℕ) (x : Node) → NodeAt g n x → (next_of x.action ≡ Some to) ⊎ (other_of x.action ≡ Some to) → IsEdge g n to
edge_to g n to x at e = record { is = x; at = at; goes = after_to x.action to e }

pub same_node : (g : Graph) (n : ℕ) (x y : Node) → NodeAt g n x → NodeAt g n y → x ≡ y
same_node g n x y at at' = let both : Some x ≡ Some y = sym at ∙ at' in cc

pub edge_from : (g : Graph) (n to : ℕ) (x : Node) → NodeAt g n x → IsEdge g n to → (next_of x.action ≡ Some to) ⊎ (other_of x.action ≡ Some to)
edge_from g n to x at e = subst (λ (y : Node). (next_of y.action ≡ Some to) ⊎ (other_of y.action ≡ Some to)) (same_node g n e.is x e.at at)
    (after_from e.is.action to e.goes)

-- ---- Boundaries after locks

pub is_lock : (g : Graph) (n : ℕ) (x : Node) → NodeAt g n x → IsLock g n → t.locks x.action ≡ true
is_lock g n x at (b.locks y lock next at' is) = ap (λ (z : Node). t.locks z.action) (same_node g n x y at at') ∙ ap t.locks is

pub both : (a c : Bool) → (a && c) ≡ true → (a ≡ true) × (c ≡ true)
both true c e = (refl, e)
both false c e = absurd (cc)

pub and : (a c : Bool) → a ≡ true → c ≡ true → (a && c) ≡ true
and true c e h = h
and false c e h = absurd (cc)

pub has_after_is : (g : Graph) (bs : Boundaries) (n : ℕ) (x : Node) (takes stands : Bool) → NodeAt g n x → takes ≡ t.locks x.action →
    (IsTrue stands ↔ (slice_get bs.after_lock n ≡ Some true)) →
    IsTrue (takes && stands) ↔ HasBoundaryAfter g bs n
has_after_is g bs n x takes stands at e k = (
  λ h. let d = both takes stands h in record { locks = locked g n x x.action at refl (sym e ∙ d.0); stands = k.0 d.1 },
  λ h. and takes stands (e ∙ is_lock g n x at h.locks) (k.1 h.stands),
)

-- ---- A boundary after a node

pub or_either : (a c : Bool) → (a || c) ≡ true → (a ≡ true) ⊎ (c ≡ true)
or_either true c e = inl refl
or_either false c e = inr e

pub or_left : (a c : Bool) → a ≡ true → (a || c) ≡ true
or_left true c e = refl
or_left false c e = absurd (cc)

pub or_right : (a c : Bool) → c ≡ true → (a || c) ≡ true
or_right true c e = refl
or_right false c e = e

-- the second question is asked only where the first leaves it open
pub or_then : (a c : Bool) (P : Type 0) → a ≡ true → (IsTrue (a || c) ↔ P) → IsTrue a ↔ P
or_then true c P e k = k
or_then false c P e k = absurd (cc)

pub or_else : (a c : Bool) (P : Type 0) → a ≡ false → (IsTrue (a || c) ↔ P) → IsTrue c ↔ P
or_else true c P e k = absurd (cc)
or_else false c P e k = k

pub and_then : (a c : Bool) (P : Type 0) → a ≡ true → (IsTrue (a && c) ↔ P) → IsTrue c ↔ P
and_then true c P e k = k
and_then false c P e k = absurd (cc)

pub and_else : (a c : Bool) (P : Type 0) → a ≡ false → (IsTrue (a && c) ↔ P) → IsTrue a ↔ P
and_else true c P e k = absurd (cc)
and_else false c P e k = k

leaves_by : (g : Graph) (bs : Boundaries) (n : ℕ) (x : Node) (after : Bool) (to : Option ℕ) → NodeAt g n x → (IsTrue after ↔ HasBoundaryAfter g bs n) →
    ((node : ℕ) → to ≡ Some node → (next_of x.action ≡ Some node) ⊎ (other_of x.action ≡ Some node)) → LeadsOver bs after to → Leaves g bs n
leaves_by g bs n x after to at k is over = record {
  to = over.node;
  edge = edge_to g n over.node x at (is over.node over.is);
  boundary = elim over.over [ inl e ↦ inl (k.0 e) | inr has ↦ inr has ];
}

leads_by : (g : Graph) (bs : Boundaries) (n : ℕ) (after : Bool) (to : Option ℕ) (h : Leaves g bs n) → (IsTrue after ↔ HasBoundaryAfter g bs n) →
    to ≡ Some h.to →
    LeadsOver bs after to
leads_by g bs n after to h k e = record { node = h.to; is = e; over = elim h.boundary [ inl stands ↦ inl (k.1 stands) | inr has ↦ inr has ] }

pub leaves_is : (g : Graph) (bs : Boundaries) (n : ℕ) (x : Node) (after one two : Bool) → NodeAt g n x → (IsTrue after ↔ HasBoundaryAfter g bs n) →
    (IsTrue one ↔ LeadsOver bs after (next_of x.action)) →
    (IsTrue two ↔ LeadsOver bs after (other_of x.action)) → IsTrue (one || two) ↔ Leaves g bs n
leaves_is g bs n x after one two at k next other = (
  λ h. elim (or_either one two h) [
    | inl e ↦ leaves_by g bs n x after (next_of x.action) at k (λ m is. inl is) (next.0 e)
    | inr e ↦ leaves_by g bs n x after (other_of x.action) at k (λ m is. inr is) (other.0 e)
  ],
  λ h. elim (edge_from g n h.to x at h.edge) [
    | inl is ↦ or_left one two (next.1 (leads_by g bs n after (next_of x.action) h k is))
    | inr is ↦ or_right one two (other.1 (leads_by g bs n after (other_of x.action) h k is))
  ],
)

-- ---- Steps that go on

pub past_is : (g : Graph) (bs : Boundaries) (lines : List (Option ℕ)) (line n : ℕ) (x : Node) → NodeAt g n x → ¬ (Leaves g bs n) → (to : ℕ) →
    IsPast lines line x to ↔ GoesOnPast g bs lines line n to
past_is g bs lines line n x at stays to = (
  λ p. (let edge = edge_to g n to x at p.after in
      record { edge = edge; inside = λ over. stays (record { to = to; edge = edge; boundary = over }); past = p.past }),
  λ s. record { after = edge_from g n to x at s.edge; past = s.past },
)
