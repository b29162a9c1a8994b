-- The least number of which something holds.
use Rattle.std.proofs.Common.{◌≡◌, ◌⊎◌, inl, inr, ℕ, ◌+◌, ◌<◌, ◌≤◌, min, Bool, List, length, Option, Some, None, refl, ap, sym, subst, ◌∙◌, arith}
use Rattle.std.specs.Prelude.{slice_get}
use Rattle.std.proofs.lemmas.Option.{slice_get_within, slice_get_read}
use Rattle.ido_base.specs.declared.location.Location.{Location}
use Rattle.flow_graph.specs.Nodes.{Graph}
use Rattle.flow_graph.specs.IdempotentCuts.{Boundaries}
use Rattle.flow_graph.proofs.Public.{same_or_other}
use Rattle.region_checker.specs.declared.paths.Path.{Path}
use Rattle.region_checker.specs.links.MarkPropagation.{IsMarked, IsOn, PathLeads, IsInnerEdge}
use Rattle.region_checker.specs.links.ConflictSearch.{IsLeastOf, lesser, IsOver, IsPastMarked, IsAfterAt, Never, Exposes, IsHit, IsHitSome, AreAllRead}
use Rattle.region_checker.proofs.ReachedByMarks.{origin}

min_cases : (x y : ℕ) → ((min x y ≡ x) × (x ≤ y)) ⊎ ((min x y ≡ y) × (y ≤ x))
min_cases x y = grind (arith)

-- the lesser one of two is the least of both
pub least_both : (P Q R : ℕ → Type 0) (a b : Option ℕ) → IsLeastOf P a → IsLeastOf Q b → ((n : ℕ) → P n → R n) → ((n : ℕ) → Q n → R n) →
    ((n : ℕ) → R n → P n ⊎ Q n) → IsLeastOf R (lesser a b)
least_both P Q R None None p q f f' split = λ n r. elim (split n r) [ inl h ↦ p n h | inr h ↦ q n h ]
least_both P Q R None (Some y) p q f f' split = (f' y q.0, λ n r. elim (split n r) [ inl h ↦ absurd (p n h) | inr h ↦ q.1 n h ])
least_both P Q R (Some x) None p q f f' split = (f x p.0, λ n r. elim (split n r) [ inl h ↦ p.1 n h | inr h ↦ absurd (q n h) ])
least_both P Q R (Some x) (Some y) p q f f' split = elim (min_cases x y) [
  | inl d ↦ (
    subst (λ (k : ℕ). R k) (sym d.0) (f x p.0),
    λ n r. elim (split n r) [ inl h ↦ omega (arith, d.0, p.1 n h) | inr h ↦ omega (arith, d.0, d.1, q.1 n h) ],
  )
  | inr d ↦ (
    subst (λ (k : ℕ). R k) (sym d.0) (f' y q.0),
    λ n r. elim (split n r) [ inl h ↦ omega (arith, d.0, d.1, p.1 n h) | inr h ↦ omega (arith, d.0, q.1 n h) ],
  )
]

pub least_same : (P Q : ℕ → Type 0) (a : Option ℕ) → IsLeastOf P a → ((n : ℕ) → P n → Q n) → ((n : ℕ) → Q n → P n) → IsLeastOf Q a
least_same P Q None p to from = λ n q. p n (from n q)
least_same P Q (Some x) p to from = (to x p.0, λ n q. p.1 n (from n q))

-- ---- After marked nodes

-- a path leads to the node from a marked one among the first `count`
pub record IsAfterBelow (paths : List Path) (marks : List Bool) (count node : ℕ) : Type 0 where
  pub from : ℕ
  pub before : from < count
  pub marked : IsMarked marks from
  pub leads : PathLeads paths from node

pub after_none : (paths : List Path) (marks : List Bool) (node : ℕ) → IsAfterBelow paths marks 0 node → ⊥
after_none paths marks node h = omega (arith, h.before)

pub after_all : (paths : List Path) (marks : List Bool) (count node : ℕ) → length paths ≤ count → IsPastMarked paths marks node →
    IsAfterBelow paths marks count node
after_all paths marks count node le h = record {
  from = h.from;
  before = omega (arith, slice_get_within paths h.from h.leads.path h.leads.at);
  marked = h.marked;
  leads = h.leads;
}

pub boundary_after_is : (paths : List Path) (marks : List Bool) (count node : ℕ) → IsAfterBelow paths marks count node → IsPastMarked paths marks node
boundary_after_is paths marks count node h = record { from = h.from; marked = h.marked; leads = h.leads }

-- the least node over the elements after the first marked nodes and the next one is the lesser of the two
pub first_more : (g : Graph) (elements : Location) (paths : List Path) (marks : List Bool) (count : ℕ) (old new : Option ℕ) →
    IsLeastOf (IsOver g elements (IsAfterBelow paths marks count)) old → IsLeastOf (IsOver g elements (IsAfterAt paths marks count)) new →
    IsLeastOf (IsOver g elements (IsAfterBelow paths marks (count + 1))) (lesser old new)
first_more g elements paths marks count old new p q =
    least_both (IsOver g elements (IsAfterBelow paths marks count)) (IsOver g elements (IsAfterAt paths marks count))
    (IsOver g elements (IsAfterBelow paths marks (count + 1))) old new p q
    (λ n h. record { is = record { from = h.is.from; before = omega (arith, h.is.before); marked = h.is.marked; leads = h.is.leads }; writes = h.writes })
    (λ n h. record { is = record { from = count; before = omega arith; marked = h.is.marked; leads = h.is.leads }; writes = h.writes })
    (λ n h. elim (same_or_other h.is.from count) [
      | inl e ↦
          inr
          (record {
            is = record { marked = subst (λ (k : ℕ). IsMarked marks k) e h.is.marked; leads = subst (λ (k : ℕ). PathLeads paths k n) e h.is.leads };
            writes = h.writes;
          })
      | inr other ↦
          inl (record { is = record { from = h.is.from; before = omega (arith, h.is.before); marked = h.is.marked; leads = h.is.leads }; writes = h.writes })
    ])

pub first_marked : (g : Graph) (elements : Location) (paths : List Path) (marks : List Bool) (n : ℕ) (path : Path) (found : Option ℕ) →
    slice_get paths n ≡ Some path → IsMarked marks n →
    IsLeastOf (IsOver g elements (IsOn path)) found → IsLeastOf (IsOver g elements (IsAfterAt paths marks n)) found
first_marked g elements paths marks n path found at m p =
    least_same (IsOver g elements (IsOn path)) (IsOver g elements (IsAfterAt paths marks n)) found p
    (λ k h. record { is = record { marked = m; leads = record { path = path; at = at; goes = h.is } }; writes = h.writes })
    (λ k h.
    let both : Some h.is.leads.path ≡ Some path = sym h.is.leads.at ∙ at in
    let same : h.is.leads.path ≡ path = cc in
    record { is = subst (λ (w : Path). IsOn w k) same h.is.leads.goes; writes = h.writes })

pub first_unmarked : (g : Graph) (elements : Location) (paths : List Path) (marks : List Bool) (n : ℕ) → (IsMarked marks n → ⊥) →
    IsLeastOf (IsOver g elements (IsAfterAt paths marks n)) None
first_unmarked g elements paths marks n m = λ k h. m h.is.marked

-- ---- Hits of locations, one after another

-- one of the first locations is hit
pub record IsHitBelow (g : Graph) (b : Boundaries) (locations : List Location) (count store : ℕ) : Type 0 where
  pub k : ℕ
  pub before : k < count
  pub elements : Location
  pub at : slice_get locations k ≡ Some elements
  pub hit : IsHit g b elements store

pub hit_none : (g : Graph) (b : Boundaries) (locations : List Location) → IsLeastOf (IsHitBelow g b locations 0) None
hit_none g b locations = λ n h. omega (arith, h.before)

pub hit_more : (g : Graph) (b : Boundaries) (locations : List Location) (count : ℕ) (elements : Location) (old new : Option ℕ) →
    slice_get locations count ≡ Some elements →
    IsLeastOf (IsHitBelow g b locations count) old → IsLeastOf (IsHit g b elements) new → IsLeastOf (IsHitBelow g b locations (count + 1)) (lesser old new)
hit_more g b locations count elements old new at p q =
    least_both (IsHitBelow g b locations count) (IsHit g b elements) (IsHitBelow g b locations (count + 1)) old new p q
    (λ n h. record { k = h.k; before = omega (arith, h.before); elements = h.elements; at = h.at; hit = h.hit })
    (λ n h. record { k = count; before = omega arith; elements = elements; at = at; hit = h })
    (λ n h. elim (same_or_other h.k count) [
      | inl e ↦ (
          let both : Some h.elements ≡ Some elements = sym h.at ∙ ap (λ k. slice_get locations k) e ∙ at in
          let same : h.elements ≡ elements = cc in
          inr (subst (λ (x : Location). IsHit g b x n) same h.hit))
      | inr other ↦ inl (record { k = h.k; before = omega (arith, h.before); elements = h.elements; at = h.at; hit = h.hit })
    ])

pub hit_all : (g : Graph) (b : Boundaries) (locations : List Location) (count : ℕ) (found : Option ℕ) → length locations ≤ count → AreAllRead g locations →
    IsLeastOf (IsHitBelow g b locations count) found → IsLeastOf (IsHitSome g b) found
hit_all g b locations count found le all p =
    least_same (IsHitBelow g b locations count) (IsHitSome g b) found p
    (λ n h. record { elements = h.elements; hit = h.hit })
    (λ n h.
    let o = origin (IsInnerEdge g b) (Exposes g b h.elements) Never h.hit.follows.last h.hit.follows.comes in
    let k = all.each h.elements o.first o.is.reads in
    record {
      k = k.0;
      before = omega (arith, k.1);
      elements = h.elements;
      at = slice_get_read locations (length locations) k.0 h.elements refl k.1 (sym k.2);
      hit = h.hit;
    })
