-- Marks and numbers that were found say where regions lead.
use Rattle.std.proofs.Common.{◌≡◌, ◌⊎◌, ◌↔◌, inl, inr, ℕ, ◌+◌, ◌<◌, ◌≤◌, Bool, true, false, List, length, get_or, replicate, Option, Some, None, refl}
use Rattle.std.proofs.Common.{ap, sym, subst, ◌∙◌, arith}
use Rattle.std.specs.Prelude.{Contains, IsTrue, slice_get}
use Rattle.std.proofs.lemmas.Option.{slice_get_within, slice_get_cases, slice_get_read, get_or_from_slice_get}
use Rattle.std.proofs.lemmas.List.{get_or_past, get_or-replicate, length-replicate, get_or_default}
use Rattle.ido_base.specs.declared.location.Location.{Location}
use Rattle.flow_graph.specs.declared.graph.Node as code
use Rattle.flow_graph.specs.declared.graph.Graph as declared
use Rattle.flow_graph.specs.Nodes.{Node, Graph, graph_of, node_of}
use Rattle.flow_graph.specs.IdempotentCuts.{Boundaries, BeginsRegion, IsLock, HasBoundaryAfter, HasBefore, IsIdempotent, AreCuts}
use Rattle.flow_graph.proofs.Public.{same_or_other, below_or_past}
use Rattle.region_checker.specs.declared.paths.Path.{Path}
use Rattle.region_checker.specs.links.MarkPropagation.{IsMarked, Marks, ArePaths, AreSpread}
use Rattle.region_checker.specs.Conflicts.{Conflict, AreThere}
use Rattle.region_checker.proofs.RegionPaths.{conflict_from, hits_from, hit_from, hit_to, idempotent_from}
use Rattle.region_checker.specs.links.ConflictSearch.{IsFirstFound, with_read, IsHitSome, WritesOver, WritesSame, Never, Exposes, LeadsToStore, IsHit, HitsAny}
use Rattle.region_checker.specs.links.ConflictSearch.{AreRegions, AreReadAt, AreArrived, AreUnwritten, AreExposed, IsLeastOf, IsPastMarked, IsOver, ExposesOver}
use Rattle.region_checker.specs.links.ConflictSearch.{IsExposedAt, stops_of}
use Rattle.region_checker.proofs.ReachedByMarks.{arrived}
use Rattle.region_checker.proofs.Nodes.{is_of, node_at, node_in, length_nodes, stops_at, one_node}
use Rattle.region_checker.proofs.PropagationPasses.{marked_within}
use Rattle.region_checker.proofs.LeastNumbers.{least_same}

false_true : false ≡ true → ⊥
false_true e = cc

pub none_marked : (k n : ℕ) → IsMarked (replicate {A = Bool} k false) n → ⊥
none_marked k n m = elim (below_or_past n k) [
  | inl lt ↦ false_true (sym (get_or-replicate {A = Bool} k n false false lt) ∙ m)
  | inr past ↦ false_true (sym (get_or_past {X = Bool} (replicate {A = Bool} k false) n false
      (subst (λ (j : ℕ). j ≤ n) (sym (length-replicate {A = Bool} k false)) past)) ∙ m)
]

pub spread_along : (paths paths' : List Path) (stops stops' before before' after : List Bool) → paths' ≡ paths → stops' ≡ stops → before' ≡ before →
    AreSpread paths' stops' before' after → AreSpread paths stops before after
spread_along paths paths' stops stops' before before' after e f h s n =
    subst (λ (ws : List Path). AreSpread ws stops before after) e
    (subst (λ (xs : List Bool). AreSpread paths' xs before after) f
    (subst (λ (xs : List Bool). AreSpread paths' stops' xs after) h s)) n

-- ---- Unwritten locations

pub unwritten_is : (g : declared.Graph) (b : Boundaries) (elements : Location) (paths : List Path) (begins after : List Bool) →
    AreRegions (graph_of g) b paths begins → length after ≡ length begins →
    AreSpread paths (stops_of elements g.nodes.items) begins after → AreUnwritten (graph_of g) b elements after
unwritten_is g b elements paths begins after r long s =
    arrived (graph_of g) b paths (BeginsRegion (graph_of g) b) (WritesSame (graph_of g) elements) begins (stops_of elements g.nodes.items) after
    (record {
      lead = r.lead;
      count = r.begun.count;
      begins = r.begun.each;
      ends = λ n lt. stops_at (graph_of g) g.nodes.items n elements refl (omega (arith, lt, length_nodes g));
    }) long s

-- ---- Exposed reads

exposes_at : (g : declared.Graph) (b : Boundaries) (elements : Location) (unwritten read : List Bool) → AreUnwritten (graph_of g) b elements unwritten →
    AreReadAt g.nodes.items unwritten elements read →
    (n : ℕ) → IsMarked read n ↔ ((n < length (graph_of g).nodes) × Exposes (graph_of g) b elements n)
exposes_at g b elements unwritten read u r n = (
  λ m.
      let lt : n < length g.nodes.items = omega (arith, marked_within read n m, r.count) in
      elim (slice_get_cases g.nodes.items n).1 [
        | inl found ↦ (
            let x = found.0 in
            let at : slice_get g.nodes.items n ≡ Some x = found.2 in
            let d = (r.each n x at).0 m in
            let v = (u.each n).0 d.0 in
            (v.0, record { reads = record { is = node_of x; at = node_at g.nodes.items n x at; reads = d.1 }; unwritten = v.1 }))
        | inr past ↦ absurd (omega (arith, lt, past.0))
      ],
  λ d.
      let e = d.1 in
      let k = is_of g.nodes.items n e.reads.is e.reads.at in
      (r.each n k.is k.at).1 ((u.each n).1 (d.0, e.unwritten), subst (λ (y : Node). Contains y.reads elements) (sym k.same) e.reads.reads),
)

pub exposed_is : (g : declared.Graph) (b : Boundaries) (elements : Location) (paths : List Path) (begins unwritten read after : List Bool) →
    AreRegions (graph_of g) b paths begins →
    AreUnwritten (graph_of g) b elements unwritten → AreReadAt g.nodes.items unwritten elements read → length after ≡ length read →
    AreSpread paths (replicate (length g.nodes.items) false) read after → AreExposed (graph_of g) b elements after
exposed_is g b elements paths begins unwritten read after r u at long s =
    arrived (graph_of g) b paths (Exposes (graph_of g) b elements) Never read (replicate (length g.nodes.items) false) after
    (record {
      lead = r.lead;
      count = at.count ∙ sym (length_nodes g);
      begins = exposes_at g b elements unwritten read u at;
      ends = λ n lt. (λ m. none_marked (length g.nodes.items) n m, λ never. absurd never);
    }) long s

-- ---- Hits

pub hit_is : (g : Graph) (b : Boundaries) (elements : Location) (paths : List Path) (marks : List Bool) (found : Option ℕ) → ArePaths g b paths →
    AreExposed g b elements marks →
    IsLeastOf (IsOver g elements (IsPastMarked paths marks)) found → IsLeastOf (IsHit g b elements) found
hit_is g b elements paths marks found w e p =
    least_same (IsOver g elements (IsPastMarked paths marks)) (IsHit g b elements) found p
    (λ n h. record {
      follows = record { last = h.is.from; comes = ((e.each h.is.from).0 h.is.marked).1; goes = (w.each h.is.from n).0 h.is.leads };
      writes = h.writes;
    })
    (λ n h.
    let f = h.follows in
    let lt : f.last < length g.nodes = slice_get_within g.nodes f.last f.goes.edge.is f.goes.edge.at in
    record { is = record { from = f.last; marked = (e.each f.last).1 (lt, f.comes); leads = (w.each f.last n).1 f.goes }; writes = h.writes })

-- ---- Reads that the store follows

pub one_marked : (k read : ℕ) (marks : List Bool) (grows : Bool) → read < k → Marks (λ n. Some read ≡ Some n) (replicate {A = Bool} k false) marks grows →
    (n : ℕ) → IsMarked marks n ↔ ((n < k) × (n ≡ read))
one_marked k read marks grows lt m n = (
  λ h. elim ((m.has n).0 h) [
    | inl old ↦ absurd (none_marked k n old)
    | inr new ↦ (
        let e : n ≡ read = (let both : Some read ≡ Some n = new.1 in cc) in
        (omega (arith, lt, e), e))
  ],
  λ d. (m.has n).1 (inr (subst (λ (j : ℕ). n < j) (sym (length-replicate {A = Bool} k false)) d.0, ap (λ (j : ℕ). Some j) (sym d.1))),
)

pub follows_is : (g : declared.Graph) (b : Boundaries) (read store : ℕ) (paths : List Path) (begins marks after : List Bool) →
    AreRegions (graph_of g) b paths begins → length marks ≡ length g.nodes.items →
    ((n : ℕ) → IsMarked marks n ↔ ((n < length g.nodes.items) × (n ≡ read))) → length after ≡ length marks →
    AreSpread paths (replicate (length g.nodes.items) false) marks after →
    IsPastMarked paths after store ↔ LeadsToStore (graph_of g) b (λ n. n ≡ read) store
follows_is g b read store paths begins marks after r count is long s =
    let a : AreArrived (graph_of g) b (λ n. n ≡ read) Never after =
    arrived (graph_of g) b paths (λ n. n ≡ read) Never marks (replicate (length g.nodes.items) false) after
    (record {
      lead = r.lead;
      count = count ∙ sym (length_nodes g);
      begins = λ n. subst (λ (k : ℕ). IsMarked marks n ↔ ((n < k) × (n ≡ read))) (sym (length_nodes g)) (is n);
      ends = λ n lt. (λ m. none_marked (length g.nodes.items) n m, λ never. absurd never);
    }) long s in (
      λ h. record { last = h.from; comes = ((a.each h.from).0 h.marked).1; goes = (r.lead.each h.from store).0 h.leads },
      λ f.
          let lt = slice_get_within (graph_of g).nodes f.last f.goes.edge.is f.goes.edge.at in
          record { from = f.last; marked = (a.each f.last).1 (lt, f.comes); leads = (r.lead.each f.last store).1 f.goes },
    )

pub exposed_at_is : (g : declared.Graph) (b : Boundaries) (read store : ℕ) (elements : Location) (marks : List Bool) (flag : Bool) →
    AreUnwritten (graph_of g) b elements marks → read < length g.nodes.items →
    flag ≡ get_or marks read flag → WritesOver (graph_of g) elements store → IsTrue flag ↔ IsExposedAt (graph_of g) b read store elements
exposed_at_is g b read store elements marks flag u lt is over =
    let within : read < length marks = omega (arith, lt, u.count, length_nodes g) in
    let same : flag ≡ get_or marks read false = is ∙ get_or_default marks read flag false within in (
      λ t. record { unwritten = ((u.each read).0 (sym same ∙ t)).1; writes = over },
      λ h. same ∙ (u.each read).1 (omega (arith, lt, length_nodes g), h.unwritten),
    )

contains_at : (xs : List Location) (k : ℕ) (x : Location) → slice_get xs k ≡ Some x → Contains xs x
contains_at xs k x at = (k, slice_get_within xs k x at, get_or_from_slice_get xs k x x at)

pub exposes_from : (g : declared.Graph) (b : Boundaries) (read store k : ℕ) (x : code.Node) (elements : Location) → slice_get g.nodes.items read ≡ Some x →
    slice_get x.reads.items k ≡ Some elements →
    IsExposedAt (graph_of g) b read store elements → ExposesOver (graph_of g) b read store
exposes_from g b read store k x elements at there e = record {
  elements = elements;
  exposes = record {
    reads = record { is = node_of x; at = node_at g.nodes.items read x at; reads = contains_at x.reads.items k elements there };
    unwritten = e.unwritten;
  };
  writes = e.writes;
}

pub exposes_none : (g : declared.Graph) (b : Boundaries) (read store count : ℕ) (x : code.Node) → slice_get g.nodes.items read ≡ Some x →
    length x.reads.items ≤ count →
    ((k : ℕ) (y : Location) → k < count → slice_get x.reads.items k ≡ Some y → ¬ (IsExposedAt (graph_of g) b read store y)) →
    ¬ (ExposesOver (graph_of g) b read store)
exposes_none g b read store count x at le none e =
    let r = e.exposes.reads in
    let same : r.is ≡ node_of x = one_node (graph_of g).nodes read r.is (node_of x) r.at (node_at g.nodes.items read x at) in
    let c : Contains x.reads.items e.elements = subst (λ (y : Node). Contains y.reads e.elements) same r.reads in
    none c.0 e.elements (omega (arith, c.1, le)) (slice_get_read x.reads.items (length x.reads.items) c.0 e.elements refl c.1 (sym c.2))
    (record { unwritten = e.exposes.unwritten; writes = e.writes })

-- ---- Conflicts

pub hits_is : (g : Graph) (b : Boundaries) (read store : ℕ) → ExposesOver g b read store → LeadsToStore g b (λ n. n ≡ read) store → HitsAny g b read store
hits_is g b read store e f = record { elements = e.elements; hits = record { exposes = e.exposes; follows = f; writes = e.writes } }

pub hits_exposes : (g : Graph) (b : Boundaries) (read store : ℕ) → HitsAny g b read store → ExposesOver g b read store
hits_exposes g b read store h = record { elements = h.elements; exposes = h.hits.exposes; writes = h.hits.writes }

pub hits_follows : (g : Graph) (b : Boundaries) (read store : ℕ) → HitsAny g b read store → LeadsToStore g b (λ n. n ≡ read) store
hits_follows g b read store h = h.hits.follows

pub none_more : (P : ℕ → Type 0) (n : ℕ) → ((k : ℕ) → k < n → ¬ (P k)) → ¬ (P n) → (k : ℕ) → k < n + 1 → ¬ (P k)
none_more P n below here k lt p = elim (same_or_other k n) [
  | inl e ↦ here (subst P e p)
  | inr other ↦ below k (omega (arith, lt)) p
]

pub least_here : (P : ℕ → Type 0) (n : ℕ) → ((k : ℕ) → k < n → ¬ (P k)) → P n → IsLeastOf P (Some n)
least_here P n below here = (here, λ k p. elim (below_or_past k n) [ inl lt ↦ absurd (below k lt p) | inr le ↦ le ])

pub reads_within : (g : declared.Graph) (b : Boundaries) (read store : ℕ) → HitsAny (graph_of g) b read store → read < length g.nodes.items
reads_within g b read store h = node_in g read h.hits.exposes.reads.is h.hits.exposes.reads.at

-- ---- The first conflict

pub no_hit : (g : Graph) (b : Boundaries) → IsLeastOf (IsHitSome g b) None → (read store : ℕ) → ¬ (Conflict g b read store)
no_hit g b p read store c = p store (hit_to g b read store (hits_from g b read store c))

pub first_found : (g : Graph) (b : Boundaries) (store : ℕ) (read : Option ℕ) → IsLeastOf (IsHitSome g b) (Some store) →
    IsLeastOf (λ n. HitsAny g b n store) read → IsFirstFound g b (with_read store read)
first_found g b store None p q = λ r s c. let h = hit_from g b store p.0 in q h.read h.hits
first_found g b store (Some read) p q = record {
  is = conflict_from g b read store q.0;
  first = λ r s c. p.1 s (hit_to g b r s (hits_from g b r s c));
  least = λ r c. q.1 r (hits_from g b r store c);
}

-- ---- Cuts

flag_is : (flags : List Bool) (n : ℕ) (flag : Bool) → slice_get flags n ≡ Some flag → (slice_get flags n ≡ Some true) ⊎ ¬ (slice_get flags n ≡ Some true)
flag_is flags n true at = inl at
flag_is flags n false at = inr (λ h. let both : Some false ≡ Some true = sym at ∙ h in absurd (cc))

flag_or_not : (flags : List Bool) (n : ℕ) → (slice_get flags n ≡ Some true) ⊎ ¬ (slice_get flags n ≡ Some true)
flag_or_not flags n = elim (slice_get_cases flags n).1 [
  | inl found ↦ flag_is flags n found.0 found.2
  | inr past ↦ inr (λ h. let both : None ≡ Some true = sym past.1 ∙ h in absurd (cc))
]

after_or_not : (g : Graph) (b : Boundaries) (n : ℕ) → IsLock g n → HasBoundaryAfter g b n ⊎ ¬ (HasBoundaryAfter g b n)
after_or_not g b n l = elim (flag_or_not b.after_lock n) [
  | inl h ↦ inl (record { locks = l; stands = h })
  | inr lacks ↦ inr (λ h. lacks h.stands)
]

before_or_not : (b : Boundaries) (n : ℕ) → HasBefore b n ⊎ ¬ (HasBefore b n)
before_or_not b n = flag_or_not b.before n

pub locks_after : (g : Graph) (b : Boundaries) → AreThere g b → (n : ℕ) → IsLock g n → HasBoundaryAfter g b n
locks_after g b there n l = elim (after_or_not g b n l) [ inl h ↦ h | inr lacks ↦ absurd (there n (inl (record { locks = l; lacks = lacks }))) ]

pub cuts_by : (g : Graph) (b : Boundaries) → AreThere g b → IsIdempotent g b → AreCuts g b
cuts_by g b there idempotent = record {
  past_locks = locks_after g b there;
  before_unlocks = λ n u. elim (before_or_not b n) [ inl h ↦ h | inr lacks ↦ absurd (there n (inr (record { unlocks = u; lacks = lacks }))) ];
  idempotent = idempotent;
}

pub cuts_are : (g : Graph) (b : Boundaries) → AreThere g b → ((read store : ℕ) → ¬ (Conflict g b read store)) → AreCuts g b
cuts_are g b there none = cuts_by g b there (idempotent_from g b none)
