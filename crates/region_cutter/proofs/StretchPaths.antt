-- Where straight code is divided into regions that may be run again, and boundaries stand before all other nodes that write, all regions may.
use Rattle.std.proofs.Common.{◌≡◌, ◌⊎◌, inl, inr, ℕ, zero, suc, ◌+◌, ◌-◌, ◌<◌, ◌≤◌, List, [], ◌∷◌, length, get_or, Some, refl, ap, sym, subst}
use Rattle.std.proofs.Common.{◌∙◌, arith}
use Rattle.std.specs.Prelude.{slice_get, Contains, IsTrue}
use Rattle.std.proofs.Math.Nat.{eq-or-lt_of_le}
use Rattle.std.proofs.lemmas.Option.{slice_get_within, slice_get-get_or}
use Rattle.ido_base.specs.declared.location.Location.{Location}
use Rattle.ido_base.specs.Locations.{overlap}
use Rattle.flow_graph.specs.Nodes.{Node, Graph}
use Rattle.flow_graph.specs.Liveness.{NodeAt}
use Rattle.flow_graph.specs.IdempotentCuts.{Boundaries, IsEdge, IsInside, stays, goes_on, IsIdempotent, IsLock, IsUnlock, HasBefore, HasBoundaryAfter}
use Rattle.flow_graph.specs.IdempotentCuts.{BeginsRegion, past_lock, at_boundary, ReadsAt, Writes, IsWrittenBefore}
use Rattle.flow_graph.proofs.Public.{below_or_past}
use Rattle.region_cutter.specs.Elements.{ReadsElements, WritesSame}
use Rattle.region_cutter.specs.FewestCuts.{Synchronises, IsStretch, Conflict, ConflictOver, Divides, one_region}
use Rattle.region_cutter.specs.FewestCuts.{region_and, AreInside, none_inside, one_inside, AreFewestCuts}
use Rattle.region_cutter.specs.links.FewBoundaries.{IsInStretch}
use Rattle.region_cutter.specs.links.RemovalPaths.{Inside}
use Rattle.region_cutter.proofs.Lists.{some_same}
use Rattle.region_cutter.proofs.Edges.{same_node}
use Rattle.region_cutter.proofs.BoundariesEverywhere.{entered}
use Rattle.region_cutter.proofs.ConflictPaths.{writes_same_or_not}
use Rattle.region_cutter.proofs.RegionLimits.{widened}
use Rattle.region_cutter.proofs.StretchRegions.{plain_no_lock}

-- ---- Paths into straight code

step_at : (g : Graph) (b : Boundaries) (path : List ℕ) → IsInside g b path → (p from to : ℕ) → slice_get path p ≡ Some from →
    slice_get path (suc p) ≡ Some to → Inside g b from to
step_at g b path (stays node) p from to at at' = absurd (cc)
step_at g b path (goes_on x y rest edge free inside) zero from to at at' =
    let step : Inside g b x y = record { edge = edge; free = free } in
    subst (λ (n : ℕ). Inside g b n to) (some_same x from at) (subst (λ (m : ℕ). Inside g b x m) (some_same y to at') step)
step_at g b path (goes_on x y rest edge free inside) (suc p) from to at at' = step_at g b (y ∷ rest) inside p from to at at'

-- the node before one of a path
earlier_there : (path : List ℕ) (p to : ℕ) → slice_get path (suc p) ≡ Some to → slice_get path p ≡ Some (get_or path p 0)
earlier_there path p to at = (let lt : suc p < length path = slice_get_within path (suc p) to at in slice_get-get_or path p 0 (omega (arith, lt)))

-- a path comes to a node of straight code by those before it
walked : (g : Graph) (b : Boundaries) (first past : ℕ) → IsStretch g first past → (path : List ℕ) → IsInside g b path → (j to d p node : ℕ) →
    slice_get path j ≡ Some to → to < past → p + d ≡ j → node + d ≡ to → first ≤ node → slice_get path p ≡ Some node
walked g b first past s path inside j to zero p node at lt e e' le =
    subst (λ (n : ℕ). slice_get path p ≡ Some n) (omega (arith, e')) (subst (λ (q : ℕ). slice_get path q ≡ Some to) (omega (arith, e)) at)
walked g b first past s path inside j to (suc d) p node at lt e e' le =
    let next = walked g b first past s path inside j to d (suc p) (suc node) at lt (omega (arith, e)) (omega (arith, e')) (omega (arith, le)) in
    let here = earlier_there path p (suc node) next in
    let step = step_at g b path inside p (get_or path p 0) (suc node) here next in
    here ∙ ap (λ (n : ℕ). Some n) (s.only_from node (get_or path p 0) le (omega (arith, e', lt)) step.edge)

-- ---- Regions of straight code

narrower : (g : Graph) (from to wide : ℕ) → to ≤ wide → ¬ (Conflict g from wide) → ¬ (Conflict g from to)
narrower g from to wide le free c = free (c.0, widened g c.0 from to wide le c.1)

-- a region begins at that node, and passes none before which a boundary stands
region_free : (g : Graph) (b : Boundaries) (past from : ℕ) (cuts : List ℕ) → AreInside b past from cuts → Divides g past from cuts → (start to : ℕ) →
    from ≤ start → start < to → to < past → (from < start → HasBefore b start) → ((n : ℕ) → start < n → n ≤ to → ¬ (HasBefore b n)) →
    ¬ (Conflict g start (suc to))
region_free g b past from [] (none_inside _ never) (one_region _ lt free) start to le l end begins none = elim (eq-or-lt_of_le le) [
  | inl is ↦ subst (λ (n : ℕ). ¬ (Conflict g n (suc to))) is (narrower g from (suc to) past (omega (arith, end)) free)
  | inr more ↦ absurd (never start more (omega (arith, l, end)) (begins more))
]
region_free g b past from (cut ∷ cuts) (one_inside _ _ _ a before stands never rest) (region_and _ _ _ lt free divides) start to le l end begins none =
    elim (eq-or-lt_of_le le) [
      | inl is ↦ (
          let far : suc to ≤ cut = elim (below_or_past to cut) [
            | inl less ↦ omega (arith, less)
            | inr past' ↦ absurd (none cut (omega (arith, is, a)) past' stands)
          ] in
          subst (λ (n : ℕ). ¬ (Conflict g n (suc to))) is (narrower g from (suc to) cut far free))
      | inr more ↦ elim (below_or_past start cut) [
        | inl less ↦ absurd (never start more less (begins more))
        | inr past' ↦ region_free g b past cut cuts rest divides start to past' l end (λ m. begins more) none
      ]
    ]

-- ---- What was written before

find : (g : Graph) (e : Location) (from count : ℕ) →
    ((n : ℕ) × (from ≤ n) × (n < from + count) × WritesSame g e n) ⊎ ((n : ℕ) → from ≤ n → n < from + count → ¬ (WritesSame g e n))
find g e from zero = inr (λ n a b. absurd (omega (arith, a, b)))
find g e from (suc count) = elim (find g e from count) [
  | inl k ↦ inl (k.0, k.1, omega (arith, k.2), k.3)
  | inr never ↦ elim (writes_same_or_not g e (from + count)) [
    | inl answer ↦ inl (from + count, omega arith, omega arith, answer)
    | inr not ↦ inr (λ n a b. elim (below_or_past n (from + count)) [
      | inl less ↦ never n a less
      | inr most ↦ (
          let is : from + count ≡ n = omega (arith, b, most) in
          subst (λ (m : ℕ). ¬ (WritesSame g e m)) is not)
    ])
  ]
]

-- a region's path whose nodes from `start` on stand one after another at positions from `shift` on, up to one that writes
record IsRun (g : Graph) (b : Boundaries) (first past : ℕ) (path : List ℕ) (j to : ℕ) : Type 0 where
  pub start : ℕ
  pub shift : ℕ
  pub from_first : first ≤ start
  pub not_past : start ≤ to
  pub there : (p node : ℕ) → start ≤ node → node ≤ to → p + start ≡ shift + node → slice_get path p ≡ Some node
  pub last : j + start ≡ shift + to
  pub begins : first < start → HasBefore b start
  -- whatever reads stands there
  pub reads : (p : ℕ) (e : Location) → ReadsAt g path p e → shift ≤ p

written : (g : Graph) (b : Boundaries) (first past : ℕ) (cuts : List ℕ) (path : List ℕ) → IsInside g b path → AreInside b past first cuts →
    Divides g past first cuts →
    (i j to : ℕ) (e w : Location) → to < past → IsRun g b first past path j to → i < j → ReadsAt g path i e → (x : Node) → NodeAt g to x → x.writes ≡ Some w →
    IsTrue (overlap w e) → IsWrittenBefore g path i e
written g b first past cuts path inside are divides i j to e w end r lt reads x at writes over =
    let shifted = r.reads i e reads in
    let last = r.last in
    let ahead = r.not_past in
    let node : ℕ = r.start + (i - r.shift) in
    let here : slice_get path i ≡ Some node = r.there i node (omega arith) (omega (arith, last, lt, shifted)) (omega (arith, shifted)) in
    let is : node ≡ reads.node = some_same node reads.node (sym here ∙ reads.there) in
    let before : node < to = omega (arith, last, lt, shifted) in
    elim (find g e r.start (i - r.shift)) [
      | inl k ↦ (
          let p : ℕ = r.shift + (k.0 - r.start) in
          let a = k.1 in
          let c = k.2 in
          record {
            earlier = p;
            written = k.3.written;
            before = omega (arith, shifted, a, c);
            writes = record {
              node = k.0;
              is = k.3.is;
              there = r.there p k.0 a (omega (arith, c, before)) (omega (arith, a));
              at = k.3.at;
              writes = k.3.writes;
            };
            is = k.3.same;
          })
      | inr never ↦ (
          let none = λ (n : ℕ) (a : r.start < n) (c : n ≤ to). (
          let p : ℕ = r.shift + (n - suc r.start) in
          let there : slice_get path (suc p) ≡ Some n = r.there (suc p) n (omega (arith, a)) c (omega (arith, a)) in
          entered g b path inside p n there) in
          let conflict : ConflictOver g e r.start (suc to) = record {
            read = node;
            store = to;
            within = omega arith;
            later = before;
            below = omega arith;
            reads = subst (λ (n : ℕ). ReadsElements g e n) (sym is) (record { is = reads.is; at = reads.at; reads = reads.reads });
            writes = record { is = x; at = at; written = w; writes = writes; over = over };
            exposed = λ n a c. never n a c;
          } in
          absurd (region_free g b past first cuts are divides r.start to r.from_first (omega (arith, before)) end r.begins none (e, conflict)))
    ]

-- ---- The beginning of a path

reads_nothing : (g : Graph) (path : List ℕ) (p node : ℕ) (e : Location) → slice_get path p ≡ Some node → Synchronises g node → ¬ (ReadsAt g path p e)
reads_nothing g path p node e there s r =
    let is : r.node ≡ node = some_same r.node node (sym r.there ∙ there) in
    let same : r.is ≡ s.is = same_node g node r.is s.is (subst (λ (n : ℕ). NodeAt g n r.is) is r.at) s.at in
    let none : r.is.reads ≡ [] = ap (λ (x : Node). x.reads) same ∙ s.no_reads in
    let in_none : Contains [] e = subst (λ (xs : List Location). Contains xs e) none r.reads in
    absurd (let lt = in_none.1 in omega (arith, lt))

-- what is said of all boundaries
pub record AreLocked (g : Graph) (b : Boundaries) : Type 0 where
  pub past_locks : (node : ℕ) → IsLock g node → HasBoundaryAfter g b node
  pub before_unlocks : (node : ℕ) → IsUnlock g node → HasBefore b node

begins_inner : (g : Graph) (b : Boundaries) (first past : ℕ) → IsStretch g first past → (start : ℕ) → first < start → start < past → BeginsRegion g b start →
    HasBefore b start
begins_inner g b first past s start lt end (past_lock from stands edge) =
    let node : ℕ = start - 1 in
    let is : start ≡ suc node = omega arith in
    let same : from ≡ node = s.only_from node from (omega arith) (omega arith) (subst (λ (n : ℕ). IsEdge g from n) is edge) in
    absurd (plain_no_lock g node (s.plain node (omega arith) (omega arith)) (subst (λ (n : ℕ). IsLock g n) same stands.locks))
begins_inner g b first past s start lt end (at_boundary has) = has

-- a path that begins in straight code
run_inner : (g : Graph) (b : Boundaries) (first past : ℕ) → IsStretch g first past → (from : ℕ) (path : List ℕ) → BeginsRegion g b from →
    IsInside g b (from ∷ path) → (j to : ℕ) → slice_get (from ∷ path) j ≡ Some to → to < past → j + first ≤ to → IsRun g b first past (from ∷ path) j to
run_inner g b first past s from path begins inside j to at end le =
    let start : ℕ = to - j in
    let there = λ (p node : ℕ) (a : start ≤ node) (c : node ≤ to) (e : p + start ≡ 0 + node).
    walked g b first past s (from ∷ path) inside j to (j - p) p node at end (omega (arith, a, c, e, le)) (omega (arith, a, c, e, le)) (omega (arith, a, le)) in
    record {
      start = start;
      shift = 0;
      from_first = omega (arith, le);
      not_past = omega arith;
      there = there;
      last = omega (arith, le);
      begins = λ lt. (
          let is : from ≡ start = some_same from start (there 0 start (omega arith) (omega arith) (omega arith)) in
          begins_inner g b first past s start lt (omega (arith, end)) (subst (λ (n : ℕ). BeginsRegion g b n) is begins));
      reads = λ p e r. omega arith;
    }

-- a path that comes into straight code from the node before it
at_beginning : (g : Graph) (b : Boundaries) (first past : ℕ) → (s : IsStretch g first past) → AreLocked g b → (path : List ℕ) → IsInside g b path →
    (p : ℕ) → slice_get path (suc p) ≡ Some first → (p ≡ 0) × (slice_get path 0 ≡ Some s.before)
at_beginning g b first past s locked path inside p at =
    let here = earlier_there path p first at in
    let step = step_at g b path inside p (get_or path p 0) first here at in
    let is : get_or path p 0 ≡ s.before = s.only_enters (get_or path p 0) step.edge in
    let there : slice_get path p ≡ Some s.before = here ∙ ap (λ (n : ℕ). Some n) is in
    elim s.begins.takes_or_gives [
      | inl takes ↦ absurd (step.free (inl (subst (λ (n : ℕ). HasBoundaryAfter g b n) (sym is) (locked.past_locks s.before takes))))
      | inr gives ↦ first_of_path p there (locked.before_unlocks s.before gives)
    ]
  where
    first_of_path : (q : ℕ) → slice_get path q ≡ Some s.before → HasBefore b s.before → (q ≡ 0) × (slice_get path 0 ≡ Some s.before)
    first_of_path zero there has = (refl, there)
    first_of_path (suc q) there has = absurd (entered g b path inside q s.before there has)

reads_later : (g : Graph) (path : List ℕ) (node : ℕ) → slice_get path 0 ≡ Some node → Synchronises g node → (p : ℕ) (e : Location) → ReadsAt g path p e → 1 ≤ p
reads_later g path node there s zero e r = absurd (reads_nothing g path 0 node e there s r)
reads_later g path node there s (suc p) e r = omega arith

run_entered : (g : Graph) (b : Boundaries) (first past : ℕ) → (s : IsStretch g first past) → AreLocked g b → (path : List ℕ) → IsInside g b path →
    (j to : ℕ) → slice_get path j ≡ Some to → to < past → first ≤ to → to < j + first → IsRun g b first past path j to
run_entered g b first past s locked path inside j to at end le lt =
    let d : ℕ = to - first in
    let p : ℕ = j - suc d in
    let entry : slice_get path (suc p) ≡ Some first =
    walked g b first past s path inside j to d (suc p) first at end (omega (arith, le, lt)) (omega (arith, le)) (omega arith) in
    let k = at_beginning g b first past s locked path inside p entry in
    let none = k.0 in
    record {
      start = first;
      shift = 1;
      from_first = omega arith;
      not_past = le;
      there = λ q node a c e.
          walked g b first past s path inside j to (to - node) q node at end (omega (arith, a, c, e, none, le, lt)) (omega (arith, c)) a;
      last = omega (arith, none, le, lt);
      begins = λ l. absurd (omega (arith, l));
      reads = reads_later g path s.before k.1 s.begins;
    }

run_of : (g : Graph) (b : Boundaries) (first past : ℕ) → (s : IsStretch g first past) → AreLocked g b → (from : ℕ) (path : List ℕ) → BeginsRegion g b from →
    IsInside g b (from ∷ path) → (j to : ℕ) → slice_get (from ∷ path) j ≡ Some to → to < past → first ≤ to → IsRun g b first past (from ∷ path) j to
run_of g b first past s locked from path begins inside j to at end le = elim (below_or_past to (j + first)) [
  | inr inner ↦ run_inner g b first past s from path begins inside j to at end inner
  | inl lt ↦ run_entered g b first past s locked (from ∷ path) inside j to at end le lt
]

-- ---- All regions

pub few_idempotent : (g : Graph) (b : Boundaries) → AreLocked g b → ((node : ℕ) → Writes g node → HasBefore b node ⊎ IsInStretch g node) →
    AreFewestCuts g b → IsIdempotent g b
few_idempotent g b locked stands few from path begins inside i zero read over_ lt reads writes over = absurd (omega (arith, lt))
few_idempotent g b locked stands few from path begins inside i (suc j) read over_ lt reads writes over =
    let to = writes.node in
    let at = writes.there in
    elim (stands to (record { is = writes.is; at = writes.at; written = over_; writes = writes.writes })) [
      | inl has ↦ absurd (entered g b (from ∷ path) inside j to at has)
      | inr in_ ↦ (
          let h = few in_.first in_.past in_.stretch in
          let l = in_.later in
          let run = run_of g b in_.first in_.past in_.stretch locked from path begins inside (suc j) to at in_.before (omega (arith, l)) in
          written g b in_.first in_.past h.cuts (from ∷ path) inside h.inside h.fewest.divides i (suc j) to read over_ in_.before run lt reads
          writes.is writes.at
          writes.writes over)
    ]
