-- The regions of straight code between the boundaries of a cut set may be run again; labels bound how few they are.
use Rattle.std.proofs.Common.{◌≡◌, ◌⊎◌, inl, inr, ℕ, zero, suc, ◌+◌, ◌-◌, ◌<◌, ◌≤◌, Bool, true, false}
use Rattle.std.proofs.Common.{List, [], ◌∷◌, length, Option, Some, None, refl, ap, sym, subst, ◌∙◌, arith}
use Rattle.std.specs.Prelude.{slice_get}
use Rattle.ido_base.specs.declared.location.Location.{Location}
use Rattle.flow_graph.specs.Nodes.{Eval, Store, Lock, Unlock, Node, Graph}
use Rattle.flow_graph.specs.IdempotentCuts.{Boundaries, IsBoundary, IsInside, stays, goes_on, IsLock, IsUnlock, locks, unlocks, HasBefore, AreCuts}
use Rattle.flow_graph.specs.IdempotentCuts.{BeginsRegion, past_lock, at_boundary, ReadsAt, WritesAt, IsIdempotent}
use Rattle.flow_graph.proofs.Public.{below_or_past}
use Rattle.region_cutter.specs.Elements.{WritesSame}
use Rattle.region_cutter.specs.FewestCuts.{IsPlain, evaluates, stores, Synchronises, IsStretch, Conflict, ConflictOver, Divides, one_region, region_and}
use Rattle.region_cutter.specs.FewestCuts.{AreInside, none_inside, one_inside, AreLabels, LabelsBound, at}
use Rattle.region_cutter.proofs.Edges.{same_node}
use Rattle.region_cutter.proofs.FewestRegions.{begins_before}

-- ---- Nodes that take no mutex

pub plain_no_lock : (g : Graph) (node : ℕ) → IsPlain g node → ¬ (IsLock g node)
plain_no_lock g node (evaluates x target value next at is) (locks y lock to at' is') =
    let e : Eval target value next ≡ Lock lock to = sym is ∙ ap (λ (z : Node). z.action) (same_node g node x y at at') ∙ is' in cc
plain_no_lock g node (stores x variable kind next at is) (locks y lock to at' is') =
    let e : Store variable kind next ≡ Lock lock to = sym is ∙ ap (λ (z : Node). z.action) (same_node g node x y at at') ∙ is' in cc

pub plain_no_unlock : (g : Graph) (node : ℕ) → IsPlain g node → ¬ (IsUnlock g node)
plain_no_unlock g node (evaluates x target value next at is) (unlocks y lock to at' is') =
    let e : Eval target value next ≡ Unlock lock to = sym is ∙ ap (λ (z : Node). z.action) (same_node g node x y at at') ∙ is' in cc
plain_no_unlock g node (stores x variable kind next at is) (unlocks y lock to at' is') =
    let e : Store variable kind next ≡ Unlock lock to = sym is ∙ ap (λ (z : Node). z.action) (same_node g node x y at at') ∙ is' in cc

unlock_no_lock : (g : Graph) (node : ℕ) → IsUnlock g node → ¬ (IsLock g node)
unlock_no_lock g node (unlocks x lock next at is) (locks y other to at' is') =
    let e : Unlock lock next ≡ Lock other to = sym is ∙ ap (λ (z : Node). z.action) (same_node g node x y at at') ∙ is' in cc

-- ---- Paths of straight code

-- so many nodes after that one
abbrev after : (node count : ℕ) → List ℕ
after node zero = []
after node (suc count) = suc node ∷ after (suc node) count

get_after : (node count i at : ℕ) → i ≤ count → at ≡ node + i → slice_get (node ∷ after node count) i ≡ Some at
get_after node count zero at le e = ap (λ (n : ℕ). Some n) (omega (arith, e))
get_after node zero (suc i) at le e = absurd (omega (arith, le))
get_after node (suc count) (suc i) at le e = get_after (suc node) count i at (omega (arith, le)) (omega (arith, e))

got_after : (node count i at : ℕ) → slice_get (node ∷ after node count) i ≡ Some at → at ≡ node + i
got_after node count zero at e = let same : node ≡ at = cc in omega (arith, same)
got_after node zero (suc i) at e = absurd (cc)
got_after node (suc count) (suc i) at e = (let k = got_after (suc node) count i at e in omega (arith, k))

inside_after : (g : Graph) (b : Boundaries) (first past : ℕ) → IsStretch g first past → (node count : ℕ) → first ≤ node → node + count < past →
    ((n : ℕ) → node < n → n ≤ node + count → ¬ (HasBefore b n)) → IsInside g b (node ∷ after node count)
inside_after g b first past s node zero le lt never = stays node
inside_after g b first past s node (suc count) le lt never =
    let free : ¬ (IsBoundary g b node (suc node)) = λ d. elim d [
      | inl h ↦ plain_no_lock g node (s.plain node le (omega (arith, lt))) h.locks
      | inr h ↦ never (suc node) (omega arith) (omega arith) h
    ] in
    goes_on node (suc node) (after (suc node) count) (s.goes_on node le (omega (arith, lt))) free
    (inside_after g b first past s (suc node) count (omega (arith, le)) (omega (arith, lt)) (λ n a c. never n (omega (arith, a)) (omega (arith, c))))

-- ---- Regions

-- a region's path, on which the nodes from that one on stand one after another, so many nodes after its beginning
record IsPath (g : Graph) (b : Boundaries) (e : Location) (node to : ℕ) : Type 0 where
  pub from : ℕ
  pub path : List ℕ
  pub shift : ℕ
  pub begins : BeginsRegion g b from
  pub inside : IsInside g b (from ∷ path)
  pub there : (n : ℕ) → node ≤ n → n < to → slice_get (from ∷ path) (shift + (n - node)) ≡ Some n
  pub own : (i n : ℕ) → slice_get (from ∷ path) i ≡ Some n → WritesSame g e n → n + shift ≡ node + i
  pub from_node : (i n : ℕ) → slice_get (from ∷ path) i ≡ Some n → WritesSame g e n → node ≤ n

no_conflict : (g : Graph) (b : Boundaries) (node to : ℕ) → IsIdempotent g b → (e : Location) → IsPath g b e node to → ¬ (ConflictOver g e node to)
no_conflict g b node to idempotent e p c =
    let a = c.within in
    let l = c.later in
    let d = c.below in
    let reads : ReadsAt g (p.from ∷ p.path) (p.shift + (c.read - node)) e =
    record { node = c.read; is = c.reads.is; there = p.there c.read a (omega (arith, l, d)); at = c.reads.at; reads = c.reads.reads } in
    let writes : WritesAt g (p.from ∷ p.path) (p.shift + (c.store - node)) c.writes.written =
    record { node = c.store; is = c.writes.is; there = p.there c.store (omega (arith, a, l)) d; at = c.writes.at; writes = c.writes.writes } in
    let w = idempotent p.from p.path p.begins p.inside (p.shift + (c.read - node)) (p.shift + (c.store - node)) e c.writes.written
    (omega (arith, a, l)) reads writes c.writes.over in
    let mine : WritesSame g e w.writes.node =
    record { is = w.writes.is; at = w.writes.at; written = w.written; writes = w.writes.writes; same = w.is } in
    let own = p.own w.earlier w.writes.node w.writes.there mine in
    let before = w.before in
    c.exposed w.writes.node (p.from_node w.earlier w.writes.node w.writes.there mine) (omega (arith, own, before, a)) mine

-- a region that begins at the node itself
own_path : (g : Graph) (b : Boundaries) (first past : ℕ) → IsStretch g first past → (e : Location) (node to : ℕ) → first ≤ node → node < to → to ≤ past →
    ((n : ℕ) → node < n → n < to → ¬ (HasBefore b n)) → BeginsRegion g b node → IsPath g b e node to
own_path g b first past s e node to le lt end never begins =
    let count : ℕ = to - suc node in
    record {
      from = node;
      path = after node count;
      shift = 0;
      begins = begins;
      inside = inside_after g b first past s node count le (omega (arith, lt, end)) (λ n a c. never n a (omega (arith, c, lt)));
      there = λ n a c. get_after node count (0 + (n - node)) n (omega (arith, a, c)) (omega (arith, a));
      own = λ i n at w. (let k = got_after node count i n at in omega (arith, k));
      from_node = λ i n at w. (let k = got_after node count i n at in omega (arith, k));
    }

no_none : {A : Type 0} (w : Option A) (x : A) → w ≡ None → w ≡ Some x → ⊥
no_none w x e e' = let both : None ≡ Some x = sym e ∙ e' in cc

writes_nothing : (g : Graph) (e : Location) (node : ℕ) → Synchronises g node → ¬ (WritesSame g e node)
writes_nothing g e node s w =
    no_none s.is.writes w.written s.no_write (ap (λ (x : Node). x.writes) (same_node g node s.is w.is s.at w.at) ∙ w.writes)

entered_own : (g : Graph) (b : Boundaries) (first past : ℕ) → (s : IsStretch g first past) → (e : Location) (count i n : ℕ) →
    slice_get (s.before ∷ first ∷ after first count) i ≡ Some n → WritesSame g e n → (n + 1 ≡ first + i) × (first ≤ n)
entered_own g b first past s e count zero n at w =
    let is : s.before ≡ n = cc in absurd (writes_nothing g e n (subst (λ (k : ℕ). Synchronises g k) is s.begins) w)
entered_own g b first past s e count (suc i) n at w = (let k = got_after first count i n at in (omega (arith, k), omega (arith, k)))

one_more : (n : ℕ) → suc n ≡ 1 + n
one_more n = omega arith

-- a region that begins at the unlock before the stretch
entry_path : (g : Graph) (b : Boundaries) (first past : ℕ) → (s : IsStretch g first past) → (e : Location) (to : ℕ) → first < to → to ≤ past →
    ((n : ℕ) → first < n → n < to → ¬ (HasBefore b n)) → ¬ (HasBefore b first) → IsUnlock g s.before → HasBefore b s.before → IsPath g b e first to
entry_path g b first past s e to lt end never free gives begins =
    let count : ℕ = to - suc first in
    let open_ : ¬ (IsBoundary g b s.before first) = λ d. elim d [ inl h ↦ unlock_no_lock g s.before gives h.locks | inr h ↦ free h ] in
    record {
      from = s.before;
      path = first ∷ after first count;
      shift = 1;
      begins = at_boundary begins;
      inside = goes_on s.before first (after first count) s.enters open_
          (inside_after g b first past s first count (omega arith) (omega (arith, lt, end)) (λ n a c. never n a (omega (arith, c, lt))));
      there = λ n a c. subst (λ (k : ℕ). slice_get (s.before ∷ first ∷ after first count) k ≡ Some n) (one_more (n - first))
          (get_after first count (n - first) n (omega (arith, a, c)) (omega (arith, a)));
      own = λ i n at w. (entered_own g b first past s e count i n at w).0;
      from_node = λ i n at w. (entered_own g b first past s e count i n at w).1;
    }

stands_or : (x : Option Bool) → (x ≡ Some true) ⊎ ¬ (x ≡ Some true)
stands_or None = inr (λ e. (cc))
stands_or (Some true) = inl refl
stands_or (Some false) = inr (λ e. (cc))

pub has_before : (b : Boundaries) (node : ℕ) → HasBefore b node ⊎ ¬ (HasBefore b node)
has_before b node = stands_or (slice_get b.before node)

entered : (g : Graph) (b : Boundaries) (first past : ℕ) → (s : IsStretch g first past) → AreCuts g b → (e : Location) (to : ℕ) → first < to → to ≤ past →
    ((n : ℕ) → first < n → n < to → ¬ (HasBefore b n)) → IsPath g b e first to
entered g b first past s c e to lt end never =
    let own = own_path g b first past s e first to (omega arith) lt end never in
    elim s.begins.takes_or_gives [
      | inl takes ↦ own (past_lock s.before (c.past_locks s.before takes) s.enters)
      | inr gives ↦ elim (has_before b first) [
        | inl stands ↦ own (at_boundary stands)
        | inr free ↦ entry_path g b first past s e to lt end never free gives (c.before_unlocks s.before gives)
      ]
    ]

-- the regions that begin at the node may be run again
abbrev AreFree : Graph → Boundaries → (past node : ℕ) → Type 0
AreFree g b past node = (to : ℕ) → node < to → to ≤ past → ((n : ℕ) → node < n → n < to → ¬ (HasBefore b n)) → ¬ (Conflict g node to)

divides_from : (g : Graph) (b : Boundaries) (first past : ℕ) → IsStretch g first past → IsIdempotent g b → (from : ℕ) (cuts : List ℕ) → first ≤ from →
    from < past → AreFree g b past from → AreInside b past from cuts → Divides g past from cuts
divides_from g b first past s c from [] le lt free (none_inside _ never) = one_region from lt (free past lt (omega arith) never)
divides_from g b first past s c from (cut ∷ cuts) le lt free (one_inside _ _ _ a before stands never rest) =
    region_and from cut cuts a (free cut a (omega (arith, before)) never)
    (divides_from g b first past s c cut cuts (omega (arith, le, a)) before
    (λ to l end none p. no_conflict g b cut to c p.0 (own_path g b first past s p.0 cut to (omega (arith, le, a)) l end none (at_boundary stands)) p.1) rest)

-- the boundaries of a cut set divide straight code into regions that may be run again
pub divided : (g : Graph) (b : Boundaries) (first past : ℕ) (cuts : List ℕ) → IsStretch g first past → AreCuts g b → AreInside b past first cuts →
    Divides g past first cuts
divided g b first past cuts s c inside =
    divides_from g b first past s c.idempotent first cuts (omega arith) s.some
    (λ to l end none p. no_conflict g b first to c.idempotent p.0 (entered g b first past s c p.0 to l end none) p.1) inside

-- ---- Labels

no_steeper : (g : Graph) (first past boundaries from to : ℕ) (labels : List ℕ) → AreLabels g first past boundaries labels → first ≤ from →
    from < to → to ≤ past →
    ¬ (Conflict g from to) → at first labels to ≤ suc (at first labels from)
no_steeper g first past boundaries from to labels are a lt b free = elim (below_or_past (suc (at first labels from)) (at first labels to)) [
  | inl more ↦ absurd (are.edges from to (record { from_first = a; later = lt; to_past = b; free = free; greater = more }))
  | inr le ↦ le
]

climbs : (g : Graph) (first past boundaries from : ℕ) (labels cuts : List ℕ) → AreLabels g first past boundaries labels → first ≤ from →
    Divides g past from cuts → at first labels past ≤ suc (length cuts) + at first labels from
climbs g first past boundaries from labels [] are a (one_region _ lt free) =
    let k = no_steeper g first past boundaries from past labels are a lt (omega arith) free in omega (arith, k)
climbs g first past boundaries from labels (cut ∷ cuts) are a (region_and _ _ _ lt free rest) =
    let before = begins_before g past cut cuts rest in
    let k = no_steeper g first past boundaries from cut labels are a lt (omega (arith, before)) free in
    let more = climbs g first past boundaries cut labels cuts are (omega (arith, a, lt)) rest in
    omega (arith, k, more)

pub labels_bound : LabelsBound
labels_bound = λ g first past boundaries labels s are b cuts c inside.
    let k = climbs g first past boundaries first labels cuts are (omega arith) (divided g b first past cuts s c inside) in
    let start = are.start in
    let end = are.end in
    omega (arith, k, start, end)
