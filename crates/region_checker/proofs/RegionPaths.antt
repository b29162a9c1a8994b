-- Conflicts on paths are hits.
use Rattle.std.proofs.Common.{◌≡◌, ◌⊎◌, inl, inr, ℕ, zero, suc, ◌+◌, ◌<◌, ◌≤◌, Bool, true, false, List}
use Rattle.std.proofs.Common.{[], ◌∷◌, ◌++◌, length, Option, Some, None, refl, ap, sym, subst, ◌∙◌, arith}
use Rattle.std.specs.Prelude.{IsTrue, slice_get}
use Rattle.std.proofs.lemmas.Option.{slice_get_cases}
use Rattle.std.proofs.lemmas.List.{length_push}
use Rattle.ido_base.specs.declared.location.Location.{Location}
use Rattle.ido_base.specs.Locations.{overlap, same}
use Rattle.flow_graph.specs.Nodes.{Node, Graph}
use Rattle.flow_graph.specs.Liveness.{NodeAt}
use Rattle.flow_graph.specs.IdempotentCuts.{Boundaries, BeginsRegion, IsInside, stays, goes_on as goes_inside, WritesAt, IsWrittenBefore, IsIdempotent}
use Rattle.flow_graph.proofs.Public.{same_or_other}
use Rattle.region_checker.specs.Conflicts.{Conflict}
use Rattle.region_checker.specs.links.MarkPropagation.{IsInnerEdge, Arrives, starts, goes_on}
use Rattle.region_checker.specs.links.ConflictSearch.{ReadsElements, WritesOver, WritesSame, writes_over}
use Rattle.region_checker.specs.links.ConflictSearch.{writes_same, Never, IsUnwritten, Exposes, HitsAny, IsHitSome}
use Rattle.region_checker.proofs.ReachedByMarks.{origin, from_more}

-- ---- Positions

some_same : (a c : ℕ) → Some a ≡ Some c → a ≡ c
some_same a c e = cc

not_none : (a : ℕ) → None ≡ Some a → ⊥
not_none a e = cc

get_left : (xs ys : List ℕ) (k x : ℕ) → slice_get xs k ≡ Some x → slice_get (xs ++ ys) k ≡ Some x
get_left [] ys k x h = absurd (not_none x h)
get_left (y ∷ xs) ys zero x h = h
get_left (y ∷ xs) ys (suc k) x h = get_left xs ys k x h

get_back : (xs : List ℕ) (y k x : ℕ) → k < length xs → slice_get (xs ++ y ∷ []) k ≡ Some x → slice_get xs k ≡ Some x
get_back [] y k x lt h = absurd (omega (arith, lt))
get_back (z ∷ xs) y zero x lt h = h
get_back (z ∷ xs) y (suc k) x lt h = get_back xs y k x (omega (arith, lt)) h

get_end : (xs : List ℕ) (y : ℕ) → slice_get (xs ++ y ∷ []) (length xs) ≡ Some y
get_end [] y = refl
get_end (x ∷ xs) y = get_end xs y

pub record Found (xs : List ℕ) (k : ℕ) : Type 0 where
  pub is : ℕ
  pub at : slice_get xs k ≡ Some is

get_earlier : (xs : List ℕ) (k x : ℕ) → slice_get xs (suc k) ≡ Some x → Found xs k
get_earlier [] k x h = absurd (not_none x h)
get_earlier (y ∷ xs) zero x h = record { is = y; at = refl }
get_earlier (y ∷ xs) (suc k) x h = let f = get_earlier xs k x h in record { is = f.is; at = f.at }

-- ---- Paths inside regions

edge_at : (g : Graph) (b : Boundaries) (path : List ℕ) (i a c : ℕ) → IsInside g b path → slice_get path i ≡ Some a →
    slice_get path (suc i) ≡ Some c → IsInnerEdge g b a c
edge_at g b path i a c (stays node) here next = absurd (not_none c next)
edge_at g b path zero a c (goes_inside from to rest edge free inside) here next =
    let first : from ≡ a = some_same from a here in
    let second : to ≡ c = some_same to c next in
    subst (λ (n : ℕ). IsInnerEdge g b n c) first (subst (λ (n : ℕ). IsInnerEdge g b from n) second (record { edge = edge; free = free }))
edge_at g b path (suc i) a c (goes_inside from to rest edge free inside) here next = edge_at g b (to ∷ rest) i a c inside here next

inside_more : (g : Graph) (b : Boundaries) (path : List ℕ) (from : ℕ) (last to : ℕ) → IsInside g b (from ∷ path) →
    slice_get (from ∷ path) (length path) ≡ Some last → IsInnerEdge g b last to → IsInside g b (from ∷ (path ++ to ∷ []))
inside_more g b [] from last to inside at goes =
    let here : from ≡ last = some_same from last at in
    let step : IsInnerEdge g b from to = subst (λ (n : ℕ). IsInnerEdge g b n to) (sym here) goes in
    goes_inside from to [] step.edge step.free (stays to)
inside_more g b (next ∷ rest) from last to (goes_inside a c others edge free inside) at goes =
    goes_inside a next (rest ++ to ∷ []) edge free (inside_more g b rest next last to inside at goes)

-- ---- Writes before

written_back : (g : Graph) (xs : List ℕ) (to i : ℕ) (elements : Location) → i ≤ length xs → IsWrittenBefore g (xs ++ to ∷ []) i elements →
    IsWrittenBefore g xs i elements
written_back g xs to i elements le w = record {
  earlier = w.earlier;
  written = w.written;
  before = w.before;
  writes = record {
    node = w.writes.node;
    is = w.writes.is;
    there = get_back xs to w.earlier w.writes.node (omega (arith, w.before)) w.writes.there;
    at = w.writes.at;
    writes = w.writes.writes;
  };
  is = w.is;
}

same_from : (elements written : Location) (writes : Option Location) → writes ≡ Some written → IsTrue (same written elements) →
    IsTrue (writes_same elements writes)
same_from elements written writes e h = subst (λ (o : Option Location). IsTrue (writes_same elements o)) (sym e) h

pub record Is (test : Location → Bool) (writes : Option Location) : Type 0 where
  pub written : Location
  pub is : writes ≡ Some written
  pub holds : IsTrue (test written)

none_false : IsTrue false → ⊥
none_false h = cc

same_to : (elements : Location) (writes : Option Location) → IsTrue (writes_same elements writes) → Is (λ w. same w elements) writes
same_to elements None h = absurd (none_false h)
same_to elements (Some w) h = record { written = w; is = refl; holds = h }

over_to : (elements : Location) (writes : Option Location) → IsTrue (writes_over elements writes) → Is (λ w. overlap w elements) writes
over_to elements None h = absurd (none_false h)
over_to elements (Some w) h = record { written = w; is = refl; holds = h }

over_from : (elements written : Location) (writes : Option Location) → writes ≡ Some written → IsTrue (overlap written elements) →
    IsTrue (writes_over elements writes)
over_from elements written writes e h = subst (λ (o : Option Location). IsTrue (writes_over elements o)) (sym e) h

-- ---- Marked nodes are reached by paths of regions

-- a path of a region to the node, on which the element wasn't written before that node
pub record ReachesUnwritten (g : Graph) (b : Boundaries) (elements : Location) (node : ℕ) : Type 0 where
  pub from : ℕ
  pub path : List ℕ
  pub begins : BeginsRegion g b from
  pub inside : IsInside g b (from ∷ path)
  pub last : slice_get (from ∷ path) (length path) ≡ Some node
  pub exposed : ¬ (IsWrittenBefore g (from ∷ path) (length path) elements)

-- before the last node, or by it
written_last : (g : Graph) (xs : List ℕ) (to n prev : ℕ) (elements : Location) → length xs ≡ n + 1 → slice_get xs n ≡ Some prev →
    IsWrittenBefore g (xs ++ to ∷ []) (n + 1) elements →
    IsWrittenBefore g xs n elements ⊎ WritesSame g elements prev
written_last g xs to n prev elements long at w =
    let back = get_back xs to w.earlier w.writes.node (omega (arith, w.before)) w.writes.there in
    elim (same_or_other w.earlier n) [
      | inl e ↦ (
          let there : Some w.writes.node ≡ Some prev = sym back ∙ ap (λ k. slice_get xs k) e ∙ at in
          inr (record {
            is = w.writes.is;
            at = subst (λ (k : ℕ). NodeAt g k w.writes.is) (some_same w.writes.node prev there) w.writes.at;
            writes = same_from elements w.written w.writes.is.writes w.writes.writes w.is;
          }))
      | inr other ↦ inl (record {
        earlier = w.earlier;
        written = w.written;
        before = omega (arith, w.before);
        writes = record { node = w.writes.node; is = w.writes.is; there = back; at = w.writes.at; writes = w.writes.writes };
        is = w.is;
      })
    ]

comes : (g : Graph) (b : Boundaries) (elements : Location) (node : ℕ) → IsUnwritten g b elements node → ReachesUnwritten g b elements node
comes g b elements node (starts n s) = record {
  from = n;
  path = [];
  begins = s;
  inside = stays n;
  last = refl;
  exposed = λ w. omega (arith, w.before);
}
comes g b elements node (goes_on from n goes free a) =
    let c = comes g b elements from a in
    let longer : length (c.path ++ n ∷ []) ≡ length c.path + 1 = length_push c.path n in
    record {
      from = c.from;
      path = c.path ++ n ∷ [];
      begins = c.begins;
      inside = inside_more g b c.path c.from from n c.inside c.last goes;
      last =
          subst (λ (k : ℕ). slice_get ((c.from ∷ c.path) ++ n ∷ []) k ≡ Some n)
          (let e : length (c.from ∷ c.path) ≡ length (c.path ++ n ∷ []) = omega (arith, longer) in e) (get_end (c.from ∷ c.path) n);
      exposed = λ w.
          let here : IsWrittenBefore g ((c.from ∷ c.path) ++ n ∷ []) (length c.path + 1) elements =
          subst (λ (k : ℕ). IsWrittenBefore g ((c.from ∷ c.path) ++ n ∷ []) k elements) longer w in
          elim (written_last g (c.from ∷ c.path) n (length c.path) from elements (omega arith) c.last here) [
            | inl before ↦ c.exposed before
            | inr by ↦ free by
          ];
    }

-- a path of a region over the read to the node, on which the elements weren't written before the read
pub record ReadsThenReaches (g : Graph) (b : Boundaries) (elements : Location) (read node : ℕ) : Type 0 where
  pub from : ℕ
  pub path : List ℕ
  pub begins : BeginsRegion g b from
  pub inside : IsInside g b (from ∷ path)
  pub last : slice_get (from ∷ path) (length path) ≡ Some node
  pub i : ℕ
  pub before : i ≤ length path
  pub at : slice_get (from ∷ path) i ≡ Some read
  pub exposed : ¬ (IsWrittenBefore g (from ∷ path) i elements)

runs_more : (g : Graph) (b : Boundaries) (elements : Location) (read node to : ℕ) → ReadsThenReaches g b elements read node → IsInnerEdge g b node to →
    ReadsThenReaches g b elements read to
runs_more g b elements read node to r goes =
    let longer : length (r.path ++ to ∷ []) ≡ length r.path + 1 = length_push r.path to in
    record {
      from = r.from;
      path = r.path ++ to ∷ [];
      begins = r.begins;
      inside = inside_more g b r.path r.from node to r.inside r.last goes;
      last =
          subst (λ (k : ℕ). slice_get ((r.from ∷ r.path) ++ to ∷ []) k ≡ Some to)
          (let e : length (r.from ∷ r.path) ≡ length (r.path ++ to ∷ []) = omega (arith, longer) in e) (get_end (r.from ∷ r.path) to);
      i = r.i;
      before = omega (arith, r.before, longer);
      at = get_left (r.from ∷ r.path) (to ∷ []) r.i read r.at;
      exposed = λ w. r.exposed (written_back g (r.from ∷ r.path) to r.i elements (omega (arith, r.before)) w);
    }

runs : (g : Graph) (b : Boundaries) (elements : Location) (read : ℕ) → ReadsThenReaches g b elements read read → (node : ℕ) →
    Arrives (IsInnerEdge g b) (λ n. n ≡ read) Never node → ReadsThenReaches g b elements read node
runs g b elements read first node (starts k e) = subst (λ (n : ℕ). ReadsThenReaches g b elements read n) (sym e) first
runs g b elements read first node (goes_on from k goes free a) = runs_more g b elements read from k (runs g b elements read first from a) goes

runs_first : (g : Graph) (b : Boundaries) (elements : Location) (read : ℕ) → ReachesUnwritten g b elements read → ReadsThenReaches g b elements read read
runs_first g b elements read c = record {
  from = c.from;
  path = c.path;
  begins = c.begins;
  inside = c.inside;
  last = c.last;
  i = length c.path;
  before = omega arith;
  at = c.last;
  exposed = c.exposed;
}

conflict_on : (g : Graph) (b : Boundaries) (elements : Location) (read last store : ℕ) → ReadsThenReaches g b elements read last → IsInnerEdge g b last store →
    ReadsElements g elements read → WritesOver g elements store → Conflict g b read store
conflict_on g b elements read last store r goes reads over =
    let longer : length (r.path ++ store ∷ []) ≡ length r.path + 1 = length_push r.path store in
    let xs = r.from ∷ r.path in
    let at_read : slice_get (xs ++ store ∷ []) r.i ≡ Some read = get_left xs (store ∷ []) r.i read r.at in
    let at_store : slice_get (xs ++ store ∷ []) (length xs) ≡ Some store = get_end xs store in
    let w = over_to elements over.is.writes over.writes in
    record {
      from = r.from;
      path = r.path ++ store ∷ [];
      begins = r.begins;
      inside = inside_more g b r.path r.from last store r.inside r.last goes;
      i = r.i;
      j = length xs;
      later = omega (arith, r.before);
      elements = elements;
      written = w.written;
      at_read = at_read;
      at_store = at_store;
      reads = record { node = read; is = reads.is; there = at_read; at = reads.at; reads = reads.reads };
      writes = record { node = store; is = over.is; there = at_store; at = over.at; writes = w.is };
      overlaps = w.holds;
      exposed = λ h. r.exposed (written_back g xs store r.i elements (omega (arith, r.before)) h);
    }

pub conflict_from : (g : Graph) (b : Boundaries) (read store : ℕ) → HitsAny g b read store → Conflict g b read store
conflict_from g b read store any =
    let h = any.hits in
    let first = runs_first g b any.elements read (comes g b any.elements read h.exposes.unwritten) in
    conflict_on g b any.elements read h.follows.last store (runs g b any.elements read first h.follows.last h.follows.comes) h.follows.goes
    h.exposes.reads h.writes

-- ---- Nodes on paths of regions are marked

pub record Region (g : Graph) (b : Boundaries) (from : ℕ) (path : List ℕ) : Type 0 where
  pub begins : BeginsRegion g b from
  pub inside : IsInside g b (from ∷ path)

unwritten_at : (g : Graph) (b : Boundaries) (from : ℕ) (path : List ℕ) (elements : Location) (i : ℕ) → Region g b from path →
    ¬ (IsWrittenBefore g (from ∷ path) i elements) →
    (k n : ℕ) → k ≤ i → slice_get (from ∷ path) k ≡ Some n → IsUnwritten g b elements n
unwritten_at g b from path elements i r exposed zero n le at = starts n (subst (λ (k : ℕ). BeginsRegion g b k) (some_same from n at) r.begins)
unwritten_at g b from path elements i r exposed (suc k) n le at =
    let f = get_earlier (from ∷ path) k n at in
    goes_on f.is n (edge_at g b (from ∷ path) k f.is n r.inside f.at at) (λ w.
    let s = same_to elements w.is.writes w.writes in
    exposed (record {
      earlier = k;
      written = s.written;
      before = omega (arith, le);
      writes = record { node = f.is; is = w.is; there = f.at; at = w.at; writes = s.is };
      is = s.holds;
    })) (unwritten_at g b from path elements i r exposed k f.is (omega (arith, le)) f.at)

never : ⊥ → ⊥
never h = h

follows_at : (g : Graph) (b : Boundaries) (path : List ℕ) (read i : ℕ) → IsInside g b path → slice_get path i ≡ Some read →
    (more k n : ℕ) → k ≡ i + more → slice_get path k ≡ Some n → Arrives (IsInnerEdge g b) (λ m. m ≡ read) Never n
follows_at g b path read i inside here zero k n e at =
    let same_place : k ≡ i = omega (arith, e) in
    let both : Some n ≡ Some read = sym at ∙ ap (λ m. slice_get path m) same_place ∙ here in
    starts n (some_same n read both)
follows_at g b path read i inside here (suc more) k n e at =
    let before : k ≡ suc (i + more) = omega (arith, e) in
    let there : slice_get path (suc (i + more)) ≡ Some n = ap (λ m. slice_get path m) (sym before) ∙ at in
    let f = get_earlier path (i + more) n there in
    goes_on f.is n (edge_at g b path (i + more) f.is n inside f.at there) never (follows_at g b path read i inside here more (i + more) f.is refl f.at)

pub record Between (i j : ℕ) : Type 0 where
  pub more : ℕ
  pub is : j ≡ suc (i + more)

between : (i j : ℕ) → i < j → Between i j
between i zero lt = absurd (omega (arith, lt))
between zero (suc j) lt = record { more = j; is = omega arith }
between (suc i) (suc j) lt = let b = between i j (omega (arith, lt)) in record { more = b.more; is = omega (arith, b.is) }

pub hits_from : (g : Graph) (b : Boundaries) (read store : ℕ) → Conflict g b read store → HitsAny g b read store
hits_from g b read store c =
    let path = c.from ∷ c.path in
    let d = between c.i c.j c.later in
    let k = c.i + d.more in
    let there : slice_get path (suc k) ≡ Some store = ap (λ m. slice_get path m) (sym d.is) ∙ c.at_store in
    let f = get_earlier path k store there in
    let reader : c.reads.node ≡ read = some_same c.reads.node read (sym c.reads.there ∙ c.at_read) in
    let writer : c.writes.node ≡ store = some_same c.writes.node store (sym c.writes.there ∙ c.at_store) in
    record {
      elements = c.elements;
      hits = record {
        exposes = record {
          reads = record { is = c.reads.is; at = subst (λ (n : ℕ). NodeAt g n c.reads.is) reader c.reads.at; reads = c.reads.reads };
          unwritten =
              unwritten_at g b c.from c.path c.elements c.i (record { begins = c.begins; inside = c.inside }) c.exposed c.i read (omega arith) c.at_read;
        };
        follows = record {
          last = f.is;
          comes = follows_at g b path read c.i c.inside c.at_read d.more k f.is refl f.at;
          goes = edge_at g b path k f.is store c.inside f.at there;
        };
        writes = record {
          is = c.writes.is;
          at = subst (λ (n : ℕ). NodeAt g n c.writes.is) writer c.writes.at;
          writes = over_from c.elements c.written c.writes.is.writes c.writes.writes c.overlaps;
        };
      };
    }

-- ---- Some location is hit

pub record HasHit (g : Graph) (b : Boundaries) (store : ℕ) : Type 0 where
  pub read : ℕ
  pub hits : HitsAny g b read store

pub hit_from : (g : Graph) (b : Boundaries) (store : ℕ) → IsHitSome g b store → HasHit g b store
hit_from g b store some =
    let f = some.hit.follows in
    let o = origin (IsInnerEdge g b) (Exposes g b some.elements) Never f.last f.comes in
    record {
      read = o.first;
      hits = record {
        elements = some.elements;
        hits = record { exposes = o.is; follows = record { last = f.last; comes = o.comes; goes = f.goes }; writes = some.hit.writes };
      };
    }

pub hit_to : (g : Graph) (b : Boundaries) (read store : ℕ) → HitsAny g b read store → IsHitSome g b store
hit_to g b read store any =
    let h = any.hits in
    let f = h.follows in
    let more = from_more (IsInnerEdge g b) (λ n. n ≡ read) (Exposes g b any.elements) Never
    (λ n e. subst (λ (k : ℕ). Exposes g b any.elements k) (sym e) h.exposes)
    f.last f.comes in
    record { elements = any.elements; hit = record { follows = record { last = f.last; comes = more; goes = f.goes }; writes = h.writes } }

-- ---- No conflict

true_or_false : (t : Bool) → IsTrue t ⊎ ¬ (IsTrue t)
true_or_false true = inl refl
true_or_false false = inr none_false

-- whether the node at this position writes the element
pub record WritesThere (g : Graph) (path : List ℕ) (elements : Location) (k : ℕ) : Type 0 where
  pub written : Location
  pub writes : WritesAt g path k written
  pub is : IsTrue (same written elements)

one_written : (x : Node) (v w : Location) → x.writes ≡ Some v → x.writes ≡ Some w → v ≡ w
one_written x v w e e' = let both : Some v ≡ Some w = sym e ∙ e' in cc

one_node : (g : Graph) (n m : ℕ) (x y : Node) → n ≡ m → NodeAt g n x → NodeAt g m y → x ≡ y
one_node g n m x y e at at' = let both : Some x ≡ Some y = sym at ∙ ap (λ k. slice_get g.nodes k) e ∙ at' in cc

written_at : (g : Graph) (path : List ℕ) (elements : Location) (k n : ℕ) (x : Node) (writes : Option Location) → slice_get path k ≡ Some n → NodeAt g n x →
    x.writes ≡ writes →
    WritesThere g path elements k ⊎ ¬ (WritesThere g path elements k)
written_at g path elements k n x None there at e = inr (λ w.
    let own = some_same w.writes.node n (sym w.writes.there ∙ there) in
    let is = one_node g w.writes.node n w.writes.is x own w.writes.at at in
    let both : None ≡ Some w.written = sym e ∙ ap (λ (y : Node). y.writes) (sym is) ∙ w.writes.writes in
    absurd (cc))
written_at g path elements k n x (Some v) there at e = elim (true_or_false (same v elements)) [
  | inl holds ↦ inl (record { written = v; writes = record { node = n; is = x; there = there; at = at; writes = e }; is = holds })
  | inr fails ↦ inr (λ w.
      let own = some_same w.writes.node n (sym w.writes.there ∙ there) in
      let is = one_node g w.writes.node n w.writes.is x own w.writes.at at in
      let v_is = one_written x v w.written e (ap (λ (y : Node). y.writes) (sym is) ∙ w.writes.writes) in
      fails (subst (λ (u : Location). IsTrue (same u elements)) (sym v_is) w.is))
]

written_there : (g : Graph) (path : List ℕ) (elements : Location) (k : ℕ) → WritesThere g path elements k ⊎ ¬ (WritesThere g path elements k)
written_there g path elements k = elim (slice_get_cases path k).1 [
  | inl found ↦ elim (slice_get_cases g.nodes found.0).1 [
    | inl node ↦ written_at g path elements k found.0 node.0 node.0.writes found.2 node.2 refl
    | inr past ↦ inr (λ w.
        let own = some_same w.writes.node found.0 (sym w.writes.there ∙ found.2) in
        let both : None ≡ Some w.writes.is = sym past.1 ∙ ap (λ n. slice_get g.nodes n) (sym own) ∙ w.writes.at in
        absurd (cc))
  ]
  | inr past ↦ inr (λ w. absurd (not_none w.writes.node (sym past.1 ∙ w.writes.there)))
]

written_or_not : (g : Graph) (path : List ℕ) (elements : Location) (i : ℕ) → IsWrittenBefore g path i elements ⊎ ¬ (IsWrittenBefore g path i elements)
written_or_not g path elements zero = inr (λ w. omega (arith, w.before))
written_or_not g path elements (suc i) = elim (written_there g path elements i) [
  | inl here ↦ inl (record { earlier = i; written = here.written; before = omega arith; writes = here.writes; is = here.is })
  | inr not_here ↦ elim (written_or_not g path elements i) [
    | inl before ↦
        inl (record { earlier = before.earlier; written = before.written; before = omega (arith, before.before); writes = before.writes; is = before.is })
    | inr none ↦ inr (λ w. elim (same_or_other w.earlier i) [
      | inl e ↦ not_here (record { written = w.written; writes = subst (λ (k : ℕ). WritesAt g path k w.written) e w.writes; is = w.is })
      | inr other ↦ none (record { earlier = w.earlier; written = w.written; before = omega (arith, w.before); writes = w.writes; is = w.is })
    ])
  ]
]

pub idempotent_from : (g : Graph) (b : Boundaries) → ((read store : ℕ) → ¬ (Conflict g b read store)) → IsIdempotent g b
idempotent_from g b none from path begins inside i j read written lt reads writes overlaps = elim (written_or_not g (from ∷ path) read i) [
  | inl w ↦ w
  | inr unwritten ↦ absurd (none reads.node writes.node (record {
    from = from;
    path = path;
    begins = begins;
    inside = inside;
    i = i;
    j = j;
    later = lt;
    elements = read;
    written = written;
    at_read = reads.there;
    at_store = writes.there;
    reads = reads;
    writes = writes;
    overlaps = overlaps;
    exposed = unwritten;
  }))
]
