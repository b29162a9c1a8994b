-- What the parts of a trial through one node say.
use Rattle.std.proofs.Common.{◌≡◌, ◌⊎◌, ◌↔◌, inl, inr, ℕ, zero, suc, ◌+◌, ◌<◌, ◌≤◌, ◌||◌, ◌++◌, [], ◌∷◌, Bool, true, false, List, length, replicate}
use Rattle.std.proofs.Common.{Option, Some, None, Vec, Global, refl, ap, sym, subst, ◌∙◌, arith}
use Rattle.std.specs.Prelude.{slice_get, Contains, IsTrue}
use Rattle.std.proofs.lemmas.Bool.{cases_eq, cases_lt}
use Rattle.std.proofs.lemmas.List.Elements.{Contains-push, Contains-push_cases, Contains-append_left}
use Rattle.std.proofs.lemmas.Option.{slice_get_within, slice_get_read}
use Rattle.ido_base.specs.declared.location.Location.{Location}
use Rattle.ido_base.specs.Locations.{overlap, same}
use Rattle.flow_graph.specs.Nodes.{Node, Graph, next_of, other_of}
use Rattle.flow_graph.specs.Liveness.{NodeAt}
use Rattle.flow_graph.specs.IdempotentCuts.{Boundaries, IsEdge, HasBefore, HasBoundaryAfter, BeginsRegion, past_lock, at_boundary}
use Rattle.flow_graph.proofs.Public.{found_in}
use Rattle.region_cutter.specs.links.BoundaryTrials as t
use Rattle.region_cutter.specs.links.GraphSearch.{ReachesEnd, there, goes_on, IsSeen, IsSearchStep, Searched}
use Rattle.region_cutter.specs.links.NodeMarks.{AddsSource, AreNone, AreSources, IsAfterLock, IsAfterLockBelow, AreBegun}
use Rattle.region_cutter.specs.links.RemovalPaths.{Inside, WritesOver, WritesSame, AllAfter, StoresTo, AddsWritten, AreAhead, AreWrittenFrom, Never}
use Rattle.region_cutter.specs.links.RemovalPaths.{ComesBack, ComesFrom, ComesFromAny, ComesFromBelow, WritesPast}
use Rattle.region_cutter.specs.links.RemovalPaths.{ExposesOver, OverwritesFromAny, OverwritesRead}
use Rattle.region_cutter.proofs.BoundariesEverywhere.{locked}
use Rattle.region_cutter.proofs.Edges.{is_lock, same_node, edge_to, edge_from, or_either, or_left, or_right}
use Rattle.region_cutter.proofs.Lists.{some_same}
use Rattle.region_cutter.proofs.GraphSearchComplete.{searched_first, searched_step, all_followed, none_seen, none_waits}
use Rattle.region_cutter.proofs.ConflictPaths.{reaches_as, reaches_more, comes_over_any, over_any_comes}

-- ---- Lists

pub below_more : {A : Type 0} (P : A → Type 0) (xs : List A) (n : ℕ) (item : A) → slice_get xs n ≡ Some item → P item →
    ((k : ℕ) (x : A) → k < n → slice_get xs k ≡ Some x → P x) →
    (k : ℕ) (x : A) → k < n + 1 → slice_get xs k ≡ Some x → P x
below_more P xs n item at p old k x lt is = elim (cases_lt k n) [
  | inl less ↦ old k x less is
  | inr most ↦ (
      let e : k ≡ n = omega arith in
      let both : Some item ≡ Some x = sym at ∙ sym (ap (λ m. slice_get xs m) e) ∙ is in
      let one : item ≡ x = cc in
      subst P one p)
]

pub contained : {A : Type 0} (xs : List A) (x : A) → Contains xs x → (k : ℕ) × (k < length xs) × (slice_get xs k ≡ Some x)
contained xs x k = (k.0, k.1, slice_get_read xs (length xs) k.0 x refl k.1 (sym k.2))

pub found_contained : {A : Type 0} (xs : List A) (x : A) (k : ℕ) → slice_get xs k ≡ Some x → Contains xs x
found_contained [] x k e = absurd (cc)
found_contained (y ∷ xs) x zero e = (0, omega arith, some_same y x e)
found_contained (y ∷ xs) x (suc k) e = let c = found_contained xs x k e in (suc c.0, (let lt = c.1 in omega (arith, lt)), c.2)

-- ---- Writes

writes_both : (g : Graph) (n : ℕ) (x y : Node) (w v : Location) → NodeAt g n x → NodeAt g n y → x.writes ≡ Some w → y.writes ≡ Some v → w ≡ v
writes_both g n x y w v at at' e e' = let both : Some w ≡ Some v = sym e ∙ ap (λ (z : Node). z.writes) (same_node g n x y at at') ∙ e' in cc

writes_none : (g : Graph) (n : ℕ) (x y : Node) (v : Location) → NodeAt g n x → NodeAt g n y → x.writes ≡ None → y.writes ≡ Some v → ⊥
writes_none g n x y v at at' e e' = let both : None ≡ Some v = sym e ∙ ap (λ (z : Node). z.writes) (same_node g n x y at at') ∙ e' in cc

pub over_some : (g : Graph) (elements : Location) (n : ℕ) (x : Node) (w : Location) (answer : Bool) → NodeAt g n x → x.writes ≡ Some w → answer ≡
    overlap w elements → IsTrue answer ↔ WritesOver g elements n
over_some g elements n x w answer at e is = (
  λ h. record { is = x; at = at; written = w; writes = e; over = sym is ∙ h },
  λ k. is ∙ ap (λ (v : Location). overlap v elements) (writes_both g n x k.is w k.written at k.at e k.writes) ∙ k.over,
)

pub over_none : (g : Graph) (elements : Location) (n : ℕ) (x : Node) → NodeAt g n x → x.writes ≡ None → IsTrue false ↔ WritesOver g elements n
over_none g elements n x at e = (λ h. let wrong : false ≡ true = h in absurd (cc), λ k. absurd (writes_none g n x k.is k.written at k.at e k.writes))

pub same_some : (g : Graph) (element : Location) (n : ℕ) (x : Node) (w : Location) (answer : Bool) → NodeAt g n x → x.writes ≡ Some w → answer ≡
    same w element → IsTrue answer ↔ WritesSame g element n
same_some g element n x w answer at e is = (
  λ h. record { is = x; at = at; written = w; writes = e; same = sym is ∙ h },
  λ k. is ∙ ap (λ (v : Location). same v element) (writes_both g n x k.is w k.written at k.at e k.writes) ∙ k.same,
)

pub same_none : (g : Graph) (element : Location) (n : ℕ) (x : Node) → NodeAt g n x → x.writes ≡ None → IsTrue false ↔ WritesSame g element n
same_none g element n x at e = (λ h. let wrong : false ≡ true = h in absurd (cc), λ k. absurd (writes_none g n x k.is k.written at k.at e k.writes))

-- ---- Edges inside

abbrev pub IsInsideOf : Boundaries → (after : Bool) → (to result : Option ℕ) → Type 0
IsInsideOf b after to result = (n : ℕ) → (result ≡ Some n) ↔ ((to ≡ Some n) × (IsTrue after → ⊥) × ¬ (HasBefore b n))

inside_by : (g : Graph) (b : Boundaries) (n : ℕ) (x : Node) (after : Bool) (to result : Option ℕ) → NodeAt g n x → (IsTrue after ↔ HasBoundaryAfter g b n) →
    ((m : ℕ) → to ≡ Some m → (next_of x.action ≡ Some m) ⊎ (other_of x.action ≡ Some m)) → IsInsideOf b after to result → (m : ℕ) → result ≡ Some m →
    Inside g b n m
inside_by g b n x after to result at k is h m e =
    let d = (h m).0 e in record {
      edge = edge_to g n m x at (is m d.0);
      free = λ over. elim over [ inl stands ↦ d.1 (k.1 stands) | inr has ↦ d.2 has ];
    }

inside_to : (g : Graph) (b : Boundaries) (n m : ℕ) (after : Bool) (to result : Option ℕ) → (IsTrue after ↔ HasBoundaryAfter g b n) →
    IsInsideOf b after to result → Inside g b n m → to ≡ Some m → result ≡ Some m
inside_to g b n m after to result k h i e = (h m).1 (e, λ t. i.free (inl (k.0 t)), λ has. i.free (inr has))

pub inside_both : (g : Graph) (b : Boundaries) (n : ℕ) (x : Node) (after : Bool) (next other one two : Option ℕ) → NodeAt g n x →
    (IsTrue after ↔ HasBoundaryAfter g b n) → next ≡ next_of x.action → other ≡ other_of x.action →
    IsInsideOf b after next one → IsInsideOf b after other two → (m : ℕ) → ((one ≡ Some m) ⊎ (two ≡ Some m)) ↔ Inside g b n m
inside_both g b n x after next other one two at k e f h j m = (
  λ d. elim d [
    | inl is ↦ inside_by g b n x after next one at k (λ l is'. inl (sym e ∙ is')) h m is
    | inr is ↦ inside_by g b n x after other two at k (λ l is'. inr (sym f ∙ is')) j m is
  ],
  λ i. elim (edge_from g n m x at i.edge) [
    | inl is ↦ inl (inside_to g b n m after next one k h i (e ∙ is))
    | inr is ↦ inr (inside_to g b n m after other two k j i (f ∙ is))
  ],
)

-- ---- Where regions begin

pub after_by : (g : Graph) (n : ℕ) (x : Node) (takes : Bool) (next other one two : Option ℕ) → NodeAt g n x → takes ≡ t.locks x.action → next ≡
    next_of x.action → other ≡ other_of x.action →
    ((m : ℕ) → (one ≡ Some m) ↔ ((next ≡ Some m) × IsTrue takes)) → ((m : ℕ) → (two ≡ Some m) ↔ ((other ≡ Some m) × IsTrue takes)) → (m : ℕ) →
    ((one ≡ Some m) ⊎ (two ≡ Some m)) ↔ IsAfterLock g n m
after_by g n x takes next other one two at k e f i j m = (
  λ d. elim d [
    | inl is ↦ (let r = (i m).0 is in record { locks = locked g n x x.action at refl (sym k ∙ r.1); edge = edge_to g n m x at (inl (sym e ∙ r.0)) })
    | inr is ↦ (let r = (j m).0 is in record { locks = locked g n x x.action at refl (sym k ∙ r.1); edge = edge_to g n m x at (inr (sym f ∙ r.0)) })
  ],
  λ y. elim (edge_from g n m x at y.edge) [
    | inl is ↦ inl ((i m).1 (e ∙ is, k ∙ is_lock g n x at y.locks))
    | inr is ↦ inr ((j m).1 (f ∙ is, k ∙ is_lock g n x at y.locks))
  ],
)

pub locks_none : (g : Graph) (m : ℕ) → IsAfterLockBelow g 0 m → ⊥
locks_none g m d = let lt = d.below in omega (arith, lt)

pub locks_next : (g : Graph) (n m : ℕ) → (IsAfterLockBelow g n m ⊎ IsAfterLock g n m) ↔ IsAfterLockBelow g (n + 1) m
locks_next g n m = (
  λ d. elim d [
    | inl old ↦ record { one = old.one; below = (let lt = old.below in omega (arith, lt)); by = old.by }
    | inr new ↦ record { one = n; below = omega arith; by = new }
  ],
  λ d. elim (cases_lt d.one n) [
    | inl less ↦ inl (record { one = d.one; below = less; by = d.by })
    | inr most ↦ inr (let lt = d.below in let e : d.one ≡ n = omega (arith, lt) in subst (λ (k : ℕ). IsAfterLock g k m) e d.by)
  ],
)

-- a region begins at the node exactly where a boundary stands before it or it stands after a lock
pub begins_is : (g : Graph) (b : Boundaries) (begun : List Bool) (n : ℕ) (before after : Bool) → n < length g.nodes → AreBegun g begun → AllAfter g b →
    (IsTrue before ↔ (slice_get b.before n ≡ Some true)) →
    (IsTrue after ↔ (slice_get begun n ≡ Some true)) → IsTrue (before || after) ↔ BeginsRegion g b n
begins_is g b begun n before after lt a all k j = (
  λ h. elim (or_either before after h) [
    | inl e ↦ at_boundary (k.0 e)
    | inr e ↦ (let by = (a.each n lt).0 (j.0 e) in past_lock by.one (all by.one by.by.locks) by.by.edge)
  ],
  to,
)
  where
    to : BeginsRegion g b n → IsTrue (before || after)
    to (past_lock from stands edge) =
        or_right before after (j.1 ((a.each n lt).1
        (record { one = from; below = slice_get_within g.nodes from edge.is edge.at; by = record { locks = stands.locks; edge = edge } })))
    to (at_boundary has) = or_left before after (k.1 has)

-- ---- Where edges lead from

-- edges of the nodes below the number are noted
pub record AreSourcesBelow (g : Graph) (number : ℕ) (sources : List (Vec ℕ Global)) : Type 0 where
  pub long : length sources ≡ length g.nodes
  pub all : (from to : ℕ) (at : Vec ℕ Global) → from < number → IsEdge g from to → slice_get sources to ≡ Some at → Contains at.items from
  pub are : (from to : ℕ) (at : Vec ℕ Global) → slice_get sources to ≡ Some at → Contains at.items from → IsEdge g from to

pub sources_none : (g : Graph) (n : ℕ) (sources : List (Vec ℕ Global)) → n ≡ length g.nodes → AreNone n sources → AreSourcesBelow g 0 sources
sources_none g n sources count none = record {
  long = none.long ∙ count;
  all = λ from to at below edge is. absurd (omega (arith, below));
  are = λ from to at is k. absurd (none_waits at.items from (none.none to at is) k);
}

leads_or : (to : Option ℕ) (node : ℕ) → (to ≡ Some node) ⊎ ¬ (to ≡ Some node)
leads_or None node = inr (λ e. (cc))
leads_or (Some n) node = elim (cases_eq n node) [ inl e ↦ inl (ap (λ (k : ℕ). Some k) e) | inr ne ↦ inr (λ e. ne (some_same n node e)) ]

-- what a node has before an edge is noted
record Noted (from : ℕ) (to : Option ℕ) (old : List (Vec ℕ Global)) (node : ℕ) (is : Vec ℕ Global) : Type 0 where
  pub was : Vec ℕ Global
  pub had : slice_get old node ≡ Some was
  pub kept : (n : ℕ) → Contains was.items n → Contains is.items n
  pub added : to ≡ Some node → Contains is.items from
  pub new_is : (n : ℕ) → Contains is.items n → Contains was.items n ⊎ ((n ≡ from) × (to ≡ Some node))

noted : (from : ℕ) (to : Option ℕ) (old new : List (Vec ℕ Global)) (node : ℕ) (is : Vec ℕ Global) → AddsSource from to old new →
    slice_get new node ≡ Some is → Noted from to old node is
noted from to old new node is a at = elim (leads_or to node) [
  | inl here ↦ (
      let long = a.long in
      let lt = slice_get_within new node is at in
      let was = found_in old node (omega (arith, lt, long)) in
      let e = a.noted node was.0 is here was.1 at in
      record {
        was = was.0;
        had = was.1;
        kept = λ n k. subst (λ (xs : List ℕ). Contains xs n) (sym e) (Contains-append_left was.0.items (from ∷ []) n k);
        added = λ _. subst (λ (xs : List ℕ). Contains xs from) (sym e) (Contains-push was.0.items from);
        new_is = λ n k. elim (Contains-push_cases was.0.items from n (subst (λ (xs : List ℕ). Contains xs n) e k)) [
          | inl old' ↦ inl old'
          | inr one ↦ inr (sym one, here)
        ];
      })
  | inr elsewhere ↦ record {
    was = is;
    had = sym (a.same node elsewhere) ∙ at;
    kept = λ n k. k;
    added = λ e. absurd (elsewhere e);
    new_is = λ n k. inl k;
  }
]

-- both edges of one node are noted
pub sources_both : (g : Graph) (n : ℕ) (x : Node) (next other : Option ℕ) (old mid new : List (Vec ℕ Global)) → NodeAt g n x → next ≡ next_of x.action →
    other ≡ other_of x.action → AddsSource n next old mid → AddsSource n other mid new → AreSourcesBelow g n old →
    AreSourcesBelow g (n + 1) new
sources_both g n x next other old mid new at e f a c are = record {
  long = c.long ∙ a.long ∙ are.long;
  all = λ from to is below edge there'.
      let two = noted n other mid new to is c there' in
      let one = noted n next old mid to two.was a two.had in
      elim (cases_lt from n) [
        | inl less ↦ two.kept from (one.kept from (are.all from to one.was less edge one.had))
        | inr most ↦ (
            let same : from ≡ n = omega (arith, below, most) in
            let edge' : IsEdge g n to = subst (λ (m : ℕ). IsEdge g m to) same edge in
            subst (λ (m : ℕ). Contains is.items m) (sym same) (elim (edge_from g n to x at edge') [
              | inl goes ↦ two.kept n (one.added (e ∙ goes))
              | inr goes ↦ two.added (f ∙ goes)
            ]))
      ];
  are = λ from to is there' k.
      let two = noted n other mid new to is c there' in
      let one = noted n next old mid to two.was a two.had in
      elim (two.new_is from k) [
        | inr here ↦ subst (λ (m : ℕ). IsEdge g m to) (sym here.0) (edge_to g n to x at (inr (sym f ∙ here.1)))
        | inl k' ↦ elim (one.new_is from k') [
          | inr here ↦ subst (λ (m : ℕ). IsEdge g m to) (sym here.0) (edge_to g n to x at (inl (sym e ∙ here.1)))
          | inl k'' ↦ are.are from to one.was one.had k''
        ]
      ];
}

pub sources_all : (g : Graph) (n : ℕ) (sources : List (Vec ℕ Global)) → length g.nodes ≤ n → AreSourcesBelow g n sources → AreSources g sources
sources_all g n sources all are = record {
  long = are.long;
  all = λ from to at edge is. are.all from to at (let lt = slice_get_within g.nodes from edge.is edge.at in omega (arith, lt, all)) edge is;
  are = are.are;
}

-- ---- Ahead

pub reaches_within : (g : Graph) (b : Boundaries) (End : ℕ → Type 0) (n : ℕ) → ((m : ℕ) → End m → m < length g.nodes) → ReachesEnd (Inside g b) End n →
    n < length g.nodes
reaches_within g b End n within (there _ end) = within n end
reaches_within g b End n within (goes_on _ to step rest) = slice_get_within g.nodes n step.edge.is step.edge.at

-- a search that collects what nodes write has come so far
pub record IsCollecting (g : Graph) (b : Boundaries) (from : ℕ) (seen : List Bool) (waiting : List ℕ) (writes : List Location) : Type 0 where
  pub search : Searched (Inside g b) Never (λ n. from ≡ n) ⊥ seen waiting
  pub reached : (n : ℕ) → Contains waiting n → ReachesEnd (Inside g b) (λ m. m ≡ n) from
  pub had : (n : ℕ) (written : Location) → IsSeen seen n → StoresTo g written n → Contains waiting n ⊎ Contains writes written
  pub are : (written : Location) → Contains writes written → ReachesEnd (Inside g b) (StoresTo g written) from

never : (g : Graph) (b : Boundaries) (n : ℕ) → ReachesEnd (Inside g b) Never n → ⊥
never g b n (there _ end) = end
never g b n (goes_on _ to step rest) = never g b to rest

pub collects_first : (g : Graph) (b : Boundaries) (from size : ℕ) (seen : List Bool) (waiting : List ℕ) (writes : List Location) → writes ≡ [] →
    IsSearchStep (λ n. from ≡ n) (replicate size false) [] seen waiting → IsCollecting g b from seen waiting writes
collects_first g b from size seen waiting writes empty f = record {
  search = searched_first (Inside g b) Never (λ n. from ≡ n) ⊥ (λ n. from ≡ n) size seen waiting f (λ n is comes. never g b n comes) (λ n is lt. is);
  reached = λ n k. elim (f.new n k) [ inl none ↦ absurd (none_waits [] n refl none) | inr new ↦ there from new.1 ];
  had = λ n written s w. elim (f.known n s) [ inl none ↦ absurd (none_seen size n none) | inr k ↦ inl k ];
  are = λ written k. absurd (none_written writes written empty k);
}
  where
    none_written : (writes : List Location) (written : Location) → writes ≡ [] → Contains writes written → ⊥
    none_written writes written e k = omega (arith, k.1, ap length e)

pub collects_step : (g : Graph) (b : Boundaries) (from : ℕ) (s : List Bool) (w rest : List ℕ) (writes : List Location) (s' : List Bool) (w' : List ℕ)
    (writes' : List Location) (n : ℕ) (x : Node) → w ≡ rest ++ n ∷ [] → IsCollecting g b from s w writes → NodeAt g n x → AddsWritten x writes writes' →
    IsSearchStep (Inside g b n) s rest s' w' → IsCollecting g b from s' w' writes'
collects_step g b from s w rest writes s' w' writes' n x e h at a f =
    let here : ReachesEnd (Inside g b) (λ m. m ≡ n) from = h.reached n (subst (λ (xs : List ℕ). Contains xs n) (sym e) (Contains-push rest n)) in record {
      search = searched_step (Inside g b) Never (λ m. from ≡ m) ⊥ s w rest s' w' n e h.search (λ z. z) f;
      reached = λ m k. elim (f.new m k) [
        | inl old ↦ h.reached m (subst (λ (xs : List ℕ). Contains xs m) (sym e) (Contains-append_left rest (n ∷ []) m old))
        | inr new ↦ reaches_more n m new.1 from here
      ];
      had = λ m written seen stores. elim (f.known m seen) [
        | inr k ↦ inl k
        | inl old ↦ elim (h.had m written old stores) [
          | inr k ↦ inr (a.kept written k)
          | inl waited ↦ elim (Contains-push_cases rest n m (subst (λ (xs : List ℕ). Contains xs m) e waited)) [
            | inl still ↦ inl (f.waits m still)
            | inr is ↦ inr (a.added written (
                let at' : NodeAt g n stores.is = subst (λ (i : ℕ). NodeAt g i stores.is) (sym is) stores.at in
                ap (λ (y : Node). y.writes) (same_node g n x stores.is at at') ∙ stores.writes))
          ]
        ]
      ];
      are = λ written k. elim (a.new_is written k) [
        | inl old ↦ h.are written old
        | inr is ↦ reaches_as (λ (m : ℕ). m ≡ n) (StoresTo g written)
            (λ m same'. subst (λ (i : ℕ). StoresTo g written i) (sym same') (record { is = x; at = at; writes = is })) from here
      ];
    }

pub collects_all : (g : Graph) (b : Boundaries) (from : ℕ) (s : List Bool) (w : List ℕ) (writes : List Location) → w ≡ [] → length s ≡ length g.nodes →
    IsCollecting g b from s w writes → AreWrittenFrom g b from writes
collects_all g b from s w writes none count h = record {
  all = λ written comes. along written from (h.search.begun from refl (omega (arith, within written from comes, count))) comes;
  are = h.are;
}
  where
    within : (written : Location) (n : ℕ) → ReachesEnd (Inside g b) (StoresTo g written) n → n < length g.nodes
    within written n comes = reaches_within g b (StoresTo g written) n (λ m x. slice_get_within g.nodes m x.is x.at) comes

    along : (written : Location) (n : ℕ) → IsSeen s n → ReachesEnd (Inside g b) (StoresTo g written) n → Contains writes written
    along written n seen (there _ stores) = elim (h.had n written seen stores) [ inl waits ↦ absurd (none_waits w n none waits) | inr k ↦ k ]
    along written n seen (goes_on _ to step rest) = along written to
        ((all_followed (Inside g b) Never (λ m. from ≡ m) ⊥ s w none h.search n seen).followed to step (omega (arith, within written to rest, count))) rest

pub collects_ahead : (g : Graph) (b : Boundaries) (from : ℕ) (s : List Bool) (w : List ℕ) (writes : List Location) → w ≡ [] → length s ≡ length g.nodes →
    IsCollecting g b from s w writes → AreAhead g b from s
collects_ahead g b from s w writes none count h node lt comes = along from (h.search.begun from refl (omega (arith, within from comes, count))) comes
  where
    within : (n : ℕ) → ReachesEnd (Inside g b) (λ m. m ≡ node) n → n < length g.nodes
    within n comes' = reaches_within g b (λ m. m ≡ node) n (λ m is. omega (arith, lt, is)) comes'

    along : (n : ℕ) → IsSeen s n → ReachesEnd (Inside g b) (λ m. m ≡ node) n → IsSeen s node
    along n seen (there _ is) = subst (λ (m : ℕ). IsSeen s m) is seen
    along n seen (goes_on _ to step rest) = along to
        ((all_followed (Inside g b) Never (λ m. from ≡ m) ⊥ s w none h.search n seen).followed to step (omega (arith, within to rest, count))) rest

-- ---- Back

pub past_some : (g : Graph) (element : Location) (n : ℕ) (answer : Bool) → (IsTrue answer ↔ WritesSame g element n) →
    IsTrue answer ↔ WritesPast g (Some element) n
past_some g element n answer k = (
  λ h. record { element = element; is = refl; writes = k.0 h },
  λ w. k.1 (let e : w.element ≡ element = (let is = w.is in cc) in subst (λ (l : Location). WritesSame g l n) e w.writes),
)

pub comes_from_is : (g : Graph) (b : Boundaries) (past : Option Location) (from : ℕ) → ¬ (HasBoundaryAfter g b from) → ¬ (WritesPast g past from) → (n : ℕ) →
    (from ≡ n) ↔ ComesFrom g b past from n
comes_from_is g b past from free spares n = (
  λ e. record {
    is = e;
    free = subst (λ (m : ℕ). ¬ (HasBoundaryAfter g b m)) e free;
    spares = subst (λ (m : ℕ). ¬ (WritesPast g past m)) e spares;
  },
  λ d. d.is,
)

pub comes_from_none : (g : Graph) (b : Boundaries) (past : Option Location) (from : ℕ) → HasBoundaryAfter g b from ⊎ WritesPast g past from → (n : ℕ) →
    ComesFrom g b past from n → ⊥
comes_from_none g b past from either n d = elim either [
  | inl after ↦ d.free (subst (λ (m : ℕ). HasBoundaryAfter g b m) d.is after)
  | inr writes ↦ d.spares (subst (λ (m : ℕ). WritesPast g past m) d.is writes)
]

pub comes_none : (g : Graph) (b : Boundaries) (past : Option Location) (sources : List ℕ) (n : ℕ) → ComesFromBelow g b past sources 0 n → ⊥
comes_none g b past sources n d = let lt = d.below_it in omega (arith, lt)

pub comes_next : (g : Graph) (b : Boundaries) (past : Option Location) (sources : List ℕ) (i from n : ℕ) → slice_get sources i ≡ Some from →
    (ComesFromBelow g b past sources i n ⊎ ComesFrom g b past from n) ↔ ComesFromBelow g b past sources (i + 1) n
comes_next g b past sources i from n at = (
  λ d. elim d [
    | inl old ↦ record { place = old.place; below_it = (let lt = old.below_it in omega (arith, lt)); there = old.there; free = old.free; spares = old.spares }
    | inr new ↦ record { place = i; below_it = omega arith; there = at ∙ ap (λ (m : ℕ). Some m) new.is; free = new.free; spares = new.spares }
  ],
  λ d. elim (cases_lt d.place i) [
    | inl less ↦ inl (record { place = d.place; below_it = less; there = d.there; free = d.free; spares = d.spares })
    | inr most ↦ inr (
        let lt = d.below_it in
        let e : d.place ≡ i = omega (arith, lt, most) in
        let both : Some from ≡ Some n = sym at ∙ sym (ap (λ (m : ℕ). slice_get sources m) e) ∙ d.there in
        record { is = some_same from n both; free = d.free; spares = d.spares })
  ],
)

pub comes_any : (g : Graph) (b : Boundaries) (past : Option Location) (sources : List ℕ) (i n : ℕ) → length sources ≤ i →
    ComesFromBelow g b past sources i n ↔ ComesFromAny g b past sources n
comes_any g b past sources i n all = (
  λ d. record { among = found_contained sources n d.place d.there; free = d.free; spares = d.spares },
  λ d. (let k = contained sources n d.among in let lt = k.1 in
      record { place = k.0; below_it = omega (arith, lt, all); there = k.2; free = d.free; spares = d.spares }),
)

-- the node's sources, where no boundary stands before it, are those from which regions come to it
pub comes_back : (g : Graph) (b : Boundaries) (past : Option Location) (sources : List (Vec ℕ Global)) (at : Vec ℕ Global) (n : ℕ) → AreSources g sources →
    slice_get sources n ≡ Some at → ¬ (HasBefore b n) → (from : ℕ) → ComesFromAny g b past at.items from ↔ ComesBack g b past n from
comes_back g b past sources at n are is free from = (
  λ d. record {
    inside = record { edge = are.are from n at is d.among; free = λ over. elim over [ inl after ↦ d.free after | inr has ↦ free has ] };
    spares = d.spares;
  },
  λ d. record { among = are.all from n at d.inside.edge is; free = λ after. d.inside.free (inl after); spares = d.spares },
)

pub comes_never : (g : Graph) (b : Boundaries) (past : Option Location) (n from : ℕ) → HasBefore b n → ComesBack g b past n from → ⊥
comes_never g b past n from has d = d.inside.free (inr has)

pub back_within : (g : Graph) (b : Boundaries) (past : Option Location) (node from : ℕ) → ComesBack g b past node from → from < length g.nodes
back_within g b past node from step = slice_get_within g.nodes from step.inside.edge.is step.inside.edge.at

-- ---- Whether a node's region overwrites what it reads

pub overwrites_is : (g : Graph) (b : Boundaries) (writes : List Location) (n at : ℕ) (to : Option ℕ) (answer : Bool) → to ≡ Some at →
    AreWrittenFrom g b at writes → (IsTrue answer ↔ ExposesOver g b writes n) → IsTrue answer ↔ OverwritesFromAny g b n to
overwrites_is g b writes n at to answer is are k = (
  λ h. (let e = k.0 h in
      record {
        at = at;
        is = is;
        overwrites = record {
          elements = e.elements;
          reads = e.reads;
          unwritten = e.exposed.unwritten;
          comes = comes_over_any g b writes at e.elements are e.exposed.over;
        };
      }),
  λ o. k.1 (
      let both : Some at ≡ Some o.at = sym is ∙ o.is in
      let same' : o.at ≡ at = cc in
      let f = o.overwrites in
      record {
        elements = f.elements;
        reads = f.reads;
        exposed = record {
          over = over_any_comes g b writes at f.elements are (subst (λ (m : ℕ). ReachesEnd (Inside g b) (WritesOver g f.elements) m) same' f.comes);
          unwritten = f.unwritten;
        };
      }),
)

pub overwrites_none : (g : Graph) (b : Boundaries) (n : ℕ) (to : Option ℕ) → to ≡ None → IsTrue false ↔ OverwritesFromAny g b n to
overwrites_none g b n to none = (λ t. let wrong : false ≡ true = t in absurd (cc), λ o. absurd (let is = o.is in cc))

pub read_is : (g : Graph) (b : Boundaries) (n : ℕ) (next other : Option ℕ) (one two : Bool) →
    ((m : ℕ) → ((next ≡ Some m) ⊎ (other ≡ Some m)) ↔ Inside g b n m) → (IsTrue one ↔ OverwritesFromAny g b n next) →
    (IsTrue two ↔ OverwritesFromAny g b n other) → IsTrue (one || two) ↔ OverwritesRead g b n
read_is g b n next other one two ways k l = (
  λ h. elim (or_either one two h) [
    | inl e ↦ (let o = k.0 e in record { to = o.at; inside = (ways o.at).0 (inl o.is); overwrites = o.overwrites })
    | inr e ↦ (let o = l.0 e in record { to = o.at; inside = (ways o.at).0 (inr o.is); overwrites = o.overwrites })
  ],
  λ o. elim ((ways o.to).1 o.inside) [
    | inl is ↦ or_left one two (k.1 (record { at = o.to; is = is; overwrites = o.overwrites }))
    | inr is ↦ or_right one two (l.1 (record { at = o.to; is = is; overwrites = o.overwrites }))
  ],
)
