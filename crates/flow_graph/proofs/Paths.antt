-- Reads are right: within a region, what is read and is written then or later was written before.
use Rattle.std.proofs.Common.{◌≡◌, ◌≢◌, inl, inr, ⊎_elim, ◌<◌, ◌≤◌, refl, ℕ, zero, suc, List, [], ◌∷◌, length, map}
use Rattle.std.proofs.Common.{replicate, ◌∙◌, ap, sym, subst, arith, Option, Some, None, Bool, true, false}
use Rattle.std.specs.Prelude.{slice_get, Contains}
use Rattle.std.specs.Option.{option_map}
use Rattle.std.proofs.lemmas.Bool.{cases_eq}
use Rattle.ido_base.specs.declared.location.Location.{Location}
use Rattle.ido_base.specs.Locations.{same}
use Rattle.c_tree.specs.Exprs as e
use Rattle.c_tree.specs.Flats as f
use Rattle.c_tree.specs.Source.{Pending}
use Rattle.c_tree.specs.WellFormed.{IsWellFormed}
use Rattle.flow_graph.specs.Nodes.{Action, Eval, Store, Test, Lock, Unlock, End, Node, Graph, successors}
use Rattle.flow_graph.specs.Lowering.{lowered, threads_nodes}
use Rattle.flow_graph.specs.Liveness.{NodeAt}
use Rattle.flow_graph.specs.Actions.{Seen, GraphThread, FlowState, Effect, Makes, Ends, effect_of}
use Rattle.flow_graph.specs.Actions.{seen_by, graph_step, graph_after, graph_runs}
use Rattle.flow_graph.specs.Lockstep.{free}
use Rattle.flow_graph.specs.IdempotentCuts.{Boundaries, IsEdge, IsBoundary, BeginsRegion, IsInside, stays, goes_on, ReadsAt, WritesAt, IsWrittenBefore, AreCuts}
use Rattle.flow_graph.specs.Paths.{Element, reads_of, stored_element, write_of, Visit, solo_path}
use Rattle.flow_graph.specs.Paths.{ReadsElement, WritesElement, IsWithinRegion, Naming, Lies, LiesInWritten, HasOneNaming, PlainPathsHaveOneNaming}
use Rattle.flow_graph.specs.Paths.{ReadsAreRight}
use Rattle.flow_graph.proofs.Lockstep.{graph_is}
use Rattle.flow_graph.proofs.Shapes.{ShapedAs, node_shaped}
use Rattle.flow_graph.proofs.Locations.{common_overlaps, none_apart, same_element}
use Rattle.flow_graph.proofs.ElementsInLocations.{contains_none}
use Rattle.flow_graph.proofs.GraphStateInvariants.{reads_lie_here, writes_lie_here, Stepped, stepped, moved, effects_same, goes_by}
use Rattle.flow_graph.proofs.GraphStateInvariants.{after_is, not_again, Done, Good, nodes_at, good_step, after_by, good_reached}

-- ---- Solo paths

ends_store : (next : ℕ) (o : Option Pending) →
    (let step : Option Effect = elim o [ Some store ↦ Some (Makes store next) | None ↦ None ] in step ≡ Some Ends) → ⊥
ends_store next None h = cc
ends_store next (Some p) h = cc

ends_at_end : (a : Action) (seen : Seen) → effect_of a seen ≡ Some Ends → a ≡ End
ends_at_end (Eval (e.ToLocal place local kind) value next) seen h = cc
ends_at_end (Eval (e.ToVariable place variable kind) value next) seen h = cc
ends_at_end (Eval (e.ToElement place variable kind index) value next) seen h = cc
ends_at_end (Store variable kind next) seen h = absurd (ends_store next seen.pending h)
ends_at_end (Test condition holds fails) seen h = cc
ends_at_end (Lock lock next) seen h = cc
ends_at_end (Unlock lock next) seen h = cc
ends_at_end End seen h = refl

-- a visit of a path: the thread stands there in a state that a run may reach, and makes a step
pub record IsVisit (x : f.Flat) (t : ℕ) (v : Visit) : Type 0 where
  pub good : Good x v.before
  pub found : slice_get v.before.graph_threads t ≡ Some v.graph_thread
  pub next : FlowState
  pub step : graph_step (lowered x) v.before t ≡ Some next

abbrev path_by : Graph → FlowState → (t n : ℕ) → Option GraphThread → Option FlowState → List Visit
path_by graph s t n o p = elim o [
  | None ↦ []
  | Some graph_thread ↦ elim p [
    | None ↦ []
    | Some next ↦ record { graph_thread = graph_thread; before = s } ∷ solo_path graph next t n
  ]
]

-- the first visit begins in that state
first_by : (graph : Graph) (s : FlowState) (t n : ℕ) (o : Option GraphThread) (p : Option FlowState) (v : Visit) →
    slice_get (path_by graph s t n o p) 0 ≡ Some v → v.before ≡ s
first_by graph s t n None p v h = cc
first_by graph s t n (Some graph_thread) None v h = cc
first_by graph s t n (Some graph_thread) (Some next) v h =
    let is : (let made : Visit = record { graph_thread = graph_thread; before = s } in made ≡ v) = cc in ap (λ (z : Visit). z.before) (sym is)

first_before : (graph : Graph) (s : FlowState) (t n : ℕ) (v : Visit) → slice_get (solo_path graph s t n) 0 ≡ Some v → v.before ≡ s
first_before graph s t zero v h = cc
first_before graph s t (suc n) v h = first_by graph s t n (slice_get s.graph_threads t) (graph_step graph s t) v h

module _ (x : f.Flat) (w : IsWellFormed x) (t : ℕ) where
  abbrev of_form : Graph
  of_form = lowered x

  visit_by : (s : FlowState) (n : ℕ) (o : Option GraphThread) (p : Option FlowState) → Good x s → slice_get s.graph_threads t ≡ o → graph_step of_form s t ≡ p →
      ((next : FlowState) → Good x next → (i : ℕ) (v : Visit) → slice_get (solo_path of_form next t n) i ≡ Some v → IsVisit x t v) →
      (i : ℕ) (v : Visit) → slice_get (path_by of_form s t n o p) i ≡ Some v → IsVisit x t v
  visit_by s n None p good found step more i v h = cc
  visit_by s n (Some graph_thread) None good found step more i v h = cc
  visit_by s n (Some graph_thread) (Some next) good found step more zero v h =
      let is : (let made : Visit = record { graph_thread = graph_thread; before = s } in made ≡ v) = cc in
      subst (IsVisit x t) is (record { good = good; found = found; next = next; step = step })
  visit_by s n (Some graph_thread) (Some next) good found step more (suc i) v h = more next (good_step x s next t w good step) i v h

  visits : (n : ℕ) (s : FlowState) → Good x s → (i : ℕ) (v : Visit) → slice_get (solo_path of_form s t n) i ≡ Some v → IsVisit x t v
  visits zero s good i v h = cc
  visits (suc n) s good i v h = visit_by s n (slice_get s.graph_threads t) (graph_step of_form s t) good refl refl (visits n) i v h

  -- each visit's step leads to the next
  link_by : (s : FlowState) (n : ℕ) (o : Option GraphThread) (p : Option FlowState) → graph_step of_form s t ≡ p →
      ((next : FlowState) → (i : ℕ) (one other : Visit) → slice_get (solo_path of_form next t n) i ≡ Some one →
      slice_get (solo_path of_form next t n) (suc i) ≡ Some other →
      graph_step of_form one.before t ≡ Some other.before) →
      (i : ℕ) (one other : Visit) → slice_get (path_by of_form s t n o p) i ≡ Some one → slice_get (path_by of_form s t n o p) (suc i) ≡ Some other →
      graph_step of_form one.before t ≡ Some other.before
  link_by s n None p step more i one other h k = cc
  link_by s n (Some graph_thread) None step more i one other h k = cc
  link_by s n (Some graph_thread) (Some next) step more zero one other h k =
      let is : (let made : Visit = record { graph_thread = graph_thread; before = s } in made ≡ one) = cc in
      let P : Visit → Type 0 = λ z. graph_step of_form z.before t ≡ Some other.before in
      subst P is (step ∙ ap Some (sym (first_before of_form next t n other k)))
  link_by s n (Some graph_thread) (Some next) step more (suc i) one other h k = more next i one other h k

  links : (n : ℕ) (s : FlowState) (i : ℕ) (one other : Visit) → slice_get (solo_path of_form s t n) i ≡ Some one →
      slice_get (solo_path of_form s t n) (suc i) ≡ Some other →
      graph_step of_form one.before t ≡ Some other.before
  links zero s i one other h k = cc
  links (suc n) s i one other h k = link_by s n (slice_get s.graph_threads t) (graph_step of_form s t) refl (links n) i one other h k

  -- at an end that is done there is no step
  no_more_steps : (s next after : FlowState) (graph_thread : GraphThread) (st : Stepped of_form s next t) → st.effect ≡ Ends →
      slice_get next.graph_threads t ≡ Some graph_thread →
      graph_step of_form next t ≡ Some after → ⊥
  no_more_steps s next after graph_thread st over there again =
      let st' = stepped of_form next after t again in
      let is : graph_thread ≡ moved st.graph_thread Ends = after_is of_form s next t st graph_thread there ∙ ap (moved st.graph_thread) over in
      let same_graph_thread : st'.graph_thread ≡ graph_thread = let g = st'.found in cc in
      let same_at : st'.graph_thread.at ≡ st.graph_thread.at = ap (λ (z : GraphThread). z.at) (same_graph_thread ∙ is) in
      let same_node : st'.node ≡ st.node = let a = ap (slice_get of_form.nodes) same_at in let b = st.at in let c = st'.at in cc in
      let ended : st'.graph_thread.ended ≡ true = ap (λ (z : GraphThread). z.ended) (same_graph_thread ∙ is) in
      let action : st.node.action ≡ End = ends_at_end st.node.action (seen_by s st.graph_thread) (st.does ∙ ap Some over) in
      let over' : st'.effect ≡ Ends =
      effects_same Ends st'.effect (ap (λ (a : Action). effect_of a (seen_by next st'.graph_thread)) (sym (ap (λ (z : Node). z.action) same_node
      ∙ action)) ∙ st'.does) in
      not_again next after t st'.graph_thread st'.graph_thread.ended ended (subst (Done next after t st'.graph_thread) over' st'.is)

  edges : (n : ℕ) (s : FlowState) → Good x s → (i : ℕ) (one other : Visit) → slice_get (solo_path of_form s t n) i ≡ Some one →
      slice_get (solo_path of_form s t n) (suc i) ≡ Some other → IsEdge of_form one.graph_thread.at other.graph_thread.at
  edges n s good i one other h k =
      let v = visits n s good i one h in
      let u = visits n s good (suc i) other k in
      let step = links n s i one other h k in
      let st = stepped of_form one.before other.before t step in
      let is = after_is of_form one.before other.before t st other.graph_thread u.found in
      elim (goes_by st.node.action (seen_by one.before st.graph_thread) st.graph_thread st.effect st.does) [
        | inl c ↦
            let same_graph_thread : st.graph_thread ≡ one.graph_thread = let g = st.found in let b = v.found in cc in
            let P : GraphThread → Type 0 = λ z. IsEdge of_form z.at other.graph_thread.at in
            let Q : GraphThread → Type 0 = λ z. Contains (successors st.node.action) z.at in
            subst P same_graph_thread (record { is = st.node; at = st.at; goes = subst Q (sym is) c })
        | inr over ↦ absurd (no_more_steps one.before other.before u.next other.graph_thread st over u.found u.step)
      ]

-- ---- Solo paths and runs

abbrev runs_by : Graph → List ℕ → Option FlowState → Bool
runs_by graph ts o = elim o [
  | None ↦ false
  | Some next ↦ graph_runs graph next ts
]

pub record RunsTo (graph : Graph) (s : FlowState) (t steps : ℕ) (to : FlowState) : Type 0 where
  pub whole : graph_runs graph s (replicate steps t) ≡ true
  pub after : graph_after graph s (replicate steps t) ≡ to

run_by : (graph : Graph) (s : FlowState) (t n : ℕ) (o : Option GraphThread) (p : Option FlowState) → graph_step graph s t ≡ p →
    ((next : FlowState) (i : ℕ) (v : Visit) → slice_get (solo_path graph next t n) i ≡ Some v → RunsTo graph next t i v.before) →
    (i : ℕ) (v : Visit) → slice_get (path_by graph s t n o p) i ≡ Some v → RunsTo graph s t i v.before
run_by graph s t n None p step more i v h = cc
run_by graph s t n (Some graph_thread) None step more i v h = cc
run_by graph s t n (Some graph_thread) (Some next) step more zero v h =
    let is : (let made : Visit = record { graph_thread = graph_thread; before = s } in made ≡ v) = cc in
    record { whole = refl; after = ap (λ (z : Visit). z.before) is }
run_by graph s t n (Some graph_thread) (Some next) step more (suc i) v h =
    let rest = more next i v h in
    record {
      whole = ap (runs_by graph (replicate i t)) step ∙ rest.whole;
      after = ap (after_by graph s (replicate i t)) step ∙ rest.after;
    }

-- a visit of a path is made after as many steps as there are before it
pub path_runs : (graph : Graph) (t n : ℕ) (s : FlowState) (i : ℕ) (v : Visit) → slice_get (solo_path graph s t n) i ≡ Some v → RunsTo graph s t i v.before
path_runs graph t zero s i v h = cc
path_runs graph t (suc n) s i v h = run_by graph s t n (slice_get s.graph_threads t) (graph_step graph s t) refl (path_runs graph t n) i v h

-- only a thread that is there has a step
abbrev graph_thread_or_none : Option GraphThread → Option FlowState → Type 0
graph_thread_or_none None (Some next) = ⊥
graph_thread_or_none None None = Unit {0}
graph_thread_or_none (Some graph_thread) p = Unit {0}

steps_of_some : (graph : Graph) (s : FlowState) (t : ℕ) (o : Option GraphThread) (p : Option FlowState) → slice_get s.graph_threads t ≡ o →
    graph_step graph s t ≡ p →
    graph_thread_or_none o p
steps_of_some graph s t None None e h = tt
steps_of_some graph s t None (Some next) e h = let none : graph_step graph s t ≡ None = graph_is graph s t None e in cc
steps_of_some graph s t (Some graph_thread) p e h = tt

-- where so many steps can be made, the path has so many visits
length_by : (graph : Graph) (s : FlowState) (t n : ℕ) (o : Option GraphThread) (p : Option FlowState) → graph_thread_or_none o p →
    ((next : FlowState) → graph_runs graph next (replicate n t) ≡ true → length (solo_path graph next t n) ≡ n) →
    runs_by graph (replicate n t) p ≡ true → length (path_by graph s t n o p) ≡ suc n
length_by graph s t n None None e more h = cc
length_by graph s t n None (Some next) e more h = absurd e
length_by graph s t n (Some graph_thread) None e more h = cc
length_by graph s t n (Some graph_thread) (Some next) e more h = ap suc (more next h)

pub length-solo_path : (graph : Graph) (t n : ℕ) (s : FlowState) → graph_runs graph s (replicate n t) ≡ true → length (solo_path graph s t n) ≡ n
length-solo_path graph t zero s h = refl
length-solo_path graph t (suc n) s h =
    length_by graph s t n (slice_get s.graph_threads t) (graph_step graph s t) (steps_of_some graph s t (slice_get s.graph_threads t)
    (graph_step graph s t) refl refl) (length-solo_path graph t n) h

-- ---- Regions

numbers : List Visit → List ℕ
numbers path = map (λ (v : Visit). v.graph_thread.at) path

number_at : (path : List Visit) (i : ℕ) (v : Visit) → slice_get path i ≡ Some v → slice_get (numbers path) i ≡ Some v.graph_thread.at
unfolding numbers
number_at [] i v h = cc
number_at (y ∷ path) zero v h = let is : y ≡ v = cc in ap (λ (z : Visit). Some z.graph_thread.at) is
number_at (y ∷ path) (suc i) v h = number_at path i v h

visit_at : (path : List Visit) (i node : ℕ) → slice_get (numbers path) i ≡ Some node → (v : Visit) × (slice_get path i ≡ Some v) × (v.graph_thread.at ≡ node)
unfolding numbers
visit_at [] i node h = cc
visit_at (y ∷ path) zero node h = (y, refl, cc)
visit_at (y ∷ path) (suc i) node h = visit_at path i node h

inside : (graph : Graph) (b : Boundaries) (v : Visit) (path : List Visit) →
    ((i : ℕ) (one next : Visit) → slice_get (v ∷ path) i ≡ Some one → slice_get (v ∷ path) (suc i) ≡ Some next →
    IsEdge graph one.graph_thread.at next.graph_thread.at) →
    ((i : ℕ) (one next : Visit) → slice_get (v ∷ path) i ≡ Some one → slice_get (v ∷ path) (suc i) ≡ Some next →
    ¬ (IsBoundary graph b one.graph_thread.at next.graph_thread.at)) →
    IsInside graph b (v.graph_thread.at ∷ numbers path)
unfolding numbers
inside graph b v [] edge free = stays v.graph_thread.at
inside graph b v (u ∷ path) edge free =
    goes_on v.graph_thread.at u.graph_thread.at (numbers path) (edge 0 v u refl refl) (free 0 v u refl refl)
    (inside graph b u path (λ i one next h k. edge (suc i) one next h k) (λ i one next h k. free (suc i) one next h k))

-- ---- The location of a node

lies_in : (names : Naming) (ls : Option Location) (l : Location) (one : Element) → LiesInWritten names ls one → ls ≡ Some l → Lies names l one
lies_in names ls l one h is =
    let of = h.of in
    let same_location : h.location ≡ l = cc in
    let P : Location → Type 0 = λ z. Lies names z one in
    subst P same_location h.lies

-- ---- Reads are right

lower : (i j : ℕ) → i ≤ j → i ≢ j → i < j
lower zero zero h d = absurd (d refl)
lower zero (suc j) h d = omega arith
lower (suc i) zero h d = absurd (omega arith)
lower (suc i) (suc j) h d = let below : i < j = lower i j (omega arith) (λ e. d (ap suc e)) in omega arith

not_both : (a : Action) (seen : Seen) (one other : Element) → Contains (reads_of a seen) one → write_of a seen ≡ Some other → ⊥
not_both (Eval target value next) seen one other c h = cc
not_both (Store variable kind next) seen one other c h = contains_none one c
not_both (Test condition holds fails) seen one other c h = cc
not_both (Lock lock next) seen one other c h = cc
not_both (Unlock lock next) seen one other c h = cc
not_both End seen one other c h = cc

stored_by : (o : Option Pending) (next : ℕ) (effect : Effect) →
    (let step : Option Effect = elim o [ Some store ↦ Some (Makes store next) | None ↦ None ] in step ≡ Some effect) →
    (one : Element) × (option_map stored_element o ≡ Some one)
stored_by None next effect h = cc
stored_by (Some p) next effect h = (stored_element p, refl)

-- a node that writes, and makes a step, writes an element
written_by : (ns : List Node) (a : Action) (node : Node) (seen : Seen) (effect : Effect) (l : Location) → ShapedAs ns node a → node.writes ≡ Some l →
    effect_of a seen ≡ Some effect →
    (one : Element) × (write_of a seen ≡ Some one)
written_by ns (Eval target value next) node seen effect l shape h is = let none = shape.1.writes in cc
written_by ns (Store variable kind next) node seen effect l shape h is = stored_by seen.pending next effect is
written_by ns (Test condition holds fails) node seen effect l shape h is = let none = shape.1.writes in cc
written_by ns (Lock lock next) node seen effect l shape h is = let none = shape.1 in cc
written_by ns (Unlock lock next) node seen effect l shape h is = let none = shape.1 in cc
written_by ns End node seen effect l shape h is = let none = shape.1 in cc

module _ (x : f.Flat) (w : IsWellFormed x) (t : ℕ) (visit : Visit) (v : IsVisit x t visit) (node : Node)
    (at : NodeAt (lowered x) visit.graph_thread.at node) where
  does_here : (st : Stepped (lowered x) visit.before v.next t) → effect_of node.action (seen_by visit.before visit.graph_thread) ≡ Some st.effect
  does_here st =
      let found = st.found in
      let same_graph_thread : st.graph_thread ≡ visit.graph_thread = let there = v.found in cc in
      let same_node : st.node ≡ node = let here = st.at in let moved_at = ap (λ (z : GraphThread). slice_get (lowered x).nodes z.at) same_graph_thread in cc in
      let P : Node → Type 0 = λ z. effect_of z.action (seen_by visit.before visit.graph_thread) ≡ Some st.effect in
      let Q : GraphThread → Type 0 = λ z. effect_of st.node.action (seen_by visit.before z) ≡ Some st.effect in
      subst P same_node (subst Q same_graph_thread st.does)

  -- what it writes, where it writes a location
  written_here : (l : Location) → node.writes ≡ Some l → (one : Element) × (write_of node.action (seen_by visit.before visit.graph_thread) ≡ Some one)
  written_here l is =
      let st = stepped (lowered x) visit.before v.next t v.step in
      written_by (threads_nodes x x.threads 0) node.action node (seen_by visit.before visit.graph_thread) st.effect l
      (node_shaped x visit.graph_thread.at node (nodes_at x visit.graph_thread.at node at)) is (does_here st)

-- a path within a region, along which keys name one thing
record NamedRegion (x : f.Flat) (b : Boundaries) (path : List Visit) : Type 0 where
  inside : IsWithinRegion (lowered x) b path
  names : Naming
  named : HasOneNaming (lowered x) path names

module _ (x : f.Flat) (b : Boundaries) (s : FlowState) (t n : ℕ) (w : IsWellFormed x) (cuts : AreCuts (lowered x) b) (good : Good x s)
    (region : NamedRegion x b (solo_path (lowered x) s t n)) where
  abbrev path : List Visit
  path = solo_path (lowered x) s t n

  -- a whole path that has a visit is inside of a region
  region_of : (vs : List Visit) → vs ≡ path → (i : ℕ) (v : Visit) → slice_get vs i ≡ Some v →
      (from : ℕ) × (rest : List ℕ) × (numbers path ≡ from ∷ rest) × BeginsRegion (lowered x) b from × IsInside (lowered x) b (from ∷ rest)
  unfolding numbers
  region_of [] is i v h = cc
  region_of (u ∷ vs) is i v h = (
    u.graph_thread.at,
    numbers vs,
    ap numbers (sym is),
    region.inside.begins u (ap (λ (p : List Visit). slice_get p 0) (sym is)),
    inside (lowered x) b u vs
        (λ j one next a c. edges x w t n s good j one next (ap (λ (p : List Visit). slice_get p j) (sym is)
        ∙ a) (ap (λ (p : List Visit). slice_get p (suc j)) (sym is) ∙ c))
        (λ j one next a c. region.inside.inside j one next (ap (λ (p : List Visit). slice_get p j) (sym is)
        ∙ a) (ap (λ (p : List Visit). slice_get p (suc j)) (sym is) ∙ c)),
  )

  apart : (i j : ℕ) (one other : Element) → ReadsElement (lowered x) path i one → WritesElement (lowered x) path j other → i ≢ j
  apart i j one other r q same_place =
      let there : slice_get path j ≡ Some r.visit = ap (slice_get path) (sym same_place) ∙ r.there in
      let same_visit : r.visit ≡ q.visit = let h = q.there in cc in
      let same_node : r.is ≡ q.is =
      let a = r.at in let c = q.at in let d = ap (λ (v : Visit). slice_get (lowered x).nodes v.graph_thread.at) same_visit in cc in
      let P : Node → Type 0 = λ z. write_of z.action (seen_by q.visit.before q.visit.graph_thread) ≡ Some other in
      let Q : Visit → Type 0 = λ z. write_of r.is.action (seen_by z.before z.graph_thread) ≡ Some other in
      not_both r.is.action (seen_by r.visit.before r.visit.graph_thread) one other r.reads (subst Q (sym same_visit) (subst P (sym same_node) q.writes))

  -- what was written at a node that writes the very element
  written_there : (k : ℕ) (l r : Location) (one : Element) → WritesAt (lowered x) (numbers path) k l → same l r ≡ true → Lies region.names r one →
      WritesElement (lowered x) path k one
  written_there k l r one q is lies =
      let found = visit_at path k q.node q.there in
      let at : NodeAt (lowered x) found.0.graph_thread.at q.is = ap (slice_get (lowered x).nodes) found.2 ∙ q.at in
      let made = written_here x w t found.0 (visits x w t n s good k found.0 found.1) q.is at l q.writes in
      let element : WritesElement (lowered x) path k made.0 = record { visit = found.0; is = q.is; there = found.1; at = at; writes = made.1 } in
      let lies_there = lies_in region.names q.is.writes l made.0 (region.named.writes k made.0 element) q.writes in
      subst (WritesElement (lowered x) path k) (same_element region.names l r made.0 one is lies_there lies) element

  right : (i j : ℕ) (one : Element) → i ≤ j → ReadsElement (lowered x) path i one → WritesElement (lowered x) path j one →
      (k : ℕ) × (k < i) × WritesElement (lowered x) path k one
  right i j one le r q =
      let within = region_of path refl i r.visit r.there in
      let read = region.named.reads i one r in
      let wrote = region.named.writes j one q in
      let differs = apart i j one one r q in
      let earlier : i < j = ⊎_elim (λ same_place. absurd (differs same_place)) (λ other. lower i j le other) (cases_eq i j) in
      let P : List ℕ → Type 0 = λ ns. ReadsAt (lowered x) ns i read.location in
      let Q : List ℕ → Type 0 = λ ns. WritesAt (lowered x) ns j wrote.location in
      let R : List ℕ → Type 0 = λ ns. IsWrittenBefore (lowered x) ns i read.location in
      let reads : ReadsAt (lowered x) (numbers path) i read.location =
      record { node = r.visit.graph_thread.at; is = r.is; there = number_at path i r.visit r.there; at = r.at; reads = read.of } in
      let writes : WritesAt (lowered x) (numbers path) j wrote.location =
      record { node = q.visit.graph_thread.at; is = q.is; there = number_at path j q.visit q.there; at = q.at; writes = wrote.of } in
      let before = subst R (sym within.2) (cuts.idempotent within.0 within.1 within.3 within.4 i j read.location wrote.location earlier
      (subst P within.2 reads)
      (subst Q within.2 writes) (common_overlaps region.names wrote.location read.location one region.named.apart wrote.lies read.lies)) in
      (before.earlier, before.before, written_there before.earlier before.written read.location one before.writes before.is read.lies)

pub reads_are_right : ReadsAreRight
reads_are_right x b s thread steps names w cuts reached named region i j one le r q =
    right x b s thread steps w cuts (good_reached x s w reached) (record { inside = region; names = names; named = named }) i j one le r q

pub plain_paths : PlainPathsHaveOneNaming
plain_paths x s t n w single reached =
    let good = good_reached x s w reached in
    record {
      apart = none_apart;
      reads = λ i one r.
          let v = visits x w t n s good i r.visit r.there in
          reads_lie_here x w r.visit.before v.good t r.visit.graph_thread v.found single r.is one (nodes_at x r.visit.graph_thread.at r.is r.at) r.reads;
      writes = λ j one r.
          let v = visits x w t n s good j r.visit r.there in
          writes_lie_here x w r.visit.before v.good t r.visit.graph_thread v.found single r.is one (nodes_at x r.visit.graph_thread.at r.is r.at) r.writes;
    }
