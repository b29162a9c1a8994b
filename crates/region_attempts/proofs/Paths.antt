-- A longest attempt as the graph's own solo path.
use Rattle.std.proofs.Common.{◌≡◌, refl, ℕ, zero, suc, ◌<◌, List, [], ◌∷◌, ◌∙◌, ap, subst, arith, Option, Some, None}
use Rattle.std.specs.Prelude.{slice_get}
use Rattle.std.specs.Option.{option_map}
use Rattle.c_tree.specs.Flats as f
use Rattle.flow_graph.specs.Nodes.{Graph}
use Rattle.flow_graph.specs.Lowering.{lowered}
use Rattle.flow_graph.specs.Liveness.{NodeAt}
use Rattle.flow_graph.specs.Actions.{GraphThread, FlowState, graph_step}
use Rattle.flow_graph.specs.IdempotentCuts as cutting
use Rattle.flow_graph.specs.IdempotentCuts.{IsBoundary}
use Rattle.flow_graph.specs.Paths.{Element, Visit, solo_path}
use Rattle.flow_graph.proofs.Public.{path_runs}
use Rattle.recovery_semantics.specs.Configs.{attempt_of}
use Rattle.region_attempts.specs.GraphStates.{node_after}
use Rattle.region_attempts.specs.Laws.{InsideIsRegion, WritersStore}
use Rattle.region_attempts.proofs.GraphConfigs.{graph_config}
use Rattle.region_attempts.proofs.Region.{number, made_there, number_is, there_at, is_number, free}
use Rattle.region_attempts.proofs.AttemptNaming.{keeps}
use Rattle.region_attempts.proofs.AttemptReads.{stores_there}

-- a visit of a path is one of so many, and its graph thread stands in its state
record IsVisited (t n i : ℕ) (v : Visit) : Type 0 where
  within : i < n
  found : slice_get v.before.graph_threads t ≡ Some v.graph_thread

abbrev path_by : Graph → FlowState → (t n : ℕ) → Option GraphThread → Option FlowState → List Visit
path_by graph s t n o p = elim o [
  | None ↦ []
  | Some graph_thread ↦ elim p [
    | None ↦ []
    | Some next ↦ record { graph_thread = graph_thread; before = s } ∷ solo_path graph next t n
  ]
]

visited_by : (graph : Graph) (s : FlowState) (t n : ℕ) (o : Option GraphThread) (p : Option FlowState) → slice_get s.graph_threads t ≡ o →
    ((next : FlowState) (i : ℕ) (v : Visit) → slice_get (solo_path graph next t n) i ≡ Some v → IsVisited t n i v) →
    (i : ℕ) (v : Visit) → slice_get (path_by graph s t n o p) i ≡ Some v → IsVisited t (suc n) i v
visited_by graph s t n None p found more i v h = cc
visited_by graph s t n (Some graph_thread) None found more i v h = cc
visited_by graph s t n (Some graph_thread) (Some next) found more zero v h =
    let is : (let made : Visit = record { graph_thread = graph_thread; before = s } in made ≡ v) = cc in
    subst (IsVisited t (suc n) 0) is (record { within = omega arith; found = found })
visited_by graph s t n (Some graph_thread) (Some next) found more (suc i) v h =
    let one = more next i v h in
    let within = one.within in
    record { within = omega (arith, within); found = one.found }

visited : (graph : Graph) (t n : ℕ) (s : FlowState) (i : ℕ) (v : Visit) → slice_get (solo_path graph s t n) i ≡ Some v → IsVisited t n i v
visited graph t zero s i v h = cc
visited graph t (suc n) s i v h = visited_by graph s t n (slice_get s.graph_threads t) (graph_step graph s t) refl (visited graph t n) i v h

-- the graph thread of a visit stands where as many of its own steps lead as come before the visit
stands_there : (x : f.Flat) (kept : FlowState) (t n i : ℕ) (v : Visit) → slice_get (solo_path (lowered x) kept t n) i ≡ Some v →
    node_after x kept t i ≡ Some v.graph_thread.at
stands_there x kept t n i v h =
    ap (λ (s : FlowState). option_map (λ (z : GraphThread). z.at) (slice_get s.graph_threads t)) (path_runs (lowered x) t n kept i v h).after
    ∙ ap (option_map (λ (z : GraphThread). z.at)) (visited (lowered x) t n kept i v h).found

same_number : {k n : ℕ} {o : Option ℕ} → o ≡ Some k → o ≡ Some n → k ≡ n
same_number h i = cc

pub inside_is_region : InsideIsRegion
inside_is_region x b o old schedule t w i by stays begins =
    let c = graph_config x w o old schedule i by in
    let n = (attempt_of old t).longest in
    record {
      begins = λ first h. begins first.graph_thread.at (stands_there x c.flow t n 0 first h);
      inside = λ p one next h k boundary.
          let low : suc p < n = (visited (lowered x) t n c.flow (suc p) next k).within in
          let below : p < n = omega (arith, low) in
          let from = same_number (stands_there x c.flow t n p one h) (is_number x c t p below) in
          let to = same_number (stands_there x c.flow t n (suc p) next k) (is_number x c t (suc p) low) in
          free x c t b stays p low (subst (λ (z : ℕ). IsBoundary (lowered x) b (number x c t p) z) to
          (subst (λ (z : ℕ). IsBoundary (lowered x) b z next.graph_thread.at) from boundary));
    }

pub writers_store : WritersStore
writers_store x o old schedule t k v number_of w i by l wr =
    let c = graph_config x w o old schedule i by in
    let one : Element = record { variable = v; element = number_of } in
    let th = there_at x c t 0 (omega (arith, l)) in
    let own = keeps x c t th.thread th.there in
    let st = made_there x c t k l in
    let s = stores_there x c t own.text own.its k l one wr in
    let at : NodeAt (lowered x) (number x c t k) st.node = ap (slice_get (lowered x).nodes) (number_is x c t k l) ∙ st.at in
    record {
      text = own.text;
      its = own.its;
      graph_thread = st.graph_thread;
      found = st.found;
      node = number x c t k;
      stands = is_number x c t k l;
      stores = cutting.stores st.node s.stores.variable s.stores.kind s.stores.next at s.stores.is;
      is = st.node;
      at = at;
      lies = s.lies;
    }
