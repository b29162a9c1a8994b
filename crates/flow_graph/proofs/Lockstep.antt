-- A source and the graph of its flat form step in lockstep.
use Rattle.std.proofs.Common.{◌≡◌, ◌≢◌, ◌<◌, ◌≤◌, ◌⊎◌, inl, inr, ⊎_elim, refl, ℕ, zero, suc, ◌+◌, List, [], ◌∷◌, ◌++◌, length}
use Rattle.c_tree.specs.Values.{lock_number}
use Rattle.std.proofs.Common.{map, replicate, sym, ◌∙◌, ap, ap₂, subst, arith, Option, Some, None, Bool, true, false, slice_set}
use Rattle.std.specs.Prelude.{slice_get, is_some, not, if◌then◌else◌, ℤ, pos}
use Rattle.std.proofs.lemmas.Bool.{cases_eq}
use Rattle.std.proofs.lemmas.Option.{slice_get_within, slice_get_past}
use Rattle.std.proofs.lemmas.List.{length-set, length-map}
use Rattle.ido_ints.specs.Operators.{is_zero}
use Rattle.ido_base.specs.declared.place.Place.{Place}
use Rattle.c_tree.specs.Exprs as e
use Rattle.c_tree.specs.Flats as f
use Rattle.c_tree.specs.Source as m
use Rattle.c_tree.specs.Source.{Pending, opened_all}
use Rattle.c_tree.specs.WellFormed.{IsWellFormed}
use Rattle.flow_graph.specs.declared.graph.Part.{Part}
use Rattle.flow_graph.specs.Nodes.{Action, Eval, Store, Test, Lock, Unlock, End, Node, Graph}
use Rattle.flow_graph.specs.Lowering.{lowered, parts, part, thread_count, threads_nodes}
use Rattle.flow_graph.specs.Actions as g
use Rattle.flow_graph.specs.Actions.{GraphThread, FlowState, graph_step, graph_after, graph_runs, graph_ended, graph_start}
use Rattle.flow_graph.specs.Lockstep.{Standing, free, threads_standings, GraphThreadMatches, Matches, StepsMatch, RunsMatch}
use Rattle.flow_graph.proofs.NodeContinuations.{At, ActionLeads, chooses, repeats, after_arms, after_eval, begins, node_at}

-- ---- Lists

pub set_same : {X : Type 0} (xs : List X) (i : ℕ) (y z : X) → slice_get xs i ≡ Some z → slice_get (slice_set xs i y) i ≡ Some y
set_same [] i y z h = cc
set_same (x ∷ xs) zero y z h = refl
set_same (x ∷ xs) (suc i) y z h = set_same xs i y z h

pub set_other : {X : Type 0} (xs : List X) (i k : ℕ) (y : X) → k ≢ i → slice_get (slice_set xs i y) k ≡ slice_get xs k
set_other [] i k y h = refl
set_other (x ∷ xs) zero zero y h = absurd (h refl)
set_other (x ∷ xs) zero (suc k) y h = refl
set_other (x ∷ xs) (suc i) zero y h = refl
set_other (x ∷ xs) (suc i) (suc k) y h = set_other xs i k y (λ e. h (ap suc e))

pub found_in : {X : Type 0} (xs : List X) (k : ℕ) → k < length xs → (x : X) × (slice_get xs k ≡ Some x)
found_in [] k h = absurd (omega arith)
found_in (x ∷ xs) zero h = (x, refl)
found_in (x ∷ xs) (suc k) h = found_in xs k (omega arith)

pub get_cases : {X : Type 0} (xs : List X) (k : ℕ) → (slice_get xs k ≡ None) ⊎ ((x : X) × (slice_get xs k ≡ Some x))
get_cases [] k = inl refl
get_cases (x ∷ xs) zero = inr (x, refl)
get_cases (x ∷ xs) (suc k) = get_cases xs k

pub no_more : {X : Type 0} (xs : List X) (k : ℕ) → slice_get xs k ≡ None → length xs ≤ k
no_more [] k h = omega arith
no_more (x ∷ xs) zero h = cc
no_more (x ∷ xs) (suc k) h = omega (arith, no_more xs k h)

-- ---- One thread changes

abbrev state_of : List (List ℤ) → List (Option ℕ) → List m.Thread → m.State
state_of variables holders threads = record { variables = variables; holders = holders; threads = threads }

abbrev flow_of : List (List ℤ) → List (Option ℕ) → List GraphThread → FlowState
flow_of variables holders graph_threads = record { variables = variables; holders = holders; graph_threads = graph_threads }

-- in states that match, a graph thread and its thread
module _ (x : f.Flat) {flow : FlowState} {source : m.State} (match : Matches x flow source) (t : ℕ) (before : GraphThread) (old : m.Thread)
    (here : slice_get flow.graph_threads t ≡ Some before) (there : slice_get source.threads t ≡ Some old) where
  open match use {count, each}
  open flow use {graph_threads, variables as vs, holders as hs}
  open source use {threads}

  one_changes : (vs : List (List ℤ)) (hs : List (Option ℕ)) (graph_thread : GraphThread) (thread : m.Thread) → GraphThreadMatches x graph_thread thread →
      Matches x (flow_of vs hs (slice_set graph_threads t graph_thread)) (state_of vs hs (slice_set threads t thread))
  one_changes vs hs graph_thread thread w = record {
    variables = refl;
    holders = refl;
    count = length-set graph_threads t graph_thread ∙ count ∙ sym (length-set threads t thread);
    each = λ k one other h i. ⊎_elim
        (λ same.
        let h' : slice_get (slice_set graph_threads t graph_thread) t ≡ Some one = ap (slice_get (slice_set graph_threads t graph_thread)) (sym same) ∙ h in
        let i' : slice_get (slice_set threads t thread) t ≡ Some other = ap (slice_get (slice_set threads t thread)) (sym same) ∙ i in
        let is_graph_thread : graph_thread ≡ one = let set = set_same graph_threads t graph_thread before here in cc in
        let is_thread : thread ≡ other = let set = set_same threads t thread old there in cc in
        let P : GraphThread → Type 0 = λ z. GraphThreadMatches x z other in
        let Q : m.Thread → Type 0 = λ z. GraphThreadMatches x graph_thread z in
        subst P is_graph_thread (subst Q is_thread w))
        (λ differs. each k one other (sym (set_other graph_threads t k graph_thread differs) ∙ h) (sym (set_other threads t k thread differs) ∙ i))
        (cases_eq k t);
  }

  abbrev source_now : m.State
  source_now = state_of vs hs threads

  abbrev all : List Standing
  all = threads_standings x.threads

  abbrev graph_thread_at : (at : ℕ) → List ℤ → Option Pending → Bool → GraphThread
  graph_thread_at at ls p ended = record { at = at; locals = ls; pending = p; ended = ended }

  abbrev thread_with : List f.Statement → List ℤ → Option Pending → Bool → m.Thread
  thread_with left ls p ended = record { left = left; locals = ls; pending = p; ended = ended }

  abbrev ParseLockstep : Option FlowState → Option m.State → Type 0
  ParseLockstep a b = StepsMatch x a b

  -- the graph's step by an action, in lockstep with that of a thread with these statements left
  abbrev ActionLockstep : Action → (at : ℕ) → List ℤ → Option Pending → Bool → List f.Statement → Type 0
  ActionLockstep a at ls p ended left =
      ParseLockstep (g.effect_step flow t (graph_thread_at at ls p ended) (g.effect_of a (g.seen_by flow (graph_thread_at at ls p ended))))
      (m.thread_step source_now t (thread_with left ls p ended))

  moved : (at : ℕ) (left : List f.Statement) (ls : List ℤ) (p : Option Pending) (ended : Bool) → At all at (record { left = left; owes = is_some p }) →
      GraphThreadMatches x (graph_thread_at at ls p ended) (thread_with left ls p ended)
  moved at left ls p ended a = record { locals = refl; pending = refl; ended = refl; stands = a }

  evals : (target : e.Lvalue) (value : e.Placed) (next at : ℕ) (ls : List ℤ) (ended : Bool) (place : Place) (rest : List f.Statement) →
      At all next (after_eval target rest) → ActionLockstep (Eval target value next) at ls None ended (f.Assign place target value ∷ rest)
  evals (e.ToLocal name local kind) value next at ls ended place rest a = one_changes vs hs _ _ (moved next rest _ None ended a)
  evals (e.ToVariable name variable kind) value next at ls ended place rest a = one_changes vs hs _ _ (moved next rest ls (Some _) ended a)
  evals (e.ToElement name variable kind index) value next at ls ended place rest a = one_changes vs hs _ _ (moved next rest ls (Some _) ended a)

  after_test : (zero_value : Bool) (holds fails : ℕ) (place : Place) (body : f.Statements) (arms : f.Arms) (otherwise : f.Statements)
      (rest : List f.Statement) →
      At all holds (free (opened_all body ++ rest)) → At all fails (free (after_arms place arms otherwise ++ rest)) →
      At all (if zero_value then fails else holds)
      (free (m.tested (not zero_value) (opened_all body) (f.If place arms otherwise ∷ []) (opened_all otherwise) arms ++ rest))
  after_test true holds fails place body f.no_arm otherwise rest a b = b
  after_test true holds fails place body (f.arm_and condition inner arms) otherwise rest a b = b
  after_test false holds fails place body f.no_arm otherwise rest a b = a
  after_test false holds fails place body (f.arm_and condition inner arms) otherwise rest a b = a

  after_loop : (zero_value : Bool) (holds fails : ℕ) (again rest : List f.Statement) → At all holds (free again) → At all fails (free rest) →
      At all (if zero_value then fails else holds) (free (if not zero_value then again else rest))
  after_loop true holds fails again rest a b = b
  after_loop false holds fails again rest a b = a

  takes : (o : Option (Option ℕ)) (number next at : ℕ) (ls : List ℤ) (ended : Bool) (rest : List f.Statement) → At all next (free rest) →
      ParseLockstep
      (elim o [ Some None ↦ Some (g.with_graph_thread (g.with_holder flow number (Some t)) t (graph_thread_at next ls None ended)) | _ ↦ None ])
      (elim o [ Some None ↦ Some (m.with_thread (m.with_holder source_now number (Some t)) t (thread_with rest ls None ended)) | _ ↦ None ])
  takes None number next at ls ended rest a = tt
  takes (Some (Some other)) number next at ls ended rest a = tt
  takes (Some None) number next at ls ended rest a = one_changes vs (slice_set hs number (Some t)) _ _ (moved next rest ls None ended a)

  ends : (at : ℕ) (ls : List ℤ) (ended : Bool) → At all at (free []) → ActionLockstep End at ls None ended []
  ends at ls true a = tt
  ends at ls false a = one_changes vs hs _ _ (moved at [] ls None true a)

  not_owing : (p : Pending) (left rest : List f.Statement) → (let s : Standing = record { left = left; owes = true } in s ≡ free rest) → ⊥
  not_owing p left rest h = let b : true ≡ false = ap (λ (s : Standing). s.owes) h in cc

  step_by : (a : Action) (at : ℕ) (ls : List ℤ) (p : Option Pending) (ended : Bool) (left : List f.Statement) →
      At all at (record { left = left; owes = is_some p }) → ActionLeads all a (record { left = left; owes = is_some p }) →
      ActionLockstep a at ls p ended left
  step_by (Eval target value next) at ls (Some p) ended left s d = absurd (not_owing p left _ d.is)
  step_by (Eval target value next) at ls None ended left s d =
      let P : List f.Statement → Type 0 = λ l. ActionLockstep (Eval target value next) at ls None ended l in
      subst P (sym (ap (λ (z : Standing). z.left) d.is)) (evals target value next at ls ended d.place d.rest d.follows)
  step_by (Store variable kind next) at ls (Some p) ended left s d =
      let P : List f.Statement → Type 0 = λ l. ActionLockstep (Store variable kind next) at ls (Some p) ended l in
      subst P (sym (ap (λ (z : Standing). z.left) d.is)) (one_changes _ hs _ _ (moved next d.rest ls None ended d.follows))
  step_by (Store variable kind next) at ls None ended left s d = let b : false ≡ true = ap (λ (z : Standing). z.owes) d.is in cc
  step_by (Test condition holds fails) at ls (Some p) ended left s d = elim d [
    | chooses place body arms otherwise rest is h k ↦ absurd (not_owing p left _ is)
    | repeats place body rest is h k ↦ absurd (not_owing p left _ is)
  ]
  step_by (Test condition holds fails) at ls None ended left s d =
      let P : List f.Statement → Type 0 = λ l. ActionLockstep (Test condition holds fails) at ls None ended l in
      let z : Bool = is_zero (g.number_in (g.seen_by flow (graph_thread_at at ls None ended)) condition.expr) in
      elim d [
        | chooses place body arms otherwise rest is h k ↦
            subst P (sym (ap (λ (z : Standing). z.left) is))
            (one_changes vs hs _ _ (moved _ _ ls None ended (after_test z holds fails place body arms otherwise rest h k)))
        | repeats place body rest is h k ↦
            subst P (sym (ap (λ (z : Standing). z.left) is))
            (one_changes vs hs _ _ (moved _ _ ls None ended (after_loop z holds fails (opened_all body ++ (f.While place condition body ∷ rest)) rest h k)))
      ]
  step_by (Lock lock next) at ls (Some p) ended left s d = absurd (not_owing p left _ d.is)
  step_by (Lock lock next) at ls None ended left s d =
      let P : List f.Statement → Type 0 = λ l. ActionLockstep (Lock lock next) at ls None ended l in
      let number = lock_number ls lock in
      subst P (sym (ap (λ (z : Standing). z.left) d.is)) (takes (slice_get hs number) number next at ls ended d.rest d.follows)
  step_by (Unlock lock next) at ls (Some p) ended left s d = absurd (not_owing p left _ d.is)
  step_by (Unlock lock next) at ls None ended left s d =
      let P : List f.Statement → Type 0 = λ l. ActionLockstep (Unlock lock next) at ls None ended l in
      subst P (sym (ap (λ (z : Standing). z.left) d.is))
      (one_changes vs (slice_set hs (lock_number ls lock) None) _ _ (moved next d.rest ls None ended d.follows))
  step_by End at ls (Some p) ended left s d = absurd (not_owing p left _ d)
  step_by End at ls None ended left s d =
      let none : left ≡ [] = ap (λ (z : Standing). z.left) d in
      let P : List f.Statement → Type 0 = λ l. ActionLockstep End at ls None ended l in
      let Q : List f.Statement → Type 0 = λ l. At all at (free l) in
      subst P (sym none) (ends at ls ended (subst Q none s))

-- ---- A step

abbrev source_by : m.State → ℕ → Option m.Thread → Option m.State
source_by s t o = elim o [
  | Some thread ↦ m.thread_step s t thread
  | None ↦ None
]

source_is : (s : m.State) (t : ℕ) (o : Option m.Thread) → slice_get s.threads t ≡ o → m.source_step s t ≡ source_by s t o
unfolding m.source_step
source_is s t o h = ap (source_by s t) h

pub graph_is : (graph : Graph) (s : FlowState) (t : ℕ) (o : Option GraphThread) → slice_get s.graph_threads t ≡ o →
    graph_step graph s t ≡ g.graph_thread_step graph s t o
unfolding graph_step
graph_is graph s t o h = ap (g.graph_thread_step graph s t) h

pub lowered_nodes : (x : f.Flat) → (lowered x).nodes ≡ threads_nodes x x.threads 0
unfolding lowered
lowered_nodes x = refl

pub lowered_threads : (x : f.Flat) → (lowered x).threads ≡ parts x.threads 0
unfolding lowered
lowered_threads x = refl

pub steps_lockstep : (x : f.Flat) (flow : FlowState) (source : m.State) (thread : ℕ) → IsWellFormed x → Matches x flow source →
    StepsMatch x (graph_step (lowered x) flow thread) (m.source_step source thread)
steps_lockstep x flow source t w h =
    let P : Option FlowState → Type 0 = λ o. StepsMatch x o (m.source_step source t) in
    elim (get_cases flow.graph_threads t) [
      | inl none ↦
          let missing = slice_get_past source.threads t (omega (arith, h.count, no_more flow.graph_threads t none)) in
          let Q : Option m.State → Type 0 = λ o. StepsMatch x None o in
          subst P (sym (graph_is (lowered x) flow t None none)) (subst Q (sym (source_is source t None missing)) tt)
      | inr found ↦
          let graph_thread = found.0 in
          let here = found.1 in
          let there = found_in source.threads t (omega (arith, h.count, slice_get_within flow.graph_threads t graph_thread here)) in
          let thread = there.0 in
          let match = h.each t graph_thread thread here there.1 in
          let node = node_at x graph_thread.at (record { left = thread.left; owes = is_some thread.pending }) w.threads match.stands in
          let as_source : m.State = state_of flow.variables flow.holders source.threads in
          let as_thread : m.Thread = record { left = thread.left; locals = graph_thread.locals; pending = graph_thread.pending; ended = graph_thread.ended } in
          let same_state : source ≡ as_source = λ i. state_of (sym h.variables i) (sym h.holders i) source.threads in
          let same_thread : thread ≡ as_thread = λ i. record {
            left = thread.left;
            locals = sym match.locals i;
            pending = sym match.pending i;
            ended = sym match.ended i;
          } in
          let stepping : m.source_step source t ≡ m.thread_step as_source t as_thread =
          source_is source t (Some thread) there.1 ∙ (λ i. m.thread_step (same_state i) t (same_thread i)) in
          let at_node : graph_step (lowered x) flow t ≡ g.node_step flow t graph_thread (Some node.0) =
          graph_is (lowered x) flow t (Some graph_thread) here
          ∙ ap (g.node_step flow t graph_thread) (ap (λ (ns : List Node). slice_get ns graph_thread.at) (lowered_nodes x) ∙ node.1) in
          let Q : Option m.State → Type 0 = λ o. StepsMatch x (g.node_step flow t graph_thread (Some node.0)) o in
          let D : Option Pending → Type 0 = λ p. ActionLeads (threads_standings x.threads) node.0.action (record { left = thread.left; owes = is_some p }) in
          let A : Option Pending → Type 0 = λ p. At (threads_standings x.threads) graph_thread.at (record { left = thread.left; owes = is_some p }) in
          subst P (sym at_node) (subst Q (sym stepping)
          (step_by x h t graph_thread thread here there.1 node.0.action graph_thread.at graph_thread.locals graph_thread.pending graph_thread.ended thread.left
          (subst A (sym match.pending) match.stands) (subst D (sym match.pending) node.2)))
    ]

-- ---- The start

started : (x : f.Flat) (ts : List f.Thread) (first k : ℕ) (graph_thread : GraphThread) (thread : m.Thread) →
    slice_get (map g.graph_thread_start (parts ts first)) k ≡ Some graph_thread → slice_get (map m.thread_start ts) k ≡ Some thread →
    (p : Part) × (source : f.Thread) × (slice_get (parts ts first) k ≡ Some p) × (slice_get ts k ≡ Some source) × (graph_thread ≡ g.graph_thread_start p) ×
    (thread ≡ m.thread_start source) × (p.locals ≡ length source.locals)
started x [] first k graph_thread thread h i = cc
started x (t ∷ ts) first zero graph_thread thread h i = (part t first, t, refl, refl, cc, cc, refl)
started x (t ∷ ts) first (suc k) graph_thread thread h i = started x ts (first + thread_count t) k graph_thread thread h i

length-parts : (ts : List f.Thread) (first : ℕ) → length (parts ts first) ≡ length ts
length-parts [] first = refl
length-parts (t ∷ ts) first = ap suc (length-parts ts (first + thread_count t))

pub begins_lockstep : (x : f.Flat) → IsWellFormed x → Matches x (graph_start (lowered x) x) (m.start x)
begins_lockstep x w = record {
  variables = refl;
  holders = refl;
  count = length-map (lowered x).threads g.graph_thread_start ∙ ap length (lowered_threads x) ∙ length-parts x.threads 0
      ∙ sym (length-map x.threads m.thread_start);
  each = λ k graph_thread thread h i.
      let s = started x x.threads 0 k graph_thread thread
      (ap (λ (ps : List Part). slice_get (map g.graph_thread_start ps) k) (sym (lowered_threads x)) ∙ h) i in
      let begun : GraphThreadMatches x (g.graph_thread_start s.0) (m.thread_start s.1) = record {
        locals = ap (λ (n : ℕ). replicate n (pos 0)) s.6;
        pending = refl;
        ended = refl;
        stands = begins x k s.0 s.1 w.threads s.2 s.3;
      } in
      let P : GraphThread → Type 0 = λ z. GraphThreadMatches x z thread in
      let Q : m.Thread → Type 0 = λ z. GraphThreadMatches x (g.graph_thread_start s.0) z in
      subst P (sym s.4) (subst Q (sym s.5) begun);
}

-- ---- Runs

abbrev flow_after : FlowState → List ℕ → Graph → Option FlowState → FlowState
flow_after s ts graph o = elim o [
  | None ↦ s
  | Some next ↦ graph_after graph next ts
]

abbrev flow_runs : List ℕ → Graph → Option FlowState → Bool
flow_runs ts graph o = elim o [
  | None ↦ false
  | Some next ↦ graph_runs graph next ts
]

abbrev flow_ended : FlowState → List ℕ → ℕ → Graph → Option FlowState → ℕ
flow_ended s ts k graph o = elim o [
  | None ↦ 0
  | Some next ↦ g.ends_section s next k + graph_ended graph next ts k
]

abbrev source_after : m.State → List ℕ → Option m.State → m.State
source_after s ts o = elim o [
  | None ↦ s
  | Some next ↦ m.after_from next ts
]

abbrev source_runs : List ℕ → Option m.State → Bool
source_runs ts o = elim o [
  | None ↦ false
  | Some next ↦ m.runs_from next ts
]

abbrev source_ended : m.State → List ℕ → ℕ → Option m.State → ℕ
source_ended s ts k o = elim o [
  | None ↦ 0
  | Some next ↦ m.ends_section s next k + m.ended_from next ts k
]

pub record Together (x : f.Flat) (flow : FlowState) (source : m.State) (schedule : List ℕ) : Type 0 where
  pub states : Matches x (graph_after (lowered x) flow schedule) (m.after_from source schedule)
  pub whole : graph_runs (lowered x) flow schedule ≡ m.runs_from source schedule
  pub sections : (thread : ℕ) → graph_ended (lowered x) flow schedule thread ≡ m.ended_from source schedule thread

same_sections : (x : f.Flat) (flow next : FlowState) (source after : m.State) (k : ℕ) → Matches x flow source → Matches x next after →
    g.ends_section flow next k ≡ m.ends_section source after k
same_sections x flow next source after k h i = λ j. m.ends_section (state_of [] (h.holders j) []) (state_of [] (i.holders j) []) k

module _ (x : f.Flat) (ts : List ℕ) (more : (flow : FlowState) (source : m.State) → Matches x flow source → Together x flow source ts)
    (flow : FlowState) (source : m.State) (h : Matches x flow source) where
  after_both : (o : Option FlowState) (p : Option m.State) → StepsMatch x o p →
      Matches x (flow_after flow ts (lowered x) o) (source_after source ts p) × (flow_runs ts (lowered x) o ≡ source_runs ts p)
      × ((k : ℕ) → flow_ended flow ts k (lowered x) o ≡ source_ended source ts k p)
  after_both None None s = (h, refl, λ k. refl)
  after_both None (Some after) s = absurd s
  after_both (Some next) None s = absurd s
  after_both (Some next) (Some after) s =
      let rest = more next after s in
      (rest.states, rest.whole, λ k. ap₂ ◌+◌ (same_sections x flow next source after k h s) (rest.sections k))

runs_together : (x : f.Flat) (schedule : List ℕ) → IsWellFormed x → (flow : FlowState) (source : m.State) → Matches x flow source →
    Together x flow source schedule
runs_together x [] w flow source h = record { states = h; whole = refl; sections = λ k. refl }
runs_together x (t ∷ ts) w flow source h =
    let both = after_both x ts (runs_together x ts w) flow source h (graph_step (lowered x) flow t) (m.source_step source t)
    (steps_lockstep x flow source t w h) in
    record { states = both.0; whole = both.1; sections = both.2 }

pub runs_lockstep : (x : f.Flat) (schedule : List ℕ) → IsWellFormed x → RunsMatch x schedule
runs_lockstep x schedule w =
    let all = runs_together x schedule w (graph_start (lowered x) x) (m.start x) (begins_lockstep x w) in
    record { states = all.states; whole = all.whole; sections = all.sections }
