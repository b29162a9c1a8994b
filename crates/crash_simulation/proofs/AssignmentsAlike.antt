-- A logged assignment gives its local the same number in states that are the same to its thread.
use Rattle.crash_simulation.proofs.Common.{suc, ◌≡◌, ℕ, ℤ, List, [], ◌∷◌, sym, ◌∙◌, ap, arith, subst, Option, Some, refl, ◌<◌, length, slice_get, slice_set}
use Rattle.crash_simulation.proofs.Common.{same_Some, slice_get_within, zip_found, AllZip, Holds, Kind, Place, IsWellFormed, State, StateKeeps, IsSameTo}
use Rattle.crash_simulation.proofs.Common.{IsThreadOf, Seen, GraphThread, FlowState, seen_by, effect_of, NodeAt, Matches, Standing, threads_standings}
use Rattle.crash_simulation.proofs.Common.{lowered, Action, Eval, Node, Graph, Good, ActionLeads, set_same, step_lockstep, AbstractRun, kept_of, now_of}
use Rattle.crash_simulation.proofs.Common.{System, IsSystem, flat_of, steps_begun, solo, AssignsAlike, run_keeps, is_some, AllByRecursion, flow_solo, Plan}
use Rattle.crash_simulation.proofs.Common.{IsPlan, Thread, now}
use Rattle.std.proofs.lemmas.List.{get_or-set_same}
use Rattle.std.specs.Prelude.{slice_index_or, pos}
use Rattle.c_tree.specs.Exprs as e
use Rattle.c_tree.specs.Flats as f
use Rattle.c_tree.specs.Source as m
use Rattle.flow_graph.specs.Actions as a
use Rattle.c_ranges.specs.RunInvariants.{IsStatementLeft}
use Rattle.source_machine.proofs.Public.{solo as solo_law}
use Rattle.crash_simulation.proofs.NodeEffects.{IsAtNode, step_is}
use Rattle.crash_simulation.proofs.NodeEffects as nodes
use Rattle.crash_simulation.proofs.StatesMatchSource.{as_source, resumed, now_good}

-- ---- The number that an assignment gives

-- an assignment of a local
record Assigning (action : Action) (seen : Seen) : Type 0 where
  local : ℕ
  number : ℤ
  next : ℕ
  does : effect_of action seen ≡ Some (a.Sets local number next)

zip_length : {A B : Type 0} (R : A → B → Type 0) (xs : List A) (ys : List B) → AllZip R xs ys → length ys ≡ length xs
zip_length R [] [] h = refl
zip_length R [] (y ∷ ys) h = absurd h
zip_length R (x ∷ xs) [] h = absurd h
zip_length R (x ∷ xs) (y ∷ ys) h = ap suc (zip_length R xs ys h.1)

number_set : (ls : List ℤ) (local : ℕ) (one other : ℤ) → local < length ls → slice_set ls local one ≡ slice_set ls local other → one ≡ other
number_set ls local one other below same =
    sym (get_or-set_same ls local one (pos 0) below) ∙ ap (λ (ns : List ℤ). slice_index_or ns local (pos 0)) same
    ∙ get_or-set_same ls local other (pos 0) below

-- in matching states that are the same to the thread
module _ (x : f.Flat) (w : IsWellFormed x) (t : ℕ) (K L : FlowState) (k l : State) (mk : Matches x K k) (ml : Matches x L l) (good : Good x K)
    (keeps : StateKeeps x k) (same : IsSameTo x k l t) (threads : slice_get K.graph_threads t ≡ slice_get L.graph_threads t) (graph_thread : GraphThread)
    (found : slice_get K.graph_threads t ≡ Some graph_thread) (node : Node) (at : NodeAt (lowered x) graph_thread.at node) where
  module _ (place : Place) (local : ℕ) (kind : Kind) (value : e.Placed) (next : ℕ) (is : node.action ≡ Eval (e.ToLocal place local kind) value next) where
    abbrev number_by : FlowState → ℤ
    number_by s = number_of (effect_of (Eval (e.ToLocal place local kind) value next) (seen_by s graph_thread))
      where
        number_of : Option a.Effect → ℤ
        number_of (Some (a.Sets target number to)) = number
        number_of o = pos 0

    does : (s : FlowState) → effect_of node.action (seen_by s graph_thread) ≡ Some (a.Sets local (number_by s) next)
    does s = ap (λ (z : Action). effect_of z (seen_by s graph_thread)) is

    abbrev then_state : FlowState → FlowState
    then_state s = a.with_graph_thread s t (record graph_thread { at = next; locals = slice_set graph_thread.locals local (number_by s) })

    -- the local is there
    below : local < length graph_thread.locals
    below =
        let here : IsAtNode x K good.source t =
        record { formed = w; matches = good.matches; graph_thread = graph_thread; found = found; node = node; at = at } in
        let th = nodes.there here in
        let own = zip_found (λ (u : f.Thread) (own : m.Thread). IsThreadOf x u.locals own) x.threads good.source.threads t th.thread good.formed.threads
        th.there in
        let leads = subst (λ (z : Action). ActionLeads (threads_standings x.threads) z (record { left = th.thread.left; owes = is_some th.thread.pending })) is
        th.does in
        let left = subst (λ (ss : List f.Statement). AllByRecursion (IsStatementLeft x own.it.locals) ss) (ap (λ (z : Standing). z.left) leads.is)
        own.related.left in
        let inside = slice_get_within own.it.locals local kind left.0.1.0.0 in
        let count = zip_length Holds own.it.locals th.thread.locals own.related.locals in
        omega (arith, inside, count, ap (λ (ls : List ℤ). length ls) th.match.locals)

    numbers_alike : number_by K ≡ number_by L
    numbers_alike =
        let there : slice_get L.graph_threads t ≡ Some graph_thread = sym threads ∙ found in
        let first : IsAtNode x K k t = record { formed = w; matches = mk; graph_thread = graph_thread; found = found; node = node; at = at } in
        let second : IsAtNode x L l t = record { formed = w; matches = ml; graph_thread = graph_thread; found = there; node = node; at = at } in
        let both = step_lockstep x w t (record { flow = K; source = k; matches = mk }) (record { flow = L; source = l; matches = ml }) keeps same
        (then_state K) (then_state L) threads (step_is first (a.Sets local (number_by K) next) (does K))
        (step_is second (a.Sets local (number_by L) next) (does L)) in
        let one : (number : ℤ) → GraphThread = λ number. record graph_thread { at = next; locals = slice_set graph_thread.locals local number } in
        let moved : one (number_by K) ≡ one (number_by L) =
        same_Some _ _ (sym (set_same K.graph_threads t (one (number_by K)) graph_thread found) ∙ (both
        ∙ set_same L.graph_threads t (one (number_by L)) graph_thread there)) in
        number_set graph_thread.locals local (number_by K) (number_by L) below (ap (λ (z : GraphThread). z.locals) moved)

    pub effects_alike : effect_of node.action (seen_by K graph_thread) ≡ effect_of node.action (seen_by L graph_thread)
    effects_alike = does K ∙ (ap (λ (z : ℤ). Some (a.Sets local z next)) numbers_alike ∙ sym (does L))

-- ---- States of an abstract run

-- the same of a logged assignment of a plan
pub assigns_alike : (p : Plan) → IsPlan p → (t : Thread) (K L : FlowState) (k l : State) → Matches p.flat K k → Matches p.flat L l → Good p.flat K →
    StateKeeps p.flat k → IsSameTo p.flat k l t.number → slice_get K.graph_threads t.number ≡ slice_get L.graph_threads t.number → AssignsAlike p t L K
assigns_alike p plan t K L k l mk ml good keeps same threads graph_thread is found at logged =
    let assigns = logged.assigns in
    let one : assigns.is ≡ is = same_Some assigns.is is (sym assigns.at ∙ at) in
    effects_alike p.flat plan.formed t.number K L k l mk ml good keeps same threads graph_thread (threads ∙ found) is
    (subst (λ (g : Graph). NodeAt g graph_thread.at is) plan.lowered at) assigns.place logged.local assigns.kind assigns.assigned assigns.next
    (ap (λ (z : Node). z.action) (sym one) ∙ assigns.action)

-- backwards
pub alike_back : (p : Plan) (t : Thread) (K L : FlowState) → slice_get K.graph_threads t.number ≡ slice_get L.graph_threads t.number → AssignsAlike p t L K →
    AssignsAlike p t K L
alike_back p t K L threads alike graph_thread is found at logged = sym (alike graph_thread is (sym threads ∙ found) at logged)

module _ (y : System) (s : IsSystem y) (b : AbstractRun y) (t : Thread) where
  -- the state now, and the one to which the thread's own steps alone lead
  pub now_alone : AssignsAlike y.plan t (flow_solo (flat_of y) (kept_of y b) t.number (steps_begun b.config t.number)) (now_of y b)
  now_alone =
      let i = (resumed y s b).resumed.invariant in
      let source = as_source y s b in
      assigns_alike y.plan s.plan t (now_of y b) (flow_solo (flat_of y) (kept_of y b) t.number (steps_begun b.config t.number)) (now b.config)
      (solo b.config.kept t.number (steps_begun b.config t.number)) source.now_matches (source.solo_matches t.number (steps_begun b.config t.number))
      (now_good y s b) (run_keeps (flat_of y) b.config.kept b.config.uncommitted i.keeps)
      (solo_law (flat_of y) b.config.kept b.config.uncommitted t.number i.keeps i.runs i.hands).same (source.alone t.number)

-- by one state to which both are alike
pub alike_by : (p : Plan) (t : Thread) (K L M : FlowState) → slice_get M.graph_threads t.number ≡ slice_get K.graph_threads t.number →
    AssignsAlike p t M K → AssignsAlike p t M L → AssignsAlike p t K L
alike_by p t K L M threads one other graph_thread is found at logged =
    other graph_thread is (threads ∙ found) at logged ∙ sym (one graph_thread is (threads ∙ found) at logged)

-- where the thread has begun as many steps since the same kept state
pub begun_alike : (y : System) (s : IsSystem y) (b next : AbstractRun y) (t : Thread) → kept_of y next ≡ kept_of y b →
    steps_begun next.config t.number ≡ steps_begun b.config t.number → AssignsAlike y.plan t (now_of y b) (now_of y next)
begun_alike y s b next t kept begun =
    alike_by y.plan t (now_of y b) (now_of y next) (flow_solo (flat_of y) (kept_of y b) t.number (steps_begun b.config t.number))
    (sym ((as_source y s b).alone t.number)) (now_alone y s b t)
    (subst (λ (M : FlowState). AssignsAlike y.plan t M (now_of y next)) (λ i. flow_solo (flat_of y) (kept i) t.number (begun i)) (now_alone y s next t))
