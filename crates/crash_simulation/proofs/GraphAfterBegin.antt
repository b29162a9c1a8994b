-- A step of a thread that is begun, in the graph.
use Rattle.crash_simulation.proofs.Common.{◌≡◌, ℕ, List, ◌∙◌, ap, arith, subst, true, false, Some, None, [], ◌++◌, length, Bool, slice_set, slice_get}
use Rattle.crash_simulation.proofs.Common.{length-set, append-nil, same_Some, GraphThread, FlowState, seen_by, effect_of, IsChosen, NodeAt, Matches, lowered}
use Rattle.crash_simulation.proofs.Common.{Node, set_same, now, Config, attempt_of, steps_begun, IsGoing, ConfigStep, kept_steps, HasCome, flow_solo}
use Rattle.crash_simulation.proofs.Common.{FollowsEvent, flow_kept, flow_now, node_after, graph_follows, one_node, AbstractRun, kept_of, now_of, System}
use Rattle.crash_simulation.proofs.Common.{IsSystem, flat_of}
use Rattle.flow_graph.specs.Actions.{Effect}
use Rattle.flow_graph.proofs.Public.{moved}
use Rattle.flow_graph.specs.Actions as a
use Rattle.crash_simulation.proofs.StatesMatchSource.{resumed, as_source}

-- ---- Effects

-- one that takes no mutex
abbrev pub takes_none : Effect → Bool
takes_none (a.Takes mutex next) = false
takes_none e = true

-- what it leaves
abbrev pub after_effect : FlowState → (t : ℕ) → GraphThread → Effect → FlowState
after_effect s t graph_thread (a.Makes store next) = a.with_graph_thread (a.stored s store) t (moved graph_thread (a.Makes store next))
after_effect s t graph_thread (a.Takes mutex next) = a.with_graph_thread (a.with_holder s mutex (Some t)) t (moved graph_thread (a.Takes mutex next))
after_effect s t graph_thread (a.Gives mutex next) = a.with_graph_thread (a.with_holder s mutex None) t (moved graph_thread (a.Gives mutex next))
after_effect s t graph_thread e = a.with_graph_thread s t (moved graph_thread e)

module _ (s : FlowState) (t : ℕ) (graph_thread : GraphThread) where
  pub done_is : (effect : Effect) → takes_none effect ≡ true → graph_thread.ended ≡ false →
      a.done s t graph_thread effect ≡ Some (after_effect s t graph_thread effect)
  done_is effect h1 h2 = grind (arith)

  pub graph_threads_are : (effect : Effect) → (after_effect s t graph_thread effect).graph_threads ≡ slice_set s.graph_threads t (moved graph_thread effect)
  graph_threads_are effect = grind (arith)

  pub graph_thread_is : (effect : Effect) → slice_get s.graph_threads t ≡ Some graph_thread →
      slice_get (after_effect s t graph_thread effect).graph_threads t ≡ Some (moved graph_thread effect)
  graph_thread_is effect found = grind (arith, moved, set_same, graph_threads_are)

  pub graph_threads_count : (effect : Effect) → length (after_effect s t graph_thread effect).graph_threads ≡ length s.graph_threads
  graph_threads_count effect = ap (λ (ws : List GraphThread). length ws) (graph_threads_are effect) ∙ length-set s.graph_threads t (moved graph_thread effect)

-- ---- The state after the step

module _ (y : System) (s : IsSystem y) (b : AbstractRun y) where
  -- the states of the source and of the graph match
  pub matches_now : Matches (flat_of y) (now_of y b) (now b.config)
  matches_now = (as_source y s b).now_matches

  pub follows_on : (next : Config) (h : ConfigStep b.config next) → kept_steps h ≡ [] →
      FollowsEvent (flat_of y) (kept_of y b) (now_of y b) (flow_now (flat_of y) (kept_of y b) next) h
  follows_on next h none =
      let r = (resumed y s b).resumed in
      subst (λ (schedule : List ℕ). FollowsEvent (flat_of y) (kept_of y b) (now_of y b) (flow_now (flat_of y) (flow_kept (flat_of y) b.origin schedule) next) h)
      (ap (λ (k : List ℕ). b.schedule ++ k) none ∙ append-nil b.schedule)
      (graph_follows (flat_of y) b.origin b.config next b.schedule s.plan.formed r.invariant r.kept h)

  -- a thread's own steps alone leave its graph thread as it is now
  pub alone : (t : ℕ) → slice_get (now_of y b).graph_threads t ≡ slice_get (flow_solo (flat_of y) (kept_of y b) t (steps_begun b.config t)).graph_threads t
  alone t = (as_source y s b).alone t

  -- where the attempt goes on, it is at the node of its graph thread
  pub boundary_after_is : (t : ℕ) (graph_thread : GraphThread) → IsGoing b.config t → slice_get (now_of y b).graph_threads t ≡ Some graph_thread →
      node_after (flat_of y) (kept_of y b) t (attempt_of b.config t).done ≡ Some graph_thread.at
  boundary_after_is t graph_thread going found = grind (arith, alone)

  -- an attempt that goes on has come to no boundary, unless at an unlock
  pub not_come : (t : ℕ) {graph_thread : GraphThread} {node : Node} {effect : Effect} → IsGoing b.config t →
      slice_get (now_of y b).graph_threads t ≡ Some graph_thread → NodeAt (lowered (flat_of y)) graph_thread.at node →
      effect_of node.action (seen_by (now_of y b) graph_thread) ≡ Some effect → ((mutex next : ℕ) → effect ≡ a.Gives mutex next → ⊥) →
      (IsChosen y.plan.graph y.plan.boundaries graph_thread.at → (attempt_of b.config t).done ≡ 0) →
      HasCome (flat_of y) y.plan.boundaries (kept_of y b) b.config t → ⊥
  not_come t {graph_thread} {node} {effect} going found at does apart fresh come = grind (arith, one_node, same_Some, boundary_after_is)
