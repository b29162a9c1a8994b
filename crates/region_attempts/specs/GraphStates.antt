-- Where threads stand in the flow graph: in what is kept, now, and along their own steps from what is kept.
use Rattle.std.specs.Prelude.{◌≡◌, ℕ, List, replicate, slice_get, Option, Some}
use Rattle.std.specs.Option.{option_map}
use Rattle.c_tree.specs.Flats as f
use Rattle.flow_graph.specs.Lowering.{lowered}
use Rattle.flow_graph.specs.Actions.{GraphThread, FlowState, graph_step, graph_after}
use Rattle.recovery_semantics.specs.Configs.{Config}
use Rattle.recovery_semantics.specs.Events.{ConfigStep, steps_locally, stores, synchronises, persists, commits, crashes}
use Rattle.region_attempts.specs.Origins.{Origin}

-- the graph's state after the kept schedule, from where the execution begins
abbrev pub flow_kept : (x : f.Flat) → Origin x → (schedule : List ℕ) → FlowState
flow_kept x o schedule = graph_after (lowered x) o.flow schedule

-- the graph's state after all begun steps
abbrev pub flow_now : f.Flat → (kept : FlowState) → Config → FlowState
flow_now x kept m = graph_after (lowered x) kept m.uncommitted

-- the graph's state after so many steps of the thread and of no other
abbrev pub flow_solo : f.Flat → (kept : FlowState) → (thread steps : ℕ) → FlowState
flow_solo x kept thread steps = graph_after (lowered x) kept (replicate steps thread)

-- the node at which the thread stands
abbrev pub node_of : FlowState → (thread : ℕ) → Option ℕ
node_of s thread = option_map (λ (w : GraphThread). w.at) (slice_get s.graph_threads thread)

-- the node at which the thread stands after so many of its own steps
abbrev pub node_after : f.Flat → (kept : FlowState) → (thread steps : ℕ) → Option ℕ
node_after x kept thread steps = node_of (flow_solo x kept thread steps) thread

-- what happens is a step of the graph too, or leaves its state, and a crash leaves what was kept
abbrev pub FollowsEvent : (x : f.Flat) (kept before after : FlowState) {m next : Config} → ConfigStep m next → Type 0
FollowsEvent x kept before after (steps_locally thread attempts h) = graph_step (lowered x) before thread ≡ Some after
FollowsEvent x kept before after (stores thread memory attempts h) = graph_step (lowered x) before thread ≡ Some after
FollowsEvent x kept before after (synchronises thread h) = graph_step (lowered x) before thread ≡ Some after
FollowsEvent x kept before after (persists memory h) = after ≡ before
FollowsEvent x kept before after (commits thread attempts h) = after ≡ before
FollowsEvent x kept before after (crashes attempts h) = after ≡ kept
