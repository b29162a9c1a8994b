-- Where executions of a flat form begin.
use Rattle.std.specs.Prelude.{◌≡◌, ℕ, ◌<◌, length, slice_get, Some}
use Rattle.c_tree.specs.Flats as f
use Rattle.c_tree.specs.Source.{Pending, State}
use Rattle.c_ranges.specs.RunInvariants.{IsStateOf}
use Rattle.source_machine.specs.Discipline.{StateKeeps}
use Rattle.flow_graph.specs.Nodes.{Node}
use Rattle.flow_graph.specs.Lowering.{lowered}
use Rattle.flow_graph.specs.Liveness.{NodeAt}
use Rattle.flow_graph.specs.Actions.{GraphThread, FlowState}
use Rattle.flow_graph.specs.Lockstep.{IsOwnNode, Matches}
use Rattle.flow_graph.specs.Paths.{LiesInWritten, Naming, naming_of, stored_element}
use Rattle.region_attempts.specs.KnownReferences.{KnownAreUnnull}

-- the store is to an element of the location that the node writes, by what keys name
pub record IsPendingAt (x : f.Flat) (names : Naming) (at : ℕ) (store : Pending) : Type 0 where
  pub node : Node
  pub is : NodeAt (lowered x) at node
  pub lies : LiesInWritten names node.writes (stored_element store)

-- a state of the graph and the source's that it matches, whether a run reaches them or not: in it each thread keeps the lock discipline, mutexes are held by
-- threads, every number is of its kind, each thread stands at a node of its own, and one whose store is pending at a node that makes such a store; and no
-- reference is null that is known not to be where a thread stands, which isn't seen by what it has left: calls of one function leave the same at many nodes
pub record Origin (x : f.Flat) : Type 0 where
  pub flow : FlowState
  pub source : State
  pub matches : Matches x flow source
  pub keeps : StateKeeps x source
  pub formed : IsStateOf x source
  pub holders : (mutex thread : ℕ) → slice_get source.holders mutex ≡ Some (Some thread) → thread < length source.threads
  pub own : (thread : ℕ) (graph_thread : GraphThread) → slice_get flow.graph_threads thread ≡ Some graph_thread → IsOwnNode x thread graph_thread.at
  pub pending : (thread : ℕ) (text : f.Thread) (graph_thread : GraphThread) (store : Pending) → slice_get flow.graph_threads thread ≡ Some graph_thread →
      slice_get x.threads thread ≡ Some text → graph_thread.pending ≡ Some store →
      IsPendingAt x (naming_of x text graph_thread.locals) graph_thread.at store
  pub known : KnownAreUnnull x flow
