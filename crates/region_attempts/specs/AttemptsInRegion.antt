-- Attempts that stay within a region.
use Rattle.std.specs.Prelude.{◌≡◌, ◌⊎◌, ℕ, ◌<◌, List, slice_get, Some}
use Rattle.ido_base.specs.declared.place.Place.{Place}
use Rattle.ido_ints.specs.declared.kinds.Kind.{Kind}
use Rattle.c_tree.specs.Exprs as e
use Rattle.c_tree.specs.Flats as f
use Rattle.flow_graph.specs.Lowering.{lowered}
use Rattle.flow_graph.specs.Nodes.{Eval, Graph, Node}
use Rattle.flow_graph.specs.Liveness.{NodeAt}
use Rattle.flow_graph.specs.Actions.{FlowState}
use Rattle.flow_graph.specs.IdempotentCuts.{Boundaries, IsEdge, IsUnlock, HasBefore, BeginsRegion}
use Rattle.recovery_semantics.specs.Attempts.{PassesMutex, solo}
use Rattle.recovery_semantics.specs.Configs.{Config, attempt_of}
use Rattle.recovery_semantics.specs.Events.{IsGoing, ConfigStep, steps_locally, stores, synchronises, persists, commits, crashes}
use Rattle.recovery_semantics.specs.Executions as lives
use Rattle.recovery_semantics.specs.Executions.{Execution, then}
use Rattle.region_attempts.specs.Origins.{Origin}
use Rattle.region_attempts.specs.GraphStates.{flow_kept, node_of, node_after}

-- an assignment of a local
pub record AssignsLocal (g : Graph) (node : ℕ) : Type 0 where
  pub is : Node
  pub at : NodeAt g node is
  pub place : Place
  pub local : ℕ
  pub kind : Kind
  pub value : e.Placed
  pub next : ℕ
  pub action : is.action ≡ Eval (e.ToLocal place local kind) value next

-- where a thread goes on once its steps are kept: where a region begins, or after an unlock, which has its boundary before it; and where an execution begins
-- also after an assignment that has one before it
pub data Resumes (g : Graph) (b : Boundaries) (node : ℕ) : Type 0 where
  begins : BeginsRegion g b node → Resumes g b node
  past_unlock : (from : ℕ) → IsUnlock g from → IsEdge g from node → Resumes g b node
  past_assignment : (from : ℕ) → HasBefore b from → AssignsLocal g from → IsEdge g from node → Resumes g b node

-- what an attempt says of the boundaries on its way
pub record StaysInside (x : f.Flat) (b : Boundaries) (kept : FlowState) (m : Config) (thread : ℕ) : Type 0 where
  -- where the thread has a mutex in what is kept, it can be resumed there
  pub resumes : (mutex node : ℕ) → slice_get m.kept.holders mutex ≡ Some (Some thread) → node_of kept thread ≡ Some node → Resumes (lowered x) b node
  -- the longest attempt has gone on from no node after the first before which a boundary stands
  pub inside : (steps node : ℕ) → 0 < steps → steps < (attempt_of m thread).longest → node_after x kept thread steps ≡ Some node → ¬ (HasBefore b node)

-- the present attempt has come to a node before which a boundary stands
pub record HasCome (x : f.Flat) (b : Boundaries) (kept : FlowState) (m : Config) (thread : ℕ) : Type 0 where
  pub node : ℕ
  pub steps : 0 < (attempt_of m thread).done
  pub at : node_after x kept thread (attempt_of m thread).done ≡ Some node
  pub stands : HasBefore b node

-- the present attempt has come to a node before which a boundary stands, or the thread's next step passes a mutex
abbrev pub IsBeforeBoundary : f.Flat → Boundaries → FlowState → Config → (thread : ℕ) → Type 0
IsBeforeBoundary x b kept m thread = HasCome x b kept m thread ⊎
    ((mutex : ℕ) × PassesMutex (solo m.kept thread (attempt_of m thread).done) thread mutex)

-- an attempt that hasn't passed a mutex is kept only where it has come to a boundary, or has done nothing
abbrev pub SettlesThere : f.Flat → Boundaries → FlowState → Config → (thread : ℕ) → Type 0
SettlesThere x b kept m thread = IsGoing m thread → ((attempt_of m thread).done ≡ 0) ⊎ HasCome x b kept m thread

-- what happens takes no attempt past a boundary, and keeps steps only at one
abbrev pub RespectsBoundaries : (x : f.Flat) (b : Boundaries) (kept : FlowState) {m next : Config} → ConfigStep m next → Type 0
RespectsBoundaries x b kept {m} (steps_locally thread attempts h) = ¬ (HasCome x b kept m thread)
RespectsBoundaries x b kept {m} (stores thread memory attempts h) = ¬ (HasCome x b kept m thread)
RespectsBoundaries x b kept {m} (synchronises thread h) = Unit {0}
RespectsBoundaries x b kept {m} (persists memory h) = Unit {0}
RespectsBoundaries x b kept {m} (commits thread attempts h) = SettlesThere x b kept m thread
RespectsBoundaries x b kept {m} (crashes attempts h) = Unit {0}

-- a thread that has a mutex where the execution begins can be resumed there
abbrev pub BeginsAtBoundaries : (x : f.Flat) (b : Boundaries) → Origin x → Type 0
BeginsAtBoundaries x b o = (thread mutex node : ℕ) → slice_get o.source.holders mutex ≡ Some (Some thread) → node_of o.flow thread ≡ Some node →
    Resumes (lowered x) b node

-- the execution begins at boundaries, and all that has happened takes no attempt past one, and keeps steps only at one
abbrev pub RespectsAll : (x : f.Flat) (b : Boundaries) (o : Origin x) {m : Config} {schedule : List ℕ} → Execution x o.source m schedule → Type 0
RespectsAll x b o (lives.begins memory stable) = BeginsAtBoundaries x b o
RespectsAll x b o (then {schedule = schedule} before h) = RespectsAll x b o before × RespectsBoundaries x b (flow_kept x o schedule) h
