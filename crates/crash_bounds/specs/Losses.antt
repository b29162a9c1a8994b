-- What a crash would undo: of each thread the steps that have begun and aren't kept.
use Rattle.std.specs.Prelude.{◌≡◌, ℕ, ◌+◌, ◌<◌, List, replicate, Some, true}
use Rattle.machine_events.specs.declared.event.Event.{Event}
use Rattle.c_tree.specs.Source.{State, runs_from}
use Rattle.source_machine.specs.StepExchanges.{steps_of}
use Rattle.machine_model.specs.Schedule.{harts_of, schedules}
use Rattle.flow_graph.specs.Lowering.{lowered}
use Rattle.flow_graph.specs.Actions.{FlowState}
use Rattle.flow_graph.specs.Lockstep.{Matches}
use Rattle.flow_graph.specs.IdempotentCuts.{IsUnlock, HasBefore}
use Rattle.recovery_semantics.specs.Attempts.{solo, IsInnerStep}
use Rattle.region_attempts.specs.GraphStates.{node_after}
use Rattle.crash_simulation.specs.Systems.{System, IsSystem}
use Rattle.compiler_correctness.specs.Translations.{Translation, steps, source}
use Rattle.compiler_correctness.specs.Laws.{translation_of}

-- the source after all kept steps
abbrev pub kept_state : Translation → List Event → State
kept_state c events = source c (schedules (steps c events))

-- how many steps of the thread a crash would undo
abbrev pub undone : Translation → List Event → (thread : ℕ) → ℕ
undone c events thread = steps_of thread (harts_of (steps c events).pending)

-- They are one stretch of its thread's way through the graph: from where the kept steps have left it, and with no boundary on the way but before an unlock
-- that is the last of them.
pub record UndoesOneStretch (c : Translation) (events : List Event) (thread : ℕ) : Type 0 where
  -- where threads stand in the graph after the kept steps
  pub flow : FlowState
  pub matches : Matches c.flat flow (kept_state c events)
  -- the thread makes them from there alone
  pub runs : runs_from (kept_state c events) (replicate (undone c events thread) thread) ≡ true
  -- all but the last take no mutex and give none back
  pub inner : (k : ℕ) → k + 1 < undone c events thread → IsInnerStep (solo (kept_state c events) thread k) thread
  -- a boundary stands before none of the nodes at which it makes them, the first aside, but before an unlock at which it makes the last
  pub inside : (k node : ℕ) → 0 < k → k < undone c events thread → node_after c.flat flow thread k ≡ Some node → HasBefore c.boundaries node →
      (k + 1 ≡ undone c events thread) × IsUnlock (lowered c.flat) node

-- ---- Law

-- after whatever events
abbrev pub CrashesUndoOneStretch : Type 0
CrashesUndoOneStretch = (y : System) → IsSystem y → (events : List Event) (thread : ℕ) → UndoesOneStretch (translation_of y) events thread
