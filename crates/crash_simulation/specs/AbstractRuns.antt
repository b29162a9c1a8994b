-- What has happened to a compiled program, in the words of the source and of its flow graph.
use Rattle.std.specs.Prelude.{ℕ, List}
use Rattle.flow_graph.specs.Actions.{FlowState}
use Rattle.recovery_semantics.specs.Configs.{Config}
use Rattle.recovery_semantics.specs.Executions.{Execution}
use Rattle.region_attempts.specs.Origins.{Origin}
use Rattle.region_attempts.specs.GraphStates.{flow_kept, flow_now}
use Rattle.region_attempts.specs.AttemptsInRegion.{RespectsAll}
use Rattle.region_attempts.specs.PendingCleans.{Attempts}
use Rattle.crash_simulation.specs.Systems.{System, flat_of, shapes_of}

-- where an execution began, a config, the schedule that is kept, and how they came about: no attempt went on past a boundary
pub record AbstractRun (y : System) : Type 0 where
  pub origin : Origin (flat_of y)
  pub config : Config
  pub schedule : List ℕ
  pub execution : Execution (flat_of y) origin.source config schedule
  pub respects : RespectsAll (flat_of y) y.plan.boundaries origin execution

-- the graph's state after the kept schedule, and after all begun steps
abbrev pub kept_of : (y : System) → AbstractRun y → FlowState
kept_of y b = flow_kept (flat_of y) b.origin b.schedule

abbrev pub now_of : (y : System) → AbstractRun y → FlowState
now_of y b = flow_now (flat_of y) (kept_of y b) b.config

abbrev pub attempts_of : (y : System) → AbstractRun y → Attempts
attempts_of y b = record { flat = flat_of y; kept = kept_of y b; config = b.config; shapes = shapes_of y; left_out = y.left_out }
