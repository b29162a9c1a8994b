-- Whole executions: attempts stay within their regions where boundaries are respected.
use Rattle.std.proofs.Common.{ℕ, List}
use Rattle.c_tree.specs.Flats as f
use Rattle.c_tree.specs.WellFormed.{IsWellFormed}
use Rattle.flow_graph.specs.Lowering.{lowered}
use Rattle.flow_graph.specs.IdempotentCuts.{Boundaries, AreCuts}
use Rattle.recovery_semantics.specs.Configs.{Config}
use Rattle.recovery_semantics.specs.Executions.{Execution, begins, then}
use Rattle.recovery_semantics.proofs.Public.{executions_resume}
use Rattle.region_attempts.specs.Origins.{Origin}
use Rattle.region_attempts.specs.GraphStates.{flow_kept}
use Rattle.region_attempts.specs.AttemptsInRegion.{StaysInside, RespectsAll}
use Rattle.region_attempts.specs.Laws.{ExecutionsStay}
use Rattle.region_attempts.proofs.AttemptsStayInRegion.{start_stays, events_stay}

module _ (x : f.Flat) (b : Boundaries) (w : IsWellFormed x) (cuts : AreCuts (lowered x) b) (o : Origin x) where
  inside_by : {old : Config} {schedule : List ℕ} → (executions : Execution x o.source old schedule) → RespectsAll x b o executions → (u : ℕ) →
      StaysInside x b (flow_kept x o schedule) old u
  inside_by (begins memory stable) respects u = start_stays x b o memory u respects
  inside_by (then {m = old} {next = next} {schedule = schedule} before h) respects u =
      let resumed = executions_resume x o.source old schedule o.keeps before in
      events_stay x b o old next schedule w cuts resumed.invariant resumed.kept h respects.1 (λ k. inside_by before respects.0 k) u

pub executions_stay : ExecutionsStay
executions_stay x b o old schedule w cuts executions respects = record {
  resumed = executions_resume x o.source old schedule o.keeps executions;
  inside = inside_by x b w cuts o executions respects;
}
