-- Whole executions: the invariant, the kept schedule, and what durable memory has.
use Rattle.std.proofs.Common.{arith, ℕ, List, [], ◌++◌, sym, subst, refl}
use Rattle.c_tree.specs.Flats as f
use Rattle.c_tree.specs.Source as m
use Rattle.source_machine.specs.Discipline.{StateKeeps}
use Rattle.recovery_semantics.specs.Configs.{Config, Invariant}
use Rattle.recovery_semantics.specs.Events.{ConfigStep, steps_locally, stores, synchronises, persists, commits, crashes}
use Rattle.recovery_semantics.specs.Executions.{Execution, begins, then, kept_steps}
use Rattle.recovery_semantics.specs.Laws.{IsKeptBy, ExecutionInv, ExecutionsResume, ExecutionsSettle}
use Rattle.recovery_semantics.proofs.ShortenedSchedules.{more_empty}
use Rattle.recovery_semantics.proofs.CrashesKeepInvariant.{start_meets}
use Rattle.recovery_semantics.proofs.EventsKeepInvariant.{events_keep}
use Rattle.recovery_semantics.proofs.InvariantConsequences.{between_is_kept, schedule_grows}

same_schedule : (from s : m.State) (schedule : List ℕ) → IsKeptBy from s schedule → IsKeptBy from s (schedule ++ [])
same_schedule from s schedule k = subst (λ (us : List ℕ). IsKeptBy from s us) (sym (more_empty schedule)) k

kept_then : (x : f.Flat) (from : m.State) (old next : Config) (schedule : List ℕ) (h : ConfigStep old next) → Invariant x old →
    IsKeptBy from old.kept schedule → IsKeptBy from next.kept (schedule ++ kept_steps h)
kept_then x from old _ schedule (steps_locally t attempts e) i k = same_schedule from old.kept schedule k
kept_then x from old _ schedule (stores t memory attempts e) i k = same_schedule from old.kept schedule k
kept_then x from old _ schedule (synchronises t e) i k = same_schedule from old.kept schedule k
kept_then x from old _ schedule (persists memory e) i k = same_schedule from old.kept schedule k
kept_then x from old _ schedule (commits t attempts e) i k = schedule_grows x from old t attempts schedule i e k
kept_then x from old _ schedule (crashes attempts e) i k = same_schedule from old.kept schedule k

resumed : (x : f.Flat) (from : m.State) → StateKeeps x from → {old : Config} {schedule : List ℕ} → Execution x from old schedule →
    ExecutionInv x from old schedule
resumed x from keeps (begins memory stable) = record { invariant = start_meets x from memory keeps stable; kept = record { runs = refl; is = refl } }
resumed x from keeps (then {m = old} {next = next} {schedule = schedule} l h) =
    let r = resumed x from keeps l in
    record { invariant = events_keep x old next r.invariant h; kept = kept_then x from old next schedule h r.invariant r.kept }

pub executions_resume : ExecutionsResume
executions_resume x from old schedule keeps l = resumed x from keeps l

pub executions_settle : ExecutionsSettle
executions_settle x from old schedule keeps l between = grind (arith, between_is_kept, resumed)
