-- Words with which recovery begins an execution anywhere: their records describe an origin.
use Rattle.std.specs.Prelude.{◌≡◌, ℕ, ◌<◌, List, length, map, false}
use Rattle.machine_events.specs.declared.event.Event.{Event}
use Rattle.log_schemes.specs.Layout.{word_count}
use Rattle.ido_base.specs.Words.{word_of}
use Rattle.machine_model.specs.Machine.{World, after_crash_of, after_events}
use Rattle.machine_model.specs.Schedule.{LifeSchedules, first_steps, steps_along, released_count}
use Rattle.variable_words.specs.Variables.{durable_variables}
use Rattle.region_attempts.specs.Origins.{Origin}
use Rattle.recovered_threads.specs.Machines.{RecoversTo}
use Rattle.crash_simulation.specs.Systems.{System, IsSystem, flat_of, thread_count}
use Rattle.crash_simulation.specs.SimulationRelation.{Simulates}
use Rattle.crash_simulation.specs.AccountRelation.{SimulatesLives}

-- as many words as the machine has, by whose records harts recover to the origin; and variables have its numbers
pub record IsRecoveredFrom (y : System) (s : IsSystem y) (o : Origin (flat_of y)) (words : List ℕ) : Type 0 where
  pub size : length words ≡ word_count y.runs.log (thread_count y)
  pub recovers : RecoversTo y.plan s.codes o.flow (after_crash_of y.runs.log y.runs.program y.runs.mutexes words)
  pub variables : durable_variables (map word_of words) (flat_of y).variables ≡ o.source.variables

-- the machine simulates an abstract run that began there
pub record SimulatesFrom (y : System) (s : IsSystem y) (o : Origin (flat_of y)) (w : World) : Type 0 where
  pub stands : Simulates y s w
  pub begins : stands.abstract.origin ≡ o

abbrev pub RecoveredWordsSimulate : Type 0
RecoveredWordsSimulate = (y : System) (s : IsSystem y) (o : Origin (flat_of y)) (words : List ℕ) → IsRecoveredFrom y s o words →
    SimulatesFrom y s o (after_crash_of y.runs.log y.runs.program y.runs.mutexes words)

-- where no thread stands late the account of its steps goes on from there, after schedules that were kept before
abbrev pub RecoveredAreCounted : Type 0
RecoveredAreCounted = (y : System) (s : IsSystem y) (o : Origin (flat_of y)) (words : List ℕ) (kept : LifeSchedules) (is : IsRecoveredFrom y s o words) →
    ((n : ℕ) → n < thread_count y → is.recovers.lates n ≡ false) →
    (events : List Event) →
    SimulatesLives y s (record { from = o.source; earlier = kept.earlier; kept = kept.schedule })
    (after_events y.runs.program (after_crash_of y.runs.log y.runs.program y.runs.mutexes words) events)
    (steps_along y.runs.marks y.runs.program (after_crash_of y.runs.log y.runs.program y.runs.mutexes words) events (first_steps kept))
    (released_count y.runs.program (after_crash_of y.runs.log y.runs.program y.runs.mutexes words) events)
