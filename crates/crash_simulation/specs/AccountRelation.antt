-- The machine's account of begun and kept steps is that of the abstract run's config.
use Rattle.std.specs.Prelude.{◌≡◌, ℕ, ◌<◌, ◌≤◌, List, [], ◌∷◌, ◌++◌, Option, Some, None, Bool, true, false}
use Rattle.machine_events.specs.declared.event.Event.{Event}
use Rattle.ido_base.specs.Words.{last_position}
use Rattle.c_tree.specs.Source.{State, after_from, start}
use Rattle.source_machine.specs.Lives.{end_lives, restart}
use Rattle.machine_model.specs.Executables.{first_world}
use Rattle.machine_model.specs.Machine.{World, after_events}
use Rattle.machine_model.specs.Schedule.{PendingStep, Steps, harts_of, only_life, first_steps, steps_along, released_count}
use Rattle.log_states.specs.Logs.{point_in}
use Rattle.crash_simulation.specs.Systems.{System, IsSystem, flat_of, thread_count}
use Rattle.crash_simulation.specs.AbstractRuns.{AbstractRun}
use Rattle.crash_simulation.specs.ThreadGhosts.{ThreadGhost, is_bound}
use Rattle.crash_simulation.specs.SimulationRelation.{Simulates}
use Rattle.crash_simulation.specs.ReleasedSections.{sections_kept, IsReleasedOf}

-- the position of the last store of a thread's point
abbrev pub last_stored : World → (thread : ℕ) → ℕ
last_stored w thread = last_position (point_in w.log w.words thread)

-- the position, where it is bound to a store
abbrev pub stored_at : (bound : Bool) → (position : ℕ) → Option ℕ
stored_at false position = None
stored_at true position = Some position

-- each of these steps that is of hart h has its store there
abbrev pub AreStoredAt : (h : ℕ) → Option ℕ → List PendingStep → Type 0
AreStoredAt h stored [] = Unit {0}
AreStoredAt h stored (step ∷ steps) = (step.hart ≡ h → step.stored ≡ stored) × AreStoredAt h stored steps

-- of a thread: its pending steps are bound to the store of its point where the boundary under way has made that, and else to none
abbrev pub IsCountedOf : World → (thread : ℕ) → ThreadGhost → (pending : List PendingStep) → Type 0
IsCountedOf w thread c pending = AreStoredAt thread (stored_at (is_bound c) (last_stored w thread)) pending

-- what an account goes on from: the state in which this life's execution began, the lives before it, and this life's steps that were kept before
pub record Beginning : Type 0 where
  pub from : State
  pub earlier : List (List ℕ)
  pub kept : List ℕ

-- the source's start, and none
abbrev pub first_beginning : System → Beginning
first_beginning y = record { from = start (flat_of y); earlier = []; kept = [] }

-- that of the life after it, where this life's execution has kept the schedule
abbrev pub next_beginning : System → Beginning → (schedule : List ℕ) → Beginning
next_beginning y g schedule = record {
  from = restart (flat_of y) (after_from g.from schedule);
  earlier = g.earlier ++ (g.kept ++ schedule) ∷ [];
  kept = [];
}

-- that of the life after all those, by what the execution of each has kept
abbrev pub beginning_after : System → Beginning → (lives : List (List ℕ)) → Beginning
beginning_after y g [] = g
beginning_after y g (schedule ∷ rest) = beginning_after y (next_beginning y g schedule) rest

-- of a thread: it isn't late, its steps are counted, and the sections that its hart has left by a release
pub record IsAccountedOf (y : System) (w : World) (b : AbstractRun y) (thread : ℕ) (c : ThreadGhost) (pending : List PendingStep) (releases : ℕ) : Type 0 where
  pub on_time : c.late ≡ false
  pub counted : IsCountedOf w thread c pending
  pub released : IsReleasedOf y w b thread c releases

-- the steps of all threads are counted, and their releases
pub record AreCounted (y : System) (g : Beginning) (w : World) (b : AbstractRun y) (ghosts : ℕ → ThreadGhost) (steps : Steps) (releases : ℕ → ℕ) : Type 0 where
  pub begins : b.origin.source ≡ g.from
  pub earlier : steps.earlier ≡ g.earlier
  pub kept : steps.kept ≡ g.kept ++ b.schedule
  pub pending : harts_of steps.pending ≡ b.config.uncommitted
  pub each : (n : ℕ) → n < thread_count y → IsAccountedOf y w b n (ghosts n) steps.pending (releases n)
  -- past the last thread, as many sections are kept as are released
  pub beyond : (n : ℕ) → thread_count y ≤ n → sections_kept y b n ≡ releases n

-- the machine simulates an abstract run, its steps are counted, and so many releases ended a section of each thread
pub record SimulatesCounted (y : System) (s : IsSystem y) (g : Beginning) (w : World) (steps : Steps) (releases : ℕ → ℕ) : Type 0 where
  pub stands : Simulates y s w
  pub counted : AreCounted y g w stands.abstract stands.ghosts steps releases

-- so it does in the life that goes on, and the lives before it have ended, the first of which began so
pub record SimulatesLives (y : System) (s : IsSystem y) (first : Beginning) (w : World) (steps : Steps) (releases : ℕ → ℕ) : Type 0 where
  -- what the execution of each has kept
  pub lives : List (List ℕ)
  pub ended : end_lives (flat_of y) first.from lives ≡ true
  pub is : SimulatesCounted y s (beginning_after y first lives) w steps releases

-- the machine simulates an abstract run and its steps are counted after all events that may happen, in whatever order
abbrev pub MachinesResume : Type 0
MachinesResume = (y : System) (s : IsSystem y) (events : List Event) →
    SimulatesLives y s (first_beginning y) (after_events y.runs.program (first_world y.runs) events)
    (steps_along y.runs.marks y.runs.program (first_world y.runs) events (first_steps (only_life [])))
    (released_count y.runs.program (first_world y.runs) events)
