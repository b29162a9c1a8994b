-- What a compiled program is held to, after whatever events: steps of all harts, evictions, crashes and starts in any order.
use Rattle.std.specs.Prelude.{◌≡◌, ◌≢◌, ◌⊎◌, ◌↔◌, ℕ, ◌+◌, ◌<◌, ◌≤◌, List, [], ◌∷◌, ◌++◌, length, Contains, slice_get, Some, None, Bool, true, false}
use Rattle.std.specs.Prelude.{not, ◌&&◌, ◌==◌, if◌then◌else◌}
use Rattle.machine_events.specs.declared.event.Event.{Event}
use Rattle.machine_events.specs.declared.event.Event.TheVariants.{Step}
use Rattle.machine_events.specs.declared.event.Reply.TheVariants.{Moved, Stuck}
use Rattle.machine_events.specs.declared.event.Cause.{Cause}
use Rattle.log_schemes.specs.Layout.{point_at}
use Rattle.ido_base.specs.Locks.{has_lock, holds_none}
use Rattle.c_tree.specs.Source as m
use Rattle.c_tree.specs.Source.{is_between}
use Rattle.source_machine.specs.Mutexes.{locks}
use Rattle.machine_model.specs.declared.phase.Phase.TheVariants.{Take, Run, Ended}
use Rattle.machine_model.specs.Executables.{first_world}
use Rattle.machine_model.specs.Machine.{World, Hart, has_stopped, after_event, reply_to, live_at, durable_point, resume_of, record_of, is_settled}
use Rattle.machine_model.specs.Schedule.{LifeSchedules, Steps, all_lives, begins_life, schedules, released_count}
use Rattle.hart_runs.specs.Calls.{IsAtCall, lock_asked}
use Rattle.recovery_semantics.specs.Laws.{LastUnlocks}
use Rattle.variable_words.specs.Variables.{live_variables, durable_variables}
use Rattle.compiler_correctness.specs.Translations.{Translation, world, steps, begun_lives, now, now_lives, source, source_at, IsRunnable, resumes_of}

-- ---- Settled machines

-- the source can be stepped by all kept schedules; and where all harts stand between sections, so do all threads after these, and the durable variables are
-- theirs
pub record IsSettledAsKept (c : Translation) (events : List Event) : Type 0 where
  pub runs : IsRunnable c (schedules (steps c events))
  pub between : is_settled (world c events) ≡ true → (thread : ℕ) → is_between (source c (schedules (steps c events))) thread ≡ true
  pub variables : is_settled (world c events) ≡ true →
      durable_variables (world c events).words c.flat.variables ≡ (source c (schedules (steps c events))).variables

-- ---- Kept steps

-- the one schedule, and more after it
pub record BeginsWith (whole prefix : List ℕ) : Type 0 where
  pub rest : List ℕ
  pub is : whole ≡ prefix ++ rest

-- each schedule of the one begins with the same life's of the other, and more lives may come after these
abbrev pub BeginLives : (whole prefix : List (List ℕ)) → Type 0
BeginLives whole [] = Unit {0}
BeginLives [] (prefix ∷ rest) = ⊥
BeginLives (whole ∷ more) (prefix ∷ rest) = BeginsWith whole prefix × BeginLives more rest

-- no kept step of any life is lost, whatever happens next
abbrev pub KeptScheduleGrows : Translation → List Event → Type 0
KeptScheduleGrows c events = (more : List Event) → BeginLives (schedules (steps c (events ++ more))) (schedules (steps c events))

-- ---- Kept sections

-- sections of the thread that have ended in this life by its kept schedule, and releases that have left its hart holding nothing
abbrev pub sections_kept : Translation → List Event → (thread : ℕ) → ℕ
sections_kept c events thread = m.ended_from (source_at c (steps c events).earlier) (steps c events).kept thread

abbrev pub sections_released : Translation → List Event → (hart : ℕ) → ℕ
sections_released c events hart = released_count c.runs.program (first_world c.runs) events hart

-- the event after those makes the durable point of the hart 0, which it wasn't
abbrev pub ends_at_point : Translation → List Event → Event → (hart : ℕ) → Bool
ends_at_point c events event hart =
    not (durable_point (world c events).log (world c events).words hart == 0)
    && (durable_point (after_event c.runs.program (world c events) event).log (after_event c.runs.program (world c events) event).words hart == 0)

-- in the life that goes on each section that a hart has left is kept, and at most one more of its thread; a section is kept by the event that makes its
-- hart's durable point 0
pub record AreSectionsKept (c : Translation) (events : List Event) : Type 0 where
  pub no_less : (h : ℕ) → sections_released c events h ≤ sections_kept c events h
  pub no_more : (h : ℕ) → sections_kept c events h ≤ sections_released c events h + 1
  pub by_points : (event : Event) (h : ℕ) → h < length c.runs.program → begins_life (world c events) event ≡ false →
      sections_kept c (events ++ event ∷ []) h ≡ sections_kept c events h + (if ends_at_point c events event h then 1 else 0)

-- ---- Locks of a hart and of its thread

-- the thread holds the mutex in the state, and the hart holds the lock in the world
abbrev pub ThreadHolds : m.State → (thread mutex : ℕ) → Type 0
ThreadHolds s thread mutex = slice_get s.holders mutex ≡ Some (Some thread)

abbrev pub HartHolds : World → (hart lock : ℕ) → Type 0
HartHolds w hart lock = slice_get w.holders lock ≡ Some (Some hart)

-- the thread's last step of the last life has unlocked the mutex, which is free then
pub record HasJustUnlocked (c : Translation) (lives : LifeSchedules) (thread mutex : ℕ) : Type 0 where
  pub last : LastUnlocks (source_at c lives.earlier) lives.schedule thread mutex
  pub free : slice_get (source c (all_lives lives)).holders mutex ≡ Some None

-- hart h holds what its thread holds after the lives, and beside that at most the mutex of an unlock that is the thread's last step, whose release is under
-- way
pub record HoldsAsThread (c : Translation) (w : World) (lives : LifeSchedules) (h : ℕ) : Type 0 where
  pub held : (lock : ℕ) → ThreadHolds (source c (all_lives lives)) h lock → HartHolds w h lock
  pub holds : (lock : ℕ) → HartHolds w h lock → ThreadHolds (source c (all_lives lives)) h lock ⊎ HasJustUnlocked c lives h lock
  -- at a call that takes a lock or waits for it, its thread stands at that lock, and it holds nothing else than its thread does
  pub taking : (a : IsAtCall c.runs.program w h 1) → locks (source c (all_lives lives)) h ≡ Some (lock_asked a.hart)
  pub holds_only : IsAtCall c.runs.program w h 1 → (lock : ℕ) → HartHolds w h lock → ThreadHolds (source c (all_lives lives)) h lock

-- the hart executes instructions, or has ended
abbrev pub IsOn : Hart → Type 0
IsOn hart = (hart.phase ≡ Run) ⊎ (hart.phase ≡ Ended)

-- ---- Lockstep, in a life without a crash

-- the source can be stepped by all steps that have begun: memory has the variables that it has then, and harts hold what their threads do
pub record IsInStep (c : Translation) (w : World) (s : Steps) : Type 0 where
  pub runs : IsRunnable c (all_lives (begun_lives s))
  pub variables : live_variables w.words c.flat.variables ≡ (source c (all_lives (begun_lives s))).variables
  pub locks_agree : (h : ℕ) (hart : Hart) → slice_get w.harts h ≡ Some hart → IsOn hart → HoldsAsThread c w (begun_lives s) h

-- ---- Records, and where recovery resumes

-- the point names a resume address of the thread, unless it is 0
abbrev pub NamesResume : Translation → (h point : ℕ) → Type 0
NamesResume c h point = point ≢ 0 → Contains (resumes_of c h) (resume_of point)

-- a hart of a machine at a moment, whose steps are accounted so
pub record IsRecorded (c : Translation) (w : World) (s : Steps) (h : ℕ) (hart : Hart) : Type 0 where
  -- what it holds that executes instructions, in recovery too, or has ended
  pub locks_agree : IsOn hart → HoldsAsThread c w (now_lives s) h
  -- the hart's record is the set that its thread holds by the kept schedules
  pub record_is : (lock : ℕ) → (has_lock (record_of w.log w.words h) lock ≡ true) ↔ ThreadHolds (source c (schedules s)) h lock
  -- the hart's record shares no lock with another's
  pub apart : (g lock : ℕ) → g < length c.runs.program → g ≢ h → has_lock (record_of w.log w.words h) lock ≡ true →
      has_lock (record_of w.log w.words g) lock ≡ false
  -- in recovery a hart takes its locks and never waits for one
  pub takes : hart.phase ≡ Take → reply_to c.runs.program w (Step h) ≡ Moved
  -- the hart's points, the live and the durable one, name resume addresses
  pub live_point : NamesResume c h (live_at w.words (point_at w.log h))
  pub durable_point_names : NamesResume c h (durable_point w.log w.words h)

pub record AreRecords (c : Translation) (w : World) (s : Steps) : Type 0 where
  -- the source can be stepped by all kept steps, and after them by those begun since
  pub kept : IsRunnable c (schedules s)
  pub now_runs : IsRunnable c (all_lives (now_lives s))
  pub each : (h : ℕ) (hart : Hart) → slice_get w.harts h ≡ Some hart → IsRecorded c w s h hart

-- ---- No hart is ever stuck

abbrev pub NeverStuck : Translation → List Event → Type 0
NeverStuck c events = (h : ℕ) (cause : Cause) → reply_to c.runs.program (world c events) (Step h) ≢ Stuck cause

-- ---- Whole sections

-- the hart has ended or is done, or it executes instructions and holds nothing
abbrev pub IsOutside : World → (h : ℕ) → Hart → Type 0
IsOutside w h hart = (has_stopped hart.phase ≡ true) ⊎ ((hart.phase ≡ Run) × (holds_none w.holders h ≡ true))

-- the thread's last step is done
pub record HasEnded (s : m.State) (thread : ℕ) : Type 0 where
  pub it : m.Thread
  pub there : slice_get s.threads thread ≡ Some it
  pub ended : it.ended ≡ true

-- between sections a thread has no point
pub record IsWhole (c : Translation) (events : List Event) (h : ℕ) (hart : Hart) : Type 0 where
  pub ended : hart.phase ≡ Ended → HasEnded (source c (all_lives (now c events))) h
  pub no_live_point : IsOutside (world c events) h hart → live_at (world c events).words (point_at (world c events).log h) ≡ 0
  pub no_durable_point : IsOutside (world c events) h hart → durable_point (world c events).log (world c events).words h ≡ 0
  -- a hart whose record has no lock has no durable point
  pub recorded : record_of (world c events).log (world c events).words h ≡ [] → durable_point (world c events).log (world c events).words h ≡ 0

abbrev pub AreWhole : Translation → List Event → Type 0
AreWhole c events = (h : ℕ) (hart : Hart) → slice_get (world c events).harts h ≡ Some hart → IsWhole c events h hart
