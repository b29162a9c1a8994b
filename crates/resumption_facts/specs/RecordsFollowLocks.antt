-- Record follows locks: a record is the set held where it resumes; a lock is recorded only once taken, and given back only once a point without it is durable.
use Rattle.std.specs.Prelude.{◌≡◌, ◌≢◌, ◌↔◌, ℕ, List, slice_get, Some, true, false}
use Rattle.machine_events.specs.declared.event.Event.{Event}
use Rattle.machine_events.specs.declared.event.Event.TheVariants.{Step}
use Rattle.ido_base.specs.Locks.{has_lock}
use Rattle.machine_model.specs.declared.phase.Phase.TheVariants.{Take, Resume}
use Rattle.machine_model.specs.Machine.{Hart, World, after_event, record_of}
use Rattle.machine_model.specs.Schedule.{schedules}
use Rattle.crash_simulation.specs.Systems.{System, IsSystem}
use Rattle.compiler_correctness.specs.Compilation.{HartHolds, ThreadHolds}
use Rattle.compiler_correctness.specs.Laws.{translation_of}
use Rattle.compiler_correctness.specs.Translations.{Translation, source, steps, world}

-- the lock is in the hart's record
abbrev pub IsRecorded : World → (h lock : ℕ) → Type 0
IsRecorded w h lock = has_lock (record_of w.log w.words h) lock ≡ true

pub record FollowsLocks (c : Translation) (events : List Event) (h : ℕ) (hart : Hart) : Type 0 where
  -- the record is the set that its thread holds where the kept steps leave it, and there it is resumed
  pub is : (lock : ℕ) → IsRecorded (world c events) h lock ↔ ThreadHolds (source c (schedules (steps c events))) h lock
  -- but while it takes them in recovery, the hart holds all locks of its record
  pub taken : hart.phase ≢ Take → (lock : ℕ) → IsRecorded (world c events) h lock → HartHolds (world c events) h lock
  -- and no others when it is resumed
  pub resumed : hart.phase ≡ Resume → (lock : ℕ) → HartHolds (world c events) h lock → IsRecorded (world c events) h lock
  -- a lock that it gives back is in its record no more
  pub given : (lock : ℕ) → HartHolds (world c events) h lock → ¬ (HartHolds (after_event c.runs.program (world c events) (Step h)) h lock) →
      has_lock (record_of (world c events).log (world c events).words h) lock ≡ false

-- after any events, of each hart of a compiled program, however its threads log
abbrev pub RecordsFollowLocks : Type 0
RecordsFollowLocks = (y : System) → IsSystem y → (events : List Event) (h : ℕ) (hart : Hart) →
    slice_get (world (translation_of y) events).harts h ≡ Some hart → FollowsLocks (translation_of y) events h hart
