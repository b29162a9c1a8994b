-- What the fields of a life represent.
use Rattle.std.specs.Prelude.{Vec, ◌≡◌, ℕ, ◌+◌, ◌/◌, ◌<◌, ◌≤◌, ◌^◌, List, length, slice_index, slice_index_or, Option, Some, None}
use Rattle.std.specs.Global.{Global}
use Rattle.std.specs.Vec.{vec_capacity, vec_len}
use Rattle.log_schemes.specs.declared.log.Log.{Log}
use Rattle.machine_events.specs.Cores.{point_stores, finished_fences}
use Rattle.ido_base.specs.Layout.{spread_words}
use Rattle.ido_base.specs.declared.limits.TheConstants.{MOST_VARIABLE_BYTES}
use Rattle.rv64_isa.specs.declared.object.Slot.{Slot}
use Rattle.machine_model.specs.Executables.{Executable, node_marks, resume_marks}
use Rattle.machine_model.specs.Machine.{World, start_of, after_crash_of}
use Rattle.machine_model.specs.Frames.{IsWellFormedWorld}
use Rattle.ido_machine.specs.Machines.{RepresentsMachine, program_in, log_by, events_of}
use Rattle.run_tracker.specs.declared.life.Life.TheInside.{Inside}
use Rattle.run_tracker.specs.links.AccountRepresentation.{AccountInv, AreOpen, AreOrdered, ends_from, weight}
use Rattle.run_tracker.specs.links.EarlierLives.{kept_count, lives_in}
use Rattle.run_tracker.specs.links.SectionRepresentation.{AreSections}
use Rattle.ido_machine.specs.links.SignTables.{AreTables}
use Rattle.run_tracker.specs.ObjectLives.{Course, world_of, steps_in, living, opening_of, sections_since}

-- the world before the first event: that of the start, or that after a crash that left these words
abbrev pub opening_by : Log → List (List Slot) → (locks : ℕ) → (initial : List ℕ) → Option (Vec ℕ Global) → World
opening_by log program locks initial None = start_of log program locks initial
opening_by log program locks initial (Some words) = after_crash_of log program locks (spread_words (length initial / 8) words.items)

-- what the machine of a life with this program runs
abbrev pub executable_by : Log → List (List Slot) → Inside → Executable
executable_by log program life = record {
  log = log;
  program = program;
  marks = node_marks life.marks.threads.items;
  resumes = resume_marks life.marks.threads.items;
  initial = life.initial.items;
  mutexes = life.mutexes;
}

abbrev pub course_of : Inside → Course
course_of life = record {
  runs = executable_by (log_by life.machine) (program_in life.machine) life;
  kept_before = lives_in life.earlier.items life.before.items;
  ended_before = life.ended_before.items;
  opening = opening_by (log_by life.machine) (program_in life.machine) life.mutexes life.initial.items life.left;
  journal = life.journal.events;
  cap = life.cap;
}

-- how many steps were kept before the first event
abbrev pub kept_first : Inside → ℕ
kept_first life = kept_count life.earlier.items life.before.items

-- each hart has done it as often as is counted
abbrev pub AreCounts : List ℕ → (harts : ℕ) → (done : ℕ → ℕ) → Type 0
AreCounts counts harts done = (length counts ≡ harts) × ((h : ℕ) → h < harts → slice_index counts h ≡ done h)

-- machine, account, counts and sections are those of the events in the journal
pub record LifeInv (life : Inside) : Type 0 where
  pub machine : RepresentsMachine life.machine (world_of (course_of life))
  pub sound : IsWellFormedWorld (world_of (course_of life))
  pub events : events_of life.machine ≡ length life.journal.events
  pub tables : AreTables life.tables.items (program_in life.machine) (node_marks life.marks.threads.items)
  pub account : AccountInv life.account (steps_in (course_of life))
  pub marked : length life.marks.threads.items ≡ length (program_in life.machine)
  pub harts : length life.account.harts.items ≡ length (program_in life.machine)
  pub ordered : AreOrdered (world_of (course_of life)).log (world_of (course_of life)).words (steps_in (course_of life))
  pub are_open : AreOpen (length (program_in life.machine)) (world_of (course_of life)).log (world_of (course_of life)).words (steps_in (course_of life))
  pub light : weight (steps_in (course_of life)) ≤ kept_first life + length life.journal.events
  pub points : AreCounts life.counts.points.items (length (program_in life.machine)) (point_stores living (opening_of (course_of life)) life.journal.events)
  pub fences : AreCounts life.counts.fences.items (length (program_in life.machine)) (finished_fences living (opening_of (course_of life)) life.journal.events)
  pub sections : AreSections life.sections (length (program_in life.machine)) (world_of (course_of life)) (sections_since (course_of life))
  pub few_ended : (h : ℕ) → slice_index_or life.ended_before.items h 0 < 2 ^ 63
  pub within : length life.journal.events ≤ life.cap
  pub few : kept_first life + length life.earlier.items + life.cap < 2 ^ 63
  pub bytes : length life.initial.items ≤ MOST_VARIABLE_BYTES
  pub journal_room : life.cap ≤ life.journal.room
  pub kept_room : kept_first life + life.cap ≤ vec_capacity life.account.kept
  pub stores_room : life.cap ≤ vec_capacity life.account.stores
  pub stores : vec_len life.account.stores ≤ length life.journal.events
  pub ends : life.ends.items ≡ ends_from 0 (steps_in (course_of life)).earlier
  pub ends_room : length life.earlier.items + life.cap ≤ vec_capacity life.ends
  pub few_ends : vec_len life.ends ≤ length life.earlier.items + length life.journal.events
