-- What the parts of a life represent before and after an event.
use Rattle.std.specs.Prelude.{◌≡◌, ℕ, ◌+◌, ◌<◌, ◌≤◌, ◌^◌, List, length, slice_get, slice_index, Option, Some, Bool, true, false, if◌then◌else◌}
use Rattle.std.specs.Vec.{vec_capacity}
use Rattle.log_schemes.specs.declared.log.Log.{Log}
use Rattle.machine_events.specs.declared.event.Event.{Event}
use Rattle.machine_events.specs.declared.event.Event.TheVariants.{Step, Evict, Crash, Start}
use Rattle.machine_events.specs.declared.event.Reply.{Reply}
use Rattle.machine_events.specs.declared.event.Reply.TheVariants.{Moved, Drained, Waits, Barrier, Still, Stuck, Device}
use Rattle.ido_base.specs.Words.{word_at, last_position}
use Rattle.rv64_isa.specs.declared.object.Slot.{Slot}
use Rattle.machine_model.specs.Machine.{Hart, World, IsEviction, after_event, reply_to}
use Rattle.machine_model.specs.Schedule.{Steps, is_running, stores_point, finishes_fence}
use Rattle.machine_model.specs.Frames.{IsWellFormedWorld}
use Rattle.ido_machine.specs.declared.machine.Machine.{Machine}
use Rattle.ido_machine.specs.Machines.{RepresentsMachine, program_in}
use Rattle.run_tracker.specs.declared.account.Account.{Account}
use Rattle.run_tracker.specs.declared.counts.Counts.{Counts}
use Rattle.ido_machine.specs.declared.signs.Entry.{Entry}
use Rattle.ido_machine.specs.declared.signs.SignTable.{SignTable}
use Rattle.run_tracker.specs.declared.stepping.Observation.{Observation}
use Rattle.ido_machine.specs.links.SignTables.{AreTables, entry_at, sign_at}
use Rattle.run_tracker.specs.links.AccountRepresentation.{AccountInv, AreInOrder, AreOrdered, own_steps, point_word, weight}

-- the event is a step of one of so many harts, an eviction of their words, a crash or a start
abbrev pub IsAmong : Log → (harts : ℕ) → Event → Type 0
IsAmong log harts (Step h) = h < harts
IsAmong log harts (Evict line mask) = IsEviction log harts line mask
IsAmong log harts Crash = Unit {0}
IsAmong log harts Start = Unit {0}

abbrev pub is_start : Event → Bool
is_start (Step h) = false
is_start (Evict line mask) = false
is_start Crash = false
is_start Start = true

-- a queued entry was written back
abbrev pub is_drained : Reply → Bool
is_drained Moved = false
is_drained Drained = true
is_drained (Waits lock holder) = false
is_drained (Barrier hart) = false
is_drained Still = false
is_drained (Stuck cause) = false
is_drained Device = false

-- more of memory may be durable by the event with this reply: a queued entry was written back, or it is no step of a hart
abbrev pub may_persist : Reply → Bool
may_persist Moved = false
may_persist Drained = true
may_persist (Waits lock holder) = false
may_persist (Barrier hart) = false
may_persist Still = false
may_persist (Stuck cause) = false
may_persist Device = true

-- what was seen of hart h at a world, in which the word of its point exists, and is durable at one of its positions
pub record IsSeen (w : World) (h : ℕ) (tables : List SignTable) (observation : Observation) : Type 0 where
  pub hart : Hart
  pub found : slice_get w.harts h ≡ Some hart
  pub running : observation.running ≡ is_running hart.phase
  pub table : SignTable
  pub owned : slice_get tables h ≡ Some table
  pub sign : observation.sign ≡ sign_at table hart.pc
  pub position : observation.sign.store ≡ true → observation.position ≡ last_position (word_at w.words (point_word w.log h))
  pub unstored : observation.sign.store ≡ false → observation.position ≡ 0
  pub point : point_word w.log h < length w.words
  pub durable : (word_at w.words (point_word w.log h)).durable < length (word_at w.words (point_word w.log h)).values

-- that stands at the pc of hart h
abbrev pub IsNextEntry : World → (h : ℕ) → List SignTable → Option Entry → Type 0
IsNextEntry w h tables next =
    (hart : Hart) (table : SignTable) → slice_get w.harts h ≡ Some hart → slice_get tables h ≡ Some table → next ≡ entry_at table hart.pc

-- a step of a hart: what was seen of it before, and the reply
pub record SeenStep : Type 0 where
  pub hart : ℕ
  pub observation : Observation
  pub reply : Reply

abbrev pub seen_step : (hart : ℕ) → Observation → Reply → SeenStep
seen_step hart observation reply = record { hart = hart; observation = observation; reply = reply }

-- the step, of which that was seen at a world, has led to that of the machine, and was replied to so
pub record HasStepped (program : List (List Slot)) (marks : List (List ℕ)) (machine : Machine) (step : SeenStep) (w : World) : Type 0 where
  pub many : length program ≡ length (program_in machine)
  pub tables : List SignTable
  pub tables_are : AreTables tables program marks
  pub seen : IsSeen w step.hart tables step.observation
  pub replied : step.reply ≡ reply_to program w (Step step.hart)
  pub log : (after_event program w (Step step.hart)).log ≡ w.log
  pub stands : RepresentsMachine machine (after_event program w (Step step.hart))

-- the machine is at a world, and the account has steps, in order, and room for those that aren't kept
pub record HasSteps (machine : Machine) (account : Account) : Type 0 where
  pub world : World
  pub at : RepresentsMachine machine world
  pub steps : Steps
  pub stands : AccountInv account steps
  pub in_order : (h : ℕ) → AreInOrder (own_steps h steps.pending)
  pub room : weight steps ≤ vec_capacity account.kept
  pub few : weight steps < 2 ^ 63

-- the machine has made a step from some world, and the account has steps, in order, as before it
pub record WasTracked (machine : Machine) (account : Account) (step : SeenStep) : Type 0 where
  pub marks : List (List ℕ)
  pub world : World
  pub stepped : HasStepped (program_in machine) marks machine step world
  pub has : HasSteps machine account

-- machine and account are at a world and at steps, in order, with room for one more step
pub record TracksWorld (machine : Machine) (account : Account) (w : World) (s : Steps) : Type 0 where
  pub stands : RepresentsMachine machine w
  pub sound : IsWellFormedWorld w
  pub steps : AccountInv account s
  pub ordered : AreOrdered w.log w.words s
  pub room : weight s + 1 ≤ vec_capacity account.kept
  pub few : weight s + 1 < 2 ^ 63

-- tables are those of some marks, and machine and account are at some world and at some steps
pub record IsTrackerReady (tables : List SignTable) (machine : Machine) (account : Account) : Type 0 where
  pub marks : List (List ℕ)
  pub tables_are : AreTables tables (program_in machine) marks
  pub world : World
  pub steps : Steps
  pub at : TracksWorld machine account world steps

-- counts for so many harts, with room for one more
pub record HasCounts (counts : Counts) (harts : ℕ) : Type 0 where
  pub points : length counts.points.items ≡ harts
  pub fences : length counts.fences.items ≡ harts
  pub few_points : (h : ℕ) → h < harts → slice_index counts.points.items h < 2 ^ 63
  pub few_fences : (h : ℕ) → h < harts → slice_index counts.fences.items h < 2 ^ 63

-- each hart's count has grown by one where it did what is counted
pub record AreCounted (old new : List ℕ) (does : ℕ → Bool) : Type 0 where
  pub size : length new ≡ length old
  pub each : (h : ℕ) → h < length old → slice_index new h ≡ slice_index old h + (if does h then 1 else 0)

-- both counts have, of an event at a world
pub record HaveCounted (old new : Counts) (program : List (List Slot)) (w : World) (event : Event) : Type 0 where
  pub points : AreCounted old.points.items new.points.items (λ h. stores_point program w event h)
  pub fences : AreCounted old.fences.items new.fences.items (λ h. finishes_fence program w event h)
