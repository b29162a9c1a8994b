-- A thread's log in a machine: how it stands at each moment, whatever happens.
use Rattle.std.specs.Prelude.{◌≡◌, ℕ, ◌<◌, List, [], ◌++◌, length, slice_get, Some}
use Rattle.log_schemes.specs.declared.log.Log.{Log}
use Rattle.machine_events.specs.declared.event.Event.TheVariants.{Step, Evict, Crash}
use Rattle.machine_events.specs.declared.event.Reply.TheVariants.{Moved, Drained}
use Rattle.rv64_isa.specs.declared.object.Slot.{Slot}
use Rattle.rv64_isa.specs.Rows.{Effect}
use Rattle.machine_model.specs.Machine.{Hart, World, after_event, reply_to, start_of}
use Rattle.machine_model.specs.Frames.{IsWellFormedWorld}
use Rattle.operator_code.specs.StraightLineCode.{seen}
use Rattle.boundary_code.specs.Boundaries.{Boundary, boundary_effects}
use Rattle.log_states.specs.Logs.{AreNamed, Record, nothing_recorded}
use Rattle.log_states.specs.Stages.{LogIs, left_by_crash}
use Rattle.log_states.specs.Machines.{config_of, IsNext, IsElsewhere}
use Rattle.log_states.specs.Laws.{recorded_by, FrameIsComing, IsRecoverable, IsAtRecord}

-- the thread's hart is there, and its log on its way from the one record to the other, with these effects still to be made; with none
-- it has the other record
pub record LogInv (thread : ℕ) (old new : Record) (w : World) (rest : List Effect) : Type 0 where
  pub hart : Hart
  pub here : slice_get w.harts thread ≡ Some hart
  pub log : LogIs w.log thread old new (config_of w hart rest)

-- the log's way from the one record to the other
pub record Passage : Type 0 where
  pub thread : ℕ
  pub old : Record
  pub new : Record

abbrev pub passage : (thread : ℕ) → (old new : Record) → Passage
passage thread old new = record { thread = thread; old = old; new = new }

-- what a step of the thread's own hart in a boundary does, where its instruction is this much of what is to be made
pub data Advances (program : List (List Slot)) (p : Passage) (w : World) (made later : List Effect) : Type 0 where
  Completes : reply_to program w (Step p.thread) ≡ Moved → LogInv p.thread p.old p.new (after_event program w (Step p.thread)) later →
      Advances program p w made later
  -- an entry is written back first
  WritesBack : reply_to program w (Step p.thread) ≡ Drained → LogInv p.thread p.old p.new (after_event program w (Step p.thread)) (made ++ later) →
      Advances program p w made later

-- ---- Laws

-- at the start
abbrev pub StartsStanding : Type 0
StartsStanding = (log : Log) (program : List (List Slot)) (locks thread : ℕ) (initial : List ℕ) → thread < length program →
    LogInv thread nothing_recorded nothing_recorded (start_of log program locks initial) []

-- a boundary begins
abbrev pub BeginsStanding : Type 0
BeginsStanding = (b : Boundary) (framed : List ℕ) (frame : ℕ → ℕ) (older old : Record) (side resume : ℕ) (x : List ℕ) (w : World) → b.log ≡ w.log →
    (s : LogInv b.thread older old w []) → IsAtRecord w.log old side x → IsRecoverable b resume x → FrameIsComing b framed frame w.words s.hart.queue →
    LogInv b.thread old (recorded_by b framed frame side resume x) w (boundary_effects b side resume x)

-- an instruction of it
abbrev pub OwnStepsKeep : Type 0
OwnStepsKeep =
    (program : List (List Slot)) (thread : ℕ) (old new : Record) (w : World) (hart : Hart) (effect : Effect) (later : List Effect) → IsWellFormedWorld w →
    IsNext program w thread hart effect → LogInv thread old new w (seen hart.pc effect ++ later) →
    Advances program (passage thread old new) w (seen hart.pc effect) later

-- any other step of any hart
abbrev pub StepsKeep : Type 0
StepsKeep = (program : List (List Slot)) (named : List ℕ) (g thread : ℕ) (old new : Record) (w : World) (rest : List Effect) → IsWellFormedWorld w →
    LogInv thread old new w rest → AreNamed named old → AreNamed named new → IsElsewhere program w named g thread →
    LogInv thread old new (after_event program w (Step g)) rest

abbrev pub EvictionsKeep : Type 0
EvictionsKeep = (program : List (List Slot)) (line mask thread : ℕ) (old new : Record) (w : World) (rest : List Effect) → LogInv thread old new w rest →
    LogInv thread old new (after_event program w (Evict line mask)) rest

-- a crash leaves what it leaves
abbrev pub CrashesStanding : Type 0
CrashesStanding = (program : List (List Slot)) (thread : ℕ) (old new : Record) (w : World) (rest : List Effect) → length program ≡ length w.harts →
    (s : LogInv thread old new w rest) →
    LogInv thread nothing_recorded (left_by_crash w.log thread old new (config_of w s.hart rest)) (after_event program w Crash) []
