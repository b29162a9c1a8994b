-- A machine in recovery, until its harts have gone on.
use Rattle.std.specs.Prelude.{◌≡◌, ◌≢◌, ℕ, ◌<◌, List, [], length, slice_get, Option, Some, true}
use Rattle.std.specs.List.{Contains}
use Rattle.machine_events.specs.declared.event.Event.{Event}
use Rattle.machine_events.specs.declared.event.Event.TheVariants.{Step}
use Rattle.machine_events.specs.declared.event.Reply.TheVariants.{Moved, Barrier}
use Rattle.ido_base.specs.Locks.{has_lock}
use Rattle.rv64_isa.specs.declared.object.Slot.{Slot}
use Rattle.machine_model.specs.declared.phase.Phase.{Phase}
use Rattle.machine_model.specs.declared.phase.Phase.TheVariants.{Take, Wait, Resume, Run, Done, Ended}
use Rattle.machine_model.specs.Machine.{Hart, World, moved, happens, after_event, reply_to, resume_of}
use Rattle.flow_graph.specs.Actions.{FlowState, seen_by}
use Rattle.log_states.specs.Logs.{IsDurable, Record, frame_in, nothing_recorded, side_of}
use Rattle.log_states.specs.Laws.{IsAtRecord}
use Rattle.log_states.specs.Machines.{IsElsewhere}
use Rattle.log_states.specs.LogInvariant.{LogInv}
use Rattle.code_runs.specs.ComputingRuns.{config}
use Rattle.hart_runs.specs.Calls.{IsInPhase}
use Rattle.hart_runs.specs.HartsOnRuns.{IsRunningAt}
use Rattle.thread_code.specs.Plans.{Plan}
use Rattle.thread_code.specs.RegistersAtNodes.{IsReady, LogView}
use Rattle.recovered_threads.specs.RecordDescriptions.{Code, IsCountedWord, IsInside, IsPastAssignment, MayGoOn, locks_of, the_core, words_in}

-- the hart holds all locks of the record that there are
abbrev pub HoldsAll : World → (h : ℕ) → Record → Type 0
HoldsAll w h r = (lock : ℕ) (holder : Option ℕ) → slice_get w.holders lock ≡ Some holder → has_lock (locks_of r) lock ≡ true → holder ≡ Some h

-- the hart holds no locks but those of the record
abbrev pub HoldsOnly : World → (h : ℕ) → Record → Type 0
HoldsOnly w h r = (lock : ℕ) → slice_get w.holders lock ≡ Some (Some h) → has_lock (locks_of r) lock ≡ true

-- the log of the hart's thread has the record, and no boundary is under way
abbrev pub HasRecord : World → (h : ℕ) → Record → Type 0
HasRecord w h r = LogInv h nothing_recorded r w []

-- ---- As long as locks are gathered

-- a hart, by its phase: none goes on yet
abbrev pub Gathers : World → (h : ℕ) → Record → Phase → Type 0
Gathers w h r Take = r.point ≢ 0
Gathers w h r Wait = (r.point ≢ 0) × HoldsAll w h r
Gathers w h r Resume = ⊥
Gathers w h r Run = ⊥
Gathers w h r Done = r.point ≡ 0
Gathers w h r Ended = ⊥

-- there is a hart of that number, and its record has the lock
pub record IsOwn (w : World) (records : ℕ → Record) (lock h : ℕ) : Type 0 where
  pub exists : h < length w.harts
  pub has : has_lock (locks_of (records h)) lock ≡ true

pub record AreGathering (w : World) (records : ℕ → Record) : Type 0 where
  pub each : (h : ℕ) (hart : Hart) → slice_get w.harts h ≡ Some hart → Gathers w h (records h) hart.phase
  pub logs : (h : ℕ) → h < length w.harts → HasRecord w h (records h)
  -- whatever is held is in its holder's record
  pub held : (lock h : ℕ) → slice_get w.holders lock ≡ Some (Some h) → IsOwn w records lock h

-- ---- Once all are

-- a hart holds the locks of its record, and stands in a section
pub record IsRecoveredHart (w : World) (h : ℕ) (r : Record) : Type 0 where
  pub inside : r.point ≢ 0
  pub all : HoldsAll w h r
  pub only : HoldsOnly w h r
  pub log : HasRecord w h r

-- a hart, by its phase: of one that goes on nothing more is said
abbrev pub HasGathered : World → (h : ℕ) → Record → Phase → Type 0
HasGathered w h r Take = ⊥
HasGathered w h r Wait = IsRecoveredHart w h r
HasGathered w h r Resume = IsRecoveredHart w h r
HasGathered w h r Run = Unit {0}
HasGathered w h r Done = Unit {0}
HasGathered w h r Ended = Unit {0}

pub record AreGathered (w : World) (records : ℕ → Record) : Type 0 where
  pub each : (h : ℕ) (hart : Hart) → slice_get w.harts h ≡ Some hart → HasGathered w h (records h) hart.phase

-- harts gather the locks of their records, or all have gathered them
pub data AreRecovering (w : World) (records : ℕ → Record) : Type 0 where
  gathering : AreGathering w records → AreRecovering w records
  gathered : AreGathered w records → AreRecovering w records

-- ---- Steps

-- where the event is a step, it stores nothing to another hart's log
abbrev pub StoresApart : List (List Slot) → World → Event → Type 0
StoresApart program w event = (g h : ℕ) → event ≡ Step g → h ≢ g → IsElsewhere program w [] g h

-- a step of a hart that waits for the others: it is let through once none of them takes locks
pub data Awaits (program : List (List Slot)) (w : World) (records : ℕ → Record) (h : ℕ) : Type 0 where
  all_have : ((g : ℕ) → ¬ (IsInPhase w g Take)) → reply_to program w (Step h) ≡ Moved → IsInPhase (after_event program w (Step h)) h Resume →
      AreGathered (after_event program w (Step h)) records → Awaits program w records h
  one_takes : (g : ℕ) → IsInPhase w g Take → happens program w (Step h) ≡ (w, Barrier g) → Awaits program w records h

-- a thread's log as it was at the boundary of the record, but on the record's side
abbrev pub view_resumed : Record → LogView → LogView
view_resumed r view = record view { side = side_of r }

-- a step that resumes a thread: it goes on where its record says, as it may in the kept state
pub record ResumesThread {p : Plan} (program : List (List Slot)) (code : Code p) (kept : FlowState) (w : World) (hart : Hart) (r : Record) : Type 0 where
  pub told : IsInside p code kept r
  pub after : Hart
  pub does : happens program w (Step code.thread.number) ≡ moved w code.thread.number after
  pub runs : after.phase ≡ Run
  pub pc : after.pc ≡ resume_of r.point
  -- an address of the object's table
  pub listed : Contains code.program.resumes after.pc
  pub may : MayGoOn p code.thread told.graph_thread.at told.place (seen_by kept told.graph_thread) (view_resumed r told.view) told.owed after.registers
  -- each word of its frame on which it counts has its number, durably
  pub frame : (word : ℕ) → IsCountedWord p code.thread told.graph_thread.at told.place word →
      IsDurable (frame_in w.log w.words code.thread.number word) (words_in p.log code.thread.number told.view word)
  pub at_record : IsAtRecord w.log r (side_of r) after.registers
  pub queue : after.queue ≡ hart.queue
  -- a run begins from where the thread is resumed
  pub begins : IsRunningAt (after_event program w (Step code.thread.number)) code.thread.number (config after.registers after.pc)

-- a step that resumes a thread past a logged assignment: it goes on at the core of that
pub record ResumesLate {p : Plan} (program : List (List Slot)) (code : Code p) (kept : FlowState) (w : World) (hart : Hart) (r : Record) : Type 0 where
  pub told : IsPastAssignment p code kept r
  pub after : Hart
  pub does : happens program w (Step code.thread.number) ≡ moved w code.thread.number after
  pub runs : after.phase ≡ Run
  pub pc : after.pc ≡ resume_of r.point
  pub ready : IsReady p code.thread told.node (seen_by kept told.graph_thread) (view_resumed r told.view) told.owed after.registers
  pub frame : (word : ℕ) → IsCountedWord p code.thread told.node the_core word →
      IsDurable (frame_in w.log w.words code.thread.number word) (words_in p.log code.thread.number told.view word)
  pub at_record : IsAtRecord w.log r (side_of r) after.registers
  pub queue : after.queue ≡ hart.queue
  pub begins : IsRunningAt (after_event program w (Step code.thread.number)) code.thread.number (config after.registers after.pc)
