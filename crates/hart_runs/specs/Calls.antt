-- A hart at a call, and in recovery.
use Rattle.std.specs.Prelude.{◌≡◌, ◌≢◌, ℕ, ◌<◌, List, length, slice_get, Option, Some, None, true, false, ◌&&◌, if◌then◌else◌}
use Rattle.machine_events.specs.declared.event.Event.TheVariants.{Step}
use Rattle.machine_events.specs.declared.event.Reply.TheVariants.{Waits, Barrier}
use Rattle.ido_base.specs.Locks.{has_lock, holds_none, least_held}
use Rattle.rv64_isa.specs.declared.instr.Instr.TheVariants.{Ecall}
use Rattle.rv64_isa.specs.declared.object.Slot.{Slot}
use Rattle.machine_model.specs.declared.phase.Phase.{Phase}
use Rattle.machine_model.specs.declared.phase.Phase.TheVariants.{Take, Wait, Resume, Run, Done}
use Rattle.rv64_isa.specs.Rows.{read}
use Rattle.machine_model.specs.Machine.{Hart, World, with_holder, moved, happens, after_event, record_of, durable_point, resume_of, resumed_registers}
use Rattle.machine_model.specs.Schedule.{is_running}
use Rattle.code_runs.specs.ComputingRuns.{config}
use Rattle.hart_runs.specs.HartsOnRuns.{instr_at, Agrees, IsRunningAt, OnRun}

-- ---- Calls: 1 acquires a lock, 2 releases it, 3 ends

-- hart h stands at a call of that number
pub record IsAtCall (program : List (List Slot)) (w : World) (h number : ℕ) : Type 0 where
  pub hart : Hart
  pub here : slice_get w.harts h ≡ Some hart
  pub runs : hart.phase ≡ Run
  pub calls : instr_at program h hart.pc ≡ Some Ecall
  pub asks : read hart.registers 17 ≡ number

-- the lock that it is about
abbrev pub lock_asked : Hart → ℕ
lock_asked hart = read hart.registers 10

-- the phase of hart h after a release that leaves the locks with these holders
abbrev pub phase_after : World → (h : ℕ) → (holders : List (Option ℕ)) → Phase
phase_after w h holders = if w.recovering && holds_none holders h then Done else Run

-- ---- Recovery

-- hart h is in that phase
pub record IsInPhase (w : World) (h : ℕ) (phase : Phase) : Type 0 where
  pub hart : Hart
  pub here : slice_get w.harts h ≡ Some hart
  pub phase_is : hart.phase ≡ phase

-- a lock of the thread's record, and the hart that holds it, or none
pub record IsRecorded (w : World) (h lock : ℕ) (holder : Option ℕ) : Type 0 where
  pub among : has_lock (record_of w.log w.words h) lock ≡ true
  pub there : slice_get w.holders lock ≡ Some holder

-- a step of a hart that takes locks
pub data TakesLocks (program : List (List Slot)) (w : World) (h : ℕ) (hart : Hart) : Type 0 where
  -- the hart holds all locks that are in its record
  has_all : ((lock : ℕ) (holder : Option ℕ) → IsRecorded w h lock holder → holder ≡ Some h) →
      happens program w (Step h) ≡ moved w h (record hart { phase = Wait }) → TakesLocks program w h hart
  -- the hart takes a lock of its record that is free
  takes_one : (lock : ℕ) → IsRecorded w h lock None → happens program w (Step h) ≡ moved (with_holder w lock (Some h)) h hart → TakesLocks program w h hart
  -- another hart holds a lock of its record
  is_kept_from : (lock g : ℕ) → IsRecorded w h lock (Some g) → g ≢ h → happens program w (Step h) ≡ (w, Waits lock g) → TakesLocks program w h hart

-- a step of a hart that waits for the others to take theirs
pub data AwaitsOthers (program : List (List Slot)) (w : World) (h : ℕ) (hart : Hart) : Type 0 where
  -- no hart takes locks any more
  all_have : ((g : ℕ) → ¬ (IsInPhase w g Take)) → happens program w (Step h) ≡ moved w h (record hart { phase = Resume }) → AwaitsOthers program w h hart
  -- a hart still takes locks
  one_takes : (g : ℕ) → IsInPhase w g Take → happens program w (Step h) ≡ (w, Barrier g) → AwaitsOthers program w h hart

-- a step that resumes a hart: it executes instructions from its resume address on, with the registers of its bank
pub record ResumesHart (program : List (List Slot)) (w : World) (h : ℕ) (hart : Hart) : Type 0 where
  pub after : Hart
  pub does : happens program w (Step h) ≡ moved w h after
  pub runs : after.phase ≡ Run
  pub pc : after.pc ≡ resume_of (durable_point w.log w.words h)
  pub count : length after.registers ≡ 32
  pub registers : after.registers ≡ resumed_registers w.log w.words h
  pub queue : after.queue ≡ hart.queue
  -- the hart begins a run from its resume address
  pub at : IsRunningAt (after_event program w (Step h)) h (config after.registers (resume_of (durable_point w.log w.words h)))

-- ---- Where no hart is stuck

-- hart h doesn't execute instructions; or it stands on a run before its end; or at a call that it may make: an acquire of a lock that is there, a
-- release of one that it holds, or an end while it holds nothing
pub data IsWell (program : List (List Slot)) (w : World) (h : ℕ) : Type 0 where
  apart : (phase : Phase) → is_running phase ≡ false → IsInPhase w h phase → IsWell program w h
  on_run : (run : OnRun w h) → Agrees program w h run.environment → IsWell program w h
  at_acquire : (a : IsAtCall program w h 1) (holder : Option ℕ) → slice_get w.holders (lock_asked a.hart) ≡ Some holder → IsWell program w h
  at_release : (a : IsAtCall program w h 2) → slice_get w.holders (lock_asked a.hart) ≡ Some (Some h) → IsWell program w h
  at_end : IsAtCall program w h 3 → least_held w.holders h ≡ None → IsWell program w h
