-- What is true of a machine that runs a compiled program, at each moment: it simulates an abstract run of the source.
use Rattle.std.specs.Prelude.{◌≡◌, ◌≢◌, ◌⊎◌, ℕ, ◌<◌, [], length, slice_get, Some, None}
use Rattle.machine_model.specs.Machine.{World}
use Rattle.machine_model.specs.Frames.{IsWellFormedWorld}
use Rattle.flow_graph.specs.Actions.{FlowState}
use Rattle.recovery_semantics.specs.VariableSpots.{memory_in}
use Rattle.log_states.specs.Logs.{Record}
use Rattle.hart_runs.specs.Laws.{AreShort}
use Rattle.recovered_threads.specs.RecoveryStates.{AreGathering, AreGathered}
use Rattle.crash_simulation.specs.Systems.{System, IsSystem, flat_of, places_of, thread_count}
use Rattle.crash_simulation.specs.AbstractRuns.{AbstractRun, now_of}
use Rattle.crash_simulation.specs.ThreadGhosts.{ThreadGhost, ThreadInv, HasCommittedLog}

-- ---- Locks

-- the thread has unlocked the mutex, which nobody has since, and has still to give it back
pub record IsGiving (ghosts : ℕ → ThreadGhost) (now : FlowState) (lock thread : ℕ) : Type 0 where
  pub exists : thread < length now.graph_threads
  pub free : slice_get now.holders lock ≡ Some None
  pub gives : (ghosts thread).giving ≡ Some lock

-- harts hold the mutexes that their threads have, and those that are being given back
pub record AreHeld (w : World) (ghosts : ℕ → ThreadGhost) (now : FlowState) : Type 0 where
  pub held : (lock thread : ℕ) → slice_get w.holders lock ≡ Some (Some thread) →
      (slice_get now.holders lock ≡ Some (Some thread)) ⊎ IsGiving ghosts now lock thread
  pub holds : (lock thread : ℕ) → slice_get now.holders lock ≡ Some (Some thread) → slice_get w.holders lock ≡ Some (Some thread)
  -- a mutex that is being given back is the thread's until then
  pub giving : (lock thread : ℕ) → thread < length now.graph_threads → (ghosts thread).giving ≡ Some lock → slice_get w.holders lock ≡ Some (Some thread)
  -- its thread has unlocked a mutex that is being given back, and not taken it again
  pub given : (lock thread : ℕ) → thread < length now.graph_threads → (ghosts thread).giving ≡ Some lock → slice_get now.holders lock ≢ Some (Some thread)

-- the records of all threads
abbrev pub records_of : (ℕ → ThreadGhost) → ℕ → Record
records_of ghosts thread = (ghosts thread).new

-- after a crash harts gather what their records have, before any goes on
pub data AreLocked (y : System) (w : World) (b : AbstractRun y) (ghosts : ℕ → ThreadGhost) : Type 0 where
  gathering : b.config.uncommitted ≡ [] → AreGathering w (records_of ghosts) → AreLocked y w b ghosts
  gathered : AreGathered w (records_of ghosts) → AreHeld w ghosts (now_of y b) → AreLocked y w b ghosts

-- ---- The machine

-- it has the system's harts, log and mutexes, it is well formed, and what its harts have queued is short
pub record IsMachineOf (y : System) (w : World) : Type 0 where
  pub count : length w.harts ≡ thread_count y
  pub log : y.plan.log ≡ w.log
  pub mutexes : length w.holders ≡ length (flat_of y).mutexes
  pub sound : IsWellFormedWorld w
  pub short : AreShort w

-- memory is that of the abstract run's config, and each thread is where its graph thread is; boundaries that are committed are taken so, but of the
-- threads whose commit is still to be taken
pub record SimulatesBut (y : System) (s : IsSystem y) (w : World) (waiting : ℕ → Type 0) : Type 0 where
  pub machine : IsMachineOf y w
  pub abstract : AbstractRun y
  pub memory : memory_in (places_of y) w.words ≡ abstract.config.memory
  pub ghosts : ℕ → ThreadGhost
  pub each : (n : ℕ) (below : n < thread_count y) → ThreadInv y w abstract (s.codes.each n below) (ghosts n)
  pub locks : AreLocked y w abstract ghosts
  pub caught_up : (n : ℕ) (below : n < thread_count y) → (waiting n → ⊥) → HasCommittedLog y w abstract (s.codes.each n below) (ghosts n) (each n below)

abbrev pub nobody : ℕ → Type 0
nobody n = ⊥

abbrev pub anybody : ℕ → Type 0
anybody n = Unit {0}

-- the machine simulates an abstract run in which all boundaries that are committed are taken so
abbrev pub Simulates : (y : System) → IsSystem y → World → Type 0
Simulates y s w = SimulatesBut y s w nobody
