-- A step of a hart that executes instructions: what it is to its own thread, and all that the others need to know of it.
use Rattle.std.specs.Prelude.{◌≡◌, ◌≢◌, ◌⊎◌, ℕ, suc, ◌/◌, ◌<◌, slice_get, ℤ, Option, Some, is_some, Bool, true, false, not, ◌&&◌, ◌==◌, if◌then◌else◌}
use Rattle.c_tree.specs.Exprs.{LockName}
use Rattle.machine_events.specs.declared.event.Event.TheVariants.{Step}
use Rattle.machine_events.specs.declared.event.Reply.TheVariants.{Waits}
use Rattle.ido_base.specs.Layout.{variable_at, byte_number}
use Rattle.log_schemes.specs.Layout.{log_words}
use Rattle.ido_ints.specs.Kinds.{bytes_of}
use Rattle.c_tree.specs.Programs.{Variable}
use Rattle.c_tree.specs.WellFormed.{elements_in}
use Rattle.c_tree.specs.Source.{State}
use Rattle.source_machine.specs.Discipline.{Guards}
use Rattle.source_machine.specs.Mutexes.{unlocks}
use Rattle.machine_model.specs.declared.phase.Phase.TheVariants.{Run, Done, Ended}
use Rattle.rv64_isa.specs.Rows.{Effect, Stores}
use Rattle.machine_model.specs.Machine.{Hart, World, after_event, happens}
use Rattle.machine_model.specs.Schedule.{passes_mark, stores_point, finishes_fence, releases_last}
use Rattle.crash_simulation.specs.Accesses.{first_access_after}
use Rattle.crash_simulation.specs.StorePositions.{last_store_after}
use Rattle.flow_graph.specs.Nodes.{Lock, Node}
use Rattle.flow_graph.specs.IdempotentCuts.{IsChosen}
use Rattle.flow_graph.specs.Liveness.{NodeAt}
use Rattle.region_attempts.specs.GraphStates.{node_of}
use Rattle.hart_runs.specs.Calls.{IsInPhase}
use Rattle.thread_runs.specs.CodeFragments.{ExitPoint, Computes, Asks, Gives, Ends}
use Rattle.recovery_semantics.specs.Configs.{Config, now}
use Rattle.recovery_semantics.specs.Events.{ConfigStep, steps_begun, steps_locally, stores, synchronises, persists, commits, crashes}
use Rattle.recovery_semantics.specs.Executions.{Execution}
use Rattle.recovery_semantics.specs.VariableSpots.{memory_in}
use Rattle.region_attempts.specs.AttemptsInRegion.{RespectsAll}
use Rattle.log_states.specs.Logs.{log_word}
use Rattle.log_states.specs.Stages.{is_store}
use Rattle.log_states.specs.Machines.{IsNext}
use Rattle.crash_simulation.specs.Systems.{System, IsSystem, flat_of, shapes_of, places_of, thread_count}
use Rattle.crash_simulation.specs.AbstractRuns.{AbstractRun, now_of}
use Rattle.crash_simulation.specs.BoundaryFences.{boundary_fences, AreFencesCounted}
use Rattle.crash_simulation.specs.ThreadGhosts.{ThreadGhost, InFragment, AtCore, AtPast, ThreadInv, tells_write}
pub use Rattle.crash_simulation.specs.ThreadGhosts.{is_bound}
use Rattle.crash_simulation.specs.SimulationRelation.{AreLocked, SimulatesBut, Simulates, anybody}

-- what happens is a step of the thread, or more is durable
abbrev pub IsDoneBy : (thread : ℕ) → {m next : Config} → ConfigStep m next → Type 0
IsDoneBy thread (steps_locally u attempts h) = u ≡ thread
IsDoneBy thread (stores u memory attempts h) = u ≡ thread
IsDoneBy thread (synchronises u h) = u ≡ thread
IsDoneBy thread (persists memory h) = Unit {0}
IsDoneBy thread (commits u attempts h) = ⊥
IsDoneBy thread (crashes attempts h) = ⊥

-- the abstract run with the next config, and with the same kept state
abbrev pub abstract_next : (y : System) → (b : AbstractRun y) → (next : Config) → (execution : Execution (flat_of y) b.origin.source next b.schedule) →
    RespectsAll (flat_of y) y.plan.boundaries b.origin execution → AbstractRun y
abstract_next y b next execution respects = record { origin = b.origin; config = next; schedule = b.schedule; execution = execution; respects = respects }

-- nothing happens to the source, or one thing does that keeps no step
pub data StepsOrStutters (y : System) (b : AbstractRun y) (thread : ℕ) : AbstractRun y → Type 0 where
  stays : StepsOrStutters y b thread b
  goes : (next : Config) (h : ConfigStep b.config next) → IsDoneBy thread h → (execution : Execution (flat_of y) b.origin.source next b.schedule)
      (respects : RespectsAll (flat_of y) y.plan.boundaries b.origin execution) → StepsOrStutters y b thread (abstract_next y b next execution respects)

-- the thread may make the effect: it stores to its own log, or to an element that it guards, or nothing
pub data MayStore (y : System) (b : AbstractRun y) (thread : ℕ) : Effect → Type 0 where
  nothing : (effect : Effect) → is_store effect ≡ false → MayStore y b thread effect
  in_log : (address value i : ℕ) → i < log_words y.plan.log → byte_number address / 8 ≡ log_word y.plan.log thread i →
      MayStore y b thread (Stores address 8 value)
  element : (variable number value : ℕ) (is : Variable) → slice_get (flat_of y).variables variable ≡ Some is → number < elements_in is.length →
      Guards (flat_of y) (now b.config) thread variable number →
      MayStore y b thread (Stores (variable_at (shapes_of y) variable number) (bytes_of is.kind) value)

-- the thread's ghost state is that one
abbrev pub with_ghost : (ℕ → ThreadGhost) → (thread : ℕ) → ThreadGhost → ℕ → ThreadGhost
with_ghost ghosts thread ghost n = if n == thread then ghost else ghosts n

-- ---- What is counted of it

-- a step of the source is begun
abbrev pub is_begun : {m next : Config} → ConfigStep m next → Bool
is_begun (steps_locally u attempts h) = true
is_begun (stores u memory attempts h) = true
is_begun (synchronises u h) = true
is_begun (persists memory h) = false
is_begun (commits u attempts h) = false
is_begun (crashes attempts h) = false

abbrev pub begins : {y : System} {b : AbstractRun y} {thread : ℕ} {next : AbstractRun y} → StepsOrStutters y b thread next → Bool
begins stays = false
begins (goes next h by execution respects) = is_begun h

-- the thread has a mutex still to give back: it had before, and begins no step; or the step that it begins unlocks the mutex
pub data IsUnlocked (s : State) (thread : ℕ) (begun : Bool) (giving : Option ℕ) (mutex : ℕ) : Type 0 where
  was_unlocked : begun ≡ false → giving ≡ Some mutex → IsUnlocked s thread begun giving mutex
  begins_unlock : begun ≡ true → unlocks s thread ≡ Some mutex → IsUnlocked s thread begun giving mutex

-- by the step the hart passes a mark, or it waits for a mutex, is one step nearer to its mark, or stops
pub data Nears (y : System) (w : World) (h : ℕ) (passes : Bool) (old new : ℕ) : Type 0 where
  begins_step : passes ≡ true → Nears y w h passes old new
  waits : (mutex holder : ℕ) → happens y.runs.program w (Step h) ≡ (w, Waits mutex holder) → new ≡ old → Nears y w h passes old new
  is_nearer : old ≡ suc new → Nears y w h passes old new
  halts : (hart : Hart) → slice_get (after_event y.runs.program w (Step h)).harts h ≡ Some hart → (hart.phase ≡ Done) ⊎ (hart.phase ≡ Ended) →
      Nears y w h passes old new

-- a boundary stands before the node by choice exactly where so is told
abbrev pub IsTold : System → (node : ℕ) → (told : Bool) → Type 0
IsTold y node told = (IsChosen y.plan.graph y.plan.boundaries node → told ≡ true) × (¬ (IsChosen y.plan.graph y.plan.boundaries node) → told ≡ false)

-- the step passes a mark exactly where a step of the source is begun, unless the thread is late, and stores the thread's point exactly where the steps
-- become bound to that; what it finishes of fences its boundary has no more ahead
pub record IsCounted (y : System) (w : World) (b : AbstractRun y) (h : ℕ) (begun : Bool) (old new : ThreadGhost) : Type 0 where
  pub late : new.late ≡ old.late
  pub marks : old.late ≡ false → passes_mark y.runs.marks y.runs.program w h ≡ begun
  pub unlocked : (mutex : ℕ) → new.giving ≡ Some mutex → IsUnlocked (now b.config) h begun old.giving mutex
  pub points : stores_point y.runs.program w (Step h) h ≡ (not (is_bound old) && is_bound new)
  pub bound : is_bound old ≡ true → is_bound new ≡ true
  pub fences : AreFencesCounted (boundary_fences y.plan.log) (finishes_fence y.runs.program w (Step h) h) (stores_point y.runs.program w (Step h) h)
      old.rest new.rest
  pub nears : Nears y w h (passes_mark y.runs.marks y.runs.program w h) old.before_mark new.before_mark
  -- what the kept record tells of a write stays, and is right of the node where the first step of an attempt is begun
  pub told : tells_write new ≡ tells_write old
  pub begins_told : old.late ≡ false → begun ≡ true → steps_begun b.config h ≡ 0 → (node : ℕ) →
      node_of (now_of y b) h ≡ Some node → IsTold y node (tells_write old)
  -- a store is the last one then
  pub last : (word : ℕ) → new.last_stores word ≡ last_store_after y.runs.program w (Step h) h word (old.last_stores word)
  -- and an access the first one, if there was none
  pub accesses : (byte : ℕ) → new.first_accesses byte ≡ first_access_after y.runs.program w (Step h) h byte (old.first_accesses byte)

-- ---- What it releases

-- the mutex that ends a section is unlocked in what is kept, and still to be given back
abbrev pub is_leaving : ThreadGhost → Bool
is_leaving c = c.committed && (is_some c.giving && (c.new.point == 0))

-- the step gives that back, or it releases no hart's last one
pub data Releases (y : System) (w : World) (h : ℕ) (old new : ThreadGhost) : Type 0 where
  nothing_released : releases_last y.runs.program w (Step h) h ≡ false → is_leaving new ≡ is_leaving old → Releases y w h old new
  last_released : releases_last y.runs.program w (Step h) h ≡ true → is_leaving old ≡ true → is_leaving new ≡ false → Releases y w h old new

pub record OwnStep (y : System) (s : IsSystem y) (w : World) (h : ℕ) (stands : Simulates y s w) : Type 0 where
  pub below : h < thread_count y
  pub next : AbstractRun y
  pub led : StepsOrStutters y stands.abstract h next
  pub memory : memory_in (places_of y) (after_event y.runs.program w (Step h)).words ≡ next.config.memory
  pub stores_own : (hart : Hart) (effect : Effect) → IsNext y.runs.program w h hart effect → MayStore y stands.abstract h effect
  pub ghost : ThreadGhost
  pub own : ThreadInv y (after_event y.runs.program w (Step h)) next (s.codes.each h below) ghost
  pub locks : AreLocked y (after_event y.runs.program w (Step h)) next (with_ghost stands.ghosts h ghost)
  pub counted : IsCounted y w stands.abstract h (begins led) (stands.ghosts h) ghost
  pub released : Releases y w h (stands.ghosts h) ghost

-- ---- By where the hart is

-- a fragment whose end is where the hart makes a call
pub data IsCalling : ExitPoint → Type 0 where
  asks : (mutex next : ℕ) → IsCalling (Asks mutex next)
  gives : (from mutex : ℕ) → IsCalling (Gives from mutex)
  ends : IsCalling Ends

-- a hart of a machine that simulates an abstract run
pub record Site (y : System) (s : IsSystem y) (w : World) (h : ℕ) : Type 0 where
  pub stands : Simulates y s w
  pub below : h < thread_count y

module _ {y : System} {s : IsSystem y} {w : World} {h : ℕ} (site : Site y s w h) where
  -- its thread
  abbrev pub thread_of : ThreadInv y w site.stands.abstract (s.codes.each h site.below) (site.stands.ghosts h)
  thread_of = site.stands.each h site.below

  abbrev pub OnFragmentNow : ExitPoint → (steps : ℕ) → Type 0
  OnFragmentNow = InFragment y w site.stands.abstract (s.codes.each h site.below) (site.stands.ghosts h) thread_of.log.hart thread_of.graph_thread

  abbrev pub AtCoreNow : Type 0
  AtCoreNow = AtCore y w site.stands.abstract (s.codes.each h site.below) (site.stands.ghosts h) thread_of.log.hart thread_of.graph_thread

  abbrev pub AtPastNow : Type 0
  AtPastNow = AtPast y w site.stands.abstract (s.codes.each h site.below) (site.stands.ghosts h) thread_of.log.hart thread_of.graph_thread

  -- it stores a local outside sections, whose number is computed; or once more that of a logged assignment which its thread is past
  pub data StoresLocal : Type 0 where
    outside : (from local : ℕ) (number : ℤ) → OnFragmentNow (Computes from local number) 0 → StoresLocal
    again : AtPastNow → StoresLocal

  -- where a hart in Run makes its step: in a fragment, at its end where it calls, where it stores a local, or at the code of a node that takes no mutex
  pub data IsReadyToStep : Type 0 where
    on_fragment : (exit : ExitPoint) (steps : ℕ) → OnFragmentNow exit (suc steps) → IsReadyToStep
    calls : (exit : ExitPoint) → OnFragmentNow exit 0 → IsCalling exit → IsReadyToStep
    stores_local : StoresLocal → IsReadyToStep
    at_core : AtCoreNow → ((is : Node) (lock : LockName) (next : ℕ) → NodeAt y.plan.graph thread_of.graph_thread.at is → is.action ≢ Lock lock next) →
        IsReadyToStep

-- whether the thread's steps are bound, whether it leaves a section, what it has to give back, how near its hart is to the next mark, where that has
-- stored last, what it has done to each byte first, what the kept record tells of a write, and whether it is late, are the same
pub record SaysSame (new old : ThreadGhost) : Type 0 where
  pub bound : is_bound new ≡ is_bound old
  pub leaving : is_leaving new ≡ is_leaving old
  pub giving : new.giving ≡ old.giving
  pub ahead : new.before_mark ≡ old.before_mark
  pub last : new.last_stores ≡ old.last_stores
  pub accesses : new.first_accesses ≡ old.first_accesses
  pub told : tells_write new ≡ tells_write old
  pub late : new.late ≡ old.late

-- two machines simulate the same abstract run, and the same is said of each thread
pub record AreSimilar (y : System) (s : IsSystem y) {w v : World} (old : Simulates y s w) (new : Simulates y s v) : Type 0 where
  pub abstract : new.abstract ≡ old.abstract
  pub same : (n : ℕ) → SaysSame (new.ghosts n) (old.ghosts n)
  pub fences : (n : ℕ) → AreFencesCounted (boundary_fences y.plan.log) false false (old.ghosts n).rest (new.ghosts n).rest

-- the machine simulates the same abstract run, and the hart is ready
pub record SimulatesReady (y : System) (s : IsSystem y) (w : World) (h : ℕ) (old : Simulates y s w) : Type 0 where
  pub site : Site y s w h
  pub similar : AreSimilar y s old site.stands
  pub ready : IsReadyToStep site

-- ---- What is proved of each

-- a hart in Run may be taken to be ready
abbrev pub RunsReady : Type 0
RunsReady = (y : System) (s : IsSystem y) (w : World) (h : ℕ) (stands : Simulates y s w) → IsInPhase w h Run → SimulatesReady y s w h stands

abbrev pub FragmentsStep : Type 0
FragmentsStep = (y : System) (s : IsSystem y) (w : World) (h : ℕ) (site : Site y s w h) → IsInPhase w h Run → (exit : ExitPoint) (steps : ℕ) →
    OnFragmentNow site exit (suc steps) → OwnStep y s w h site.stands

abbrev pub CoresStep : Type 0
CoresStep = (y : System) (s : IsSystem y) (w : World) (h : ℕ) (site : Site y s w h) → IsInPhase w h Run → AtCoreNow site →
    ((is : Node) (lock : LockName) (next : ℕ) → NodeAt y.plan.graph (thread_of site).graph_thread.at is → is.action ≢ Lock lock next) →
    OwnStep y s w h site.stands

abbrev pub CallsStep : Type 0
CallsStep = (y : System) (s : IsSystem y) (w : World) (h : ℕ) (site : Site y s w h) → IsInPhase w h Run → (exit : ExitPoint) → OnFragmentNow site exit 0 →
    IsCalling exit → OwnStep y s w h site.stands

abbrev pub LocalStoresStep : Type 0
LocalStoresStep = (y : System) (s : IsSystem y) (w : World) (h : ℕ) (site : Site y s w h) → IsInPhase w h Run → StoresLocal site → OwnStep y s w h site.stands

-- where a step of a hart that executes instructions is one of its thread's own, the machine simulates an abstract run after it, with commits still to be taken
abbrev pub OwnStepsSimulate : Type 0
OwnStepsSimulate = (y : System) (s : IsSystem y) (w : World) (h : ℕ) (stands : Simulates y s w) → IsInPhase w h Run → OwnStep y s w h stands →
    SimulatesBut y s (after_event y.runs.program w (Step h)) anybody
