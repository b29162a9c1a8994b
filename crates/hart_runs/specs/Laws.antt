-- Laws of harts that stand on runs: what each event does to them.
use Rattle.std.specs.Prelude.{◌≡◌, ◌≢◌, ◌⊎◌, ℕ, suc, ◌+◌, ◌-◌, ◌*◌, ◌/◌, ◌<◌, ◌≤◌, List, [], ◌∷◌, ◌++◌, length, slice_get}
use Rattle.std.specs.Prelude.{slice_set, Option, Some, None, Bool, true, false, ◌==◌, ◌&&◌, if◌then◌else◌}
use Rattle.log_schemes.specs.declared.log.Log.{Log}
use Rattle.machine_events.specs.declared.event.Event.{Event}
use Rattle.machine_events.specs.declared.event.Event.TheVariants.{Step, Evict, Crash, Start}
use Rattle.machine_events.specs.declared.event.Reply.TheVariants.{Waits, Still, Stuck}
use Rattle.machine_events.specs.declared.event.Cause.{Cause}
use Rattle.ido_base.specs.Words.{Entry, stored, word_at, word_of, durable_value, last_position}
use Rattle.ido_base.specs.Layout.{byte_number, line_bytes}
use Rattle.ido_base.specs.Locks.{least_held}
use Rattle.ido_base.specs.Growth.{ArePersisted, PersistsThrough}
use Rattle.rv64_isa.specs.declared.object.Slot.{Slot}
use Rattle.machine_model.specs.declared.phase.Phase.{Phase}
use Rattle.machine_model.specs.declared.phase.Phase.TheVariants.{Take, Wait, Resume, Run, Done, Ended}
use Rattle.rv64_isa.specs.Rows.{Effect, Continues, Loads, Stores, Cleans, Fences, Calls}
use Rattle.rv64_isa.specs.Programs.{code_start, code_of}
use Rattle.machine_model.specs.Machine.{Hart, World, queue_limit, after_event, after_events, reply_to, happens, moved, with_holder}
use Rattle.machine_model.specs.Machine.{gone_on, start_of, after_crash_of, fresh_hart, phase_after_crash, durable_point}
use Rattle.machine_model.specs.Frames.{IsWellFormedWorld}
use Rattle.machine_model.specs.Schedule.{KeepsOn, has_moved, is_running, is_mark, is_point_store, is_fence, passes_mark, stores_point, finishes_fence}
use Rattle.code_runs.specs.ComputingRuns.{LocalConfig, config}
use Rattle.code_runs.specs.CodeTraces.{MarkedEnvironment, Observation, Trace, Program, Meets, Answers}
use Rattle.hart_runs.specs.HartsOnRuns.{environment_of, is_access, Agrees, MayGo, IsRunningAt, IsOnTrace, OnRun}
use Rattle.hart_runs.specs.RunSteps.{GoesForward, Drains, steps_left}
use Rattle.hart_runs.specs.Calls.{IsAtCall, lock_asked, phase_after, IsInPhase, TakesLocks, AwaitsOthers, ResumesHart, IsWell}

-- ---- Environments

-- the environment of a world agrees with it
abbrev pub EnvironmentsAgree : Type 0
EnvironmentsAgree = (program : List (List Slot)) (marks : List ℕ) (reads : ℕ → ℕ → Bool) (w : World) (h : ℕ) →
    Agrees program w h (environment_of program marks reads w h)

-- the code of a thread
abbrev pub program_at : List (List Slot) → (h : ℕ) → (marks resumes : List ℕ) → Program
program_at program h marks resumes = record { start = code_start program h; code = code_of program h; nodes = marks; resumes = resumes }

-- a thread's code is met in it
abbrev pub EnvironmentsMeet : Type 0
EnvironmentsMeet = (program : List (List Slot)) (marks resumes : List ℕ) (reads : ℕ → ℕ → Bool) (w : World) (h : ℕ) →
    Meets (program_at program h marks resumes) (environment_of program marks reads w h)

-- where another world agrees with it, that world's own answers with the same values
abbrev pub EnvironmentsAnswer : Type 0
EnvironmentsAnswer = (program : List (List Slot)) (marks : List ℕ) (reads : ℕ → ℕ → Bool) (w v : World) (h : ℕ) →
    Agrees program v h (environment_of program marks reads w h) →
    Answers (environment_of program marks reads w h) (environment_of program marks reads v h)

-- ---- The hart's own steps

-- A step completes the next instruction, or writes back an entry of the queue that it is held up by. So it is never stuck, and it waits for no lock.
abbrev pub StepsGoOn : Type 0
StepsGoOn = (program : List (List Slot)) (w : World) (h : ℕ) (run : OnRun w h) → Agrees program w h run.environment →
    GoesForward program w h run ⊎ Drains program w h run

-- ---- All other events

-- a step of another hart, or an eviction
abbrev pub IsOfOthers : (h : ℕ) → Event → Type 0
IsOfOthers h (Step g) = g ≢ h
IsOfOthers h (Evict line mask) = Unit {0}
IsOfOthers h Crash = ⊥
IsOfOthers h Start = ⊥

-- what others do leaves the hart as it is
abbrev pub OthersLeave : Type 0
OthersLeave = (program : List (List Slot)) (w : World) (h : ℕ) (event : Event) → IsWellFormedWorld w → IsOfOthers h event →
    (slice_get (after_event program w event).harts h ≡ slice_get w.harts h) × (length (after_event program w event).harts ≡ length w.harts)

-- a number of instructions that lead to a local config, and what is seen on the way
pub record Stretch : Type 0 where
  pub environment : MarkedEnvironment
  pub steps : ℕ
  pub seen : List Observation
  pub to : LocalConfig

abbrev pub stretch : MarkedEnvironment → (steps : ℕ) → (seen : List Observation) → (to : LocalConfig) → Stretch
stretch s steps seen to = record { environment = s; steps = steps; seen = seen; to = to }

-- the hart stands where it stood, on the same run
pub record IsOnSameTrace (v : World) (h : ℕ) (fragment : Stretch) (hart : Hart) : Type 0 where
  pub on : IsOnTrace v h fragment.environment fragment.steps fragment.seen fragment.to
  pub same : on.hart ≡ hart

abbrev pub OthersKeepRuns : Type 0
OthersKeepRuns = (program : List (List Slot)) (w : World) (h : ℕ) (event : Event) → IsWellFormedWorld w → IsOfOthers h event →
    (s : MarkedEnvironment) (steps : ℕ) (seen : List Observation) (to : LocalConfig) (on : IsOnTrace w h s steps seen to) →
    IsOnSameTrace (after_event program w event) h (stretch s steps seen to) on.hart

-- ---- What is counted: marks that are passed, stores of the hart's point, fences

-- what is counted of a step that completes an instruction, whose effect says it
abbrev pub ForwardCounts : Type 0
ForwardCounts = (program : List (List Slot)) (w : World) (h : ℕ) (run : OnRun w h) →
    (f : GoesForward program w h run) →
    ((marks : List (List ℕ)) → passes_mark marks program w h ≡ is_mark marks h run.on.hart.pc)
    × (stores_point program w (Step h) h ≡ is_point_store w.log h f.effect) × (finishes_fence program w (Step h) h ≡ is_fence f.effect)

-- nothing is counted of a step that writes an entry back
abbrev pub DrainsCountNone : Type 0
DrainsCountNone = (program : List (List Slot)) (w : World) (h : ℕ) (run : OnRun w h) →
    Drains program w h run →
    ((marks : List (List ℕ)) → passes_mark marks program w h ≡ false) × (stores_point program w (Step h) h ≡ false) ×
    (finishes_fence program w (Step h) h ≡ false)

-- a call passes its mark once it is completed
abbrev pub CallsCount : Type 0
CallsCount = (program : List (List Slot)) (w : World) (h number : ℕ) (a : IsAtCall program w h number) →
    ((marks : List (List ℕ)) → passes_mark marks program w h ≡ (has_moved (reply_to program w (Step h)) && is_mark marks h a.hart.pc))
    × (stores_point program w (Step h) h ≡ false) × (finishes_fence program w (Step h) h ≡ false)

-- nothing is counted of a step of recovery, nor of a hart that has stopped
abbrev pub RecoveryCountsNone : Type 0
RecoveryCountsNone = (program : List (List Slot)) (w : World) (h : ℕ) (phase : Phase) → is_running phase ≡ false → IsInPhase w h phase →
    ((marks : List (List ℕ)) → passes_mark marks program w h ≡ false) × (stores_point program w (Step h) h ≡ false) ×
    (finishes_fence program w (Step h) h ≡ false)

-- nothing is counted for a hart of what others do
abbrev pub OthersCountNone : Type 0
OthersCountNone = (program : List (List Slot)) (w : World) (h : ℕ) (event : Event) → IsOfOthers h event →
    (stores_point program w event h ≡ false) × (finishes_fence program w event h ≡ false)

-- ---- How far the hart's queue reaches

-- a position that the hart's queue reaches before its step it reaches after it, on a run
abbrev pub ForwardReaches : Type 0
ForwardReaches = (program : List (List Slot)) (w : World) (h : ℕ) (run : OnRun w h) →
    (f : GoesForward program w h run) (j position : ℕ) → PersistsThrough w.words run.on.hart.queue j position →
    PersistsThrough (after_event program w (Step h)).words f.on.hart.queue j position

abbrev pub DrainsReach : Type 0
DrainsReach = (program : List (List Slot)) (w : World) (h : ℕ) (run : OnRun w h) →
    (d : Drains program w h run) (j position : ℕ) → PersistsThrough w.words run.on.hart.queue j position →
    PersistsThrough (after_event program w (Step h)).words d.on.hart.queue j position

-- a position that a queue reaches before what others do it reaches after that
abbrev pub OthersReach : Type 0
OthersReach =
    (program : List (List Slot)) (w : World) (h : ℕ) (event : Event) → IsWellFormedWorld w → IsOfOthers h event → (queue : List Entry) (j position : ℕ) →
    PersistsThrough w.words queue j position → PersistsThrough (after_event program w event).words queue j position

-- after a clean the hart's queue reaches what each word of the line is now
abbrev pub CleansReachNow : Type 0
CleansReachNow = (program : List (List Slot)) (w : World) (h : ℕ) (run : OnRun w h) → IsWellFormedWorld w →
    (f : GoesForward program w h run) (address k : ℕ) → f.effect ≡ Cleans address → k < 8 →
    PersistsThrough (after_event program w (Step h)).words f.on.hart.queue (8 * (byte_number address / line_bytes) + k)
    (last_position (word_at w.words (8 * (byte_number address / line_bytes) + k)))

-- a fence is passed once all that it reaches is durable
abbrev pub FencesSettle : Type 0
FencesSettle = (program : List (List Slot)) (w : World) (h : ℕ) (run : OnRun w h) →
    (f : GoesForward program w h run) → f.effect ≡ Fences → (j position : ℕ) → PersistsThrough w.words run.on.hart.queue j position →
    position ≤ (word_at (after_event program w (Step h)).words j).durable

-- ---- Queues

-- no queue has more entries than it may
abbrev pub AreShort : World → Type 0
AreShort w = (h : ℕ) (hart : Hart) → slice_get w.harts h ≡ Some hart → length hart.queue ≤ queue_limit

abbrev pub QueuesStayShort : Type 0
QueuesStayShort = (program : List (List Slot)) (w : World) (event : Event) → AreShort w → AreShort (after_event program w event)

abbrev pub StartsAreShort : Type 0
StartsAreShort = (log : Log) (program : List (List Slot)) (locks : ℕ) (initial : List ℕ) → AreShort (start_of log program locks initial)

abbrev pub CrashesAreShort : Type 0
CrashesAreShort = (log : Log) (program : List (List Slot)) (locks : ℕ) (words : List ℕ) → AreShort (after_crash_of log program locks words)

-- ---- What memory gives

-- the bytes are none of those that an environment answers
abbrev pub IsApart : MarkedEnvironment → (address bytes : ℕ) → Type 0
IsApart s address bytes = (at count value : ℕ) → s.around.loads at count ≡ Some value → (at + count ≤ address) ⊎ (address + bytes ≤ at)

-- memory goes on to agree where words are persisted
abbrev pub PersistedAgrees : Type 0
PersistedAgrees =
    (program : List (List Slot)) (w v : World) (h : ℕ) (s : MarkedEnvironment) → length v.harts ≡ length w.harts → v.log ≡ w.log →
    ArePersisted w.words v.words →
    Agrees program w h s → Agrees program v h s

-- memory goes on to agree where other bytes are stored to than the environment answers
abbrev pub BesideAgrees : Type 0
BesideAgrees =
    (program : List (List Slot)) (w v : World) (h : ℕ) (s : MarkedEnvironment) (address bytes value : ℕ) → length v.harts ≡ length w.harts → v.log ≡ w.log →
    v.words ≡ stored w.words (byte_number address) bytes value → is_access w.log (length w.harts) address bytes ≡ true → IsApart s address bytes →
    Agrees program w h s → Agrees program v h s

-- where an instruction stores, its bytes are apart from what the environment answers
abbrev pub StoresApart : MarkedEnvironment → Effect → Type 0
StoresApart s (Continues registers pc) = Unit {0}
StoresApart s (Loads address bytes signed register) = Unit {0}
StoresApart s (Stores address bytes value) = IsApart s address bytes
StoresApart s (Cleans address) = Unit {0}
StoresApart s Fences = Unit {0}
StoresApart s Calls = Unit {0}

-- memory goes on to agree, with the environment z of whatever hart k, where a step of a hart on a run stores apart from it; a write-back and an eviction
-- store nothing
abbrev pub ForwardAgrees : Type 0
ForwardAgrees = (program : List (List Slot)) (w : World) (h : ℕ) (run : OnRun w h) →
    (f : GoesForward program w h run) → (k : ℕ) (z : MarkedEnvironment) → StoresApart z f.effect → Agrees program w k z →
    Agrees program (after_event program w (Step h)) k z

abbrev pub DrainsAgree : Type 0
DrainsAgree = (program : List (List Slot)) (w : World) (h : ℕ) (run : OnRun w h) → IsWellFormedWorld w →
    Drains program w h run → (k : ℕ) (z : MarkedEnvironment) → Agrees program w k z → Agrees program (after_event program w (Step h)) k z

abbrev pub EvictionsAgree : Type 0
EvictionsAgree = (program : List (List Slot)) (w : World) (line mask k : ℕ) (z : MarkedEnvironment) → Agrees program w k z →
    Agrees program (after_event program w (Evict line mask)) k z

-- ---- Composition

-- a hart at a local config from which a run leads on stands on it, and at the end of a run it is where that leads
abbrev pub RunsBegin : Type 0
RunsBegin =
    (w : World) (h : ℕ) (s : MarkedEnvironment) (steps : ℕ) (seen : List Observation) (m to : LocalConfig) → IsRunningAt w h m → Trace s steps m seen to →
    MayGo w.log (length w.harts) seen → IsOnTrace w h s steps seen to

-- a hart that a step has moved, and that executes instructions, is at the local config of its registers and pc, whatever else the step did
abbrev pub MovedHartsBegin : Type 0
MovedHartsBegin = (program : List (List Slot)) (w v : World) (h : ℕ) (old after : Hart) → slice_get v.harts h ≡ Some old →
    happens program w (Step h) ≡ moved v h after → after.phase ≡ Run →
    IsRunningAt (after_event program w (Step h)) h (config after.registers after.pc)

abbrev pub RunsEnd : Type 0
RunsEnd =
    (w : World) (h : ℕ) (s : MarkedEnvironment) (seen : List Observation) (to : LocalConfig) → IsOnTrace w h s 0 seen to → IsRunningAt w h to × (seen ≡ [])

-- where a run leads on from its end, the hart stands on both
abbrev pub RunsJoin : Type 0
RunsJoin =
    (w : World) (h : ℕ) (s : MarkedEnvironment) (n k : ℕ) (first later : List Observation) (by to : LocalConfig) → IsOnTrace w h s n first by →
    Trace s k by later to →
    MayGo w.log (length w.harts) later →
    IsOnTrace w h s (n + k) (first ++ later) to

-- the hart stands on the first `n` instructions of its run, and the others lead on from there
pub record IsOnFirstPart (w : World) (h n : ℕ) (fragment : Stretch) : Type 0 where
  pub by : LocalConfig
  pub first : List Observation
  pub later : List Observation
  pub seen_is : fragment.seen ≡ first ++ later
  pub on : IsOnTrace w h fragment.environment n first by
  pub after : Trace fragment.environment (fragment.steps - n) by later fragment.to
  pub may : MayGo w.log (length w.harts) later

abbrev pub RunsSplit : Type 0
RunsSplit = (w : World) (h : ℕ) (s : MarkedEnvironment) (n k : ℕ) (seen : List Observation) (to : LocalConfig) → IsOnTrace w h s (n + k) seen to →
    IsOnFirstPart w h n (stretch s (n + k) seen to)

-- a hart stands on a run in every environment whose loads are answered with the same values
abbrev pub RunsStayOn : Type 0
RunsStayOn =
    (w : World) (h : ℕ) (s z : MarkedEnvironment) (steps : ℕ) (seen : List Observation) (to : LocalConfig) → Answers s z →
    (on : IsOnTrace w h s steps seen to) →
    IsOnSameTrace w h (stretch z steps seen to) on.hart

-- ---- Delay

-- each step of the hart leaves one less
pub record IsNearer (v : World) (h : ℕ) (s : MarkedEnvironment) (to : LocalConfig) (left : ℕ) : Type 0 where
  pub steps : ℕ
  pub seen : List Observation
  pub on : IsOnTrace v h s steps seen to
  pub less : suc (steps_left steps seen on.hart.queue) ≡ left

abbrev pub StepsLower : Type 0
StepsLower = (program : List (List Slot)) (w : World) (h : ℕ) (run : OnRun w h) → Agrees program w h run.environment →
    IsNearer (after_event program w (Step h)) h run.environment run.to (steps_left (suc run.steps) run.seen run.on.hart.queue)

-- no event is a crash or a start
abbrev pub AreCrashless : List Event → Type 0
AreCrashless [] = Unit {0}
AreCrashless (event ∷ events) = KeepsOn event × AreCrashless events

abbrev pub is_step_of : (h : ℕ) → Event → Bool
is_step_of h (Step g) = g == h
is_step_of h (Evict line mask) = false
is_step_of h Crash = false
is_step_of h Start = false

-- how many of the events are steps of the hart
abbrev pub own_steps : (h : ℕ) → List Event → ℕ
own_steps h [] = 0
own_steps h (event ∷ events) = (if is_step_of h event then 1 else 0) + own_steps h events

-- as long as the hart stands before the end of the run, memory agrees
abbrev pub AgreesOnTheFragment : List (List Slot) → World → (h : ℕ) → MarkedEnvironment → (to : LocalConfig) → List Event → Type 0
AgreesOnTheFragment program w h s to events = (prefix suffix : List Event) → events ≡ prefix ++ suffix → (steps : ℕ) (seen : List Observation) →
    IsOnTrace (after_events program w prefix) h s (suc steps) seen to →
    Agrees program (after_events program w prefix) h s

-- the hart comes to the local config, by so many of its steps at most
pub record ComesTo (program : List (List Slot)) (w : World) (h : ℕ) (events : List Event) (to : LocalConfig) (most : ℕ) : Type 0 where
  pub prefix : List Event
  pub suffix : List Event
  pub parts : events ≡ prefix ++ suffix
  pub at : IsRunningAt (after_events program w prefix) h to
  pub soon : own_steps h prefix ≤ most

-- a hart comes to the end of its run by as many of its steps as are left, whatever happens between them but for crashes
abbrev pub HartsCome : Type 0
HartsCome =
    (program : List (List Slot)) (w : World) (h : ℕ) (s : MarkedEnvironment) (steps : ℕ) (seen : List Observation) (to : LocalConfig) (events : List Event) →
    length program ≡ length w.harts → IsWellFormedWorld w → (on : IsOnTrace w h s steps seen to) → AreCrashless events →
    AgreesOnTheFragment program w h s to events →
    steps_left steps seen on.hart.queue ≤ own_steps h events → ComesTo program w h events to (steps_left steps seen on.hart.queue)

-- ---- Calls

-- an acquire of a free lock takes it, and goes on
abbrev pub AcquiresTake : Type 0
AcquiresTake = (program : List (List Slot)) (w : World) (h : ℕ) (a : IsAtCall program w h 1) → slice_get w.holders (lock_asked a.hart) ≡ Some None →
    happens program w (Step h) ≡ moved (with_holder w (lock_asked a.hart) (Some h)) h (gone_on a.hart)

-- an acquire of a lock that a hart holds waits
abbrev pub AcquiresWait : Type 0
AcquiresWait = (program : List (List Slot)) (w : World) (h holder : ℕ) (a : IsAtCall program w h 1) →
    slice_get w.holders (lock_asked a.hart) ≡ Some (Some holder) →
    happens program w (Step h) ≡ (w, Waits (lock_asked a.hart) holder)

-- a release of a lock that the hart holds gives it back; in recovery one that leaves it with none makes it done
abbrev pub ReleasesGive : Type 0
ReleasesGive = (program : List (List Slot)) (w : World) (h : ℕ) (a : IsAtCall program w h 2) → slice_get w.holders (lock_asked a.hart) ≡ Some (Some h) →
    happens program w (Step h) ≡
    moved (with_holder w (lock_asked a.hart) None) h (record (gone_on a.hart) { phase = phase_after w h (slice_set w.holders (lock_asked a.hart) None) })

-- an end ends a hart that holds nothing
abbrev pub EndsEnd : Type 0
EndsEnd = (program : List (List Slot)) (w : World) (h : ℕ) (a : IsAtCall program w h 3) → least_held w.holders h ≡ None →
    happens program w (Step h) ≡ moved w h (record (gone_on a.hart) { phase = Ended })

-- ---- Recovery

-- after a crash only durable values are left; each hart has its first state, which takes locks where its point isn't 0, and every lock is free
pub record IsCrashed (program : List (List Slot)) (w v : World) : Type 0 where
  pub words : (j : ℕ) → word_at v.words j ≡ word_of (durable_value (word_at w.words j))
  pub harts : (h : ℕ) → h < length program → slice_get v.harts h ≡ Some (fresh_hart program (phase_after_crash (durable_point w.log w.words h)) h)
  pub locks : length v.holders ≡ length w.holders
  pub free : (lock : ℕ) (holder : Option ℕ) → slice_get v.holders lock ≡ Some holder → holder ≡ None
  pub recovering : v.recovering ≡ true

abbrev pub CrashesLeave : Type 0
CrashesLeave = (program : List (List Slot)) (w : World) → IsCrashed program w (after_event program w Crash)

abbrev pub HartsTake : Type 0
HartsTake = (program : List (List Slot)) (w : World) (h : ℕ) (i : IsInPhase w h Take) → TakesLocks program w h i.hart

abbrev pub HartsAwait : Type 0
HartsAwait = (program : List (List Slot)) (w : World) (h : ℕ) (i : IsInPhase w h Wait) → AwaitsOthers program w h i.hart

abbrev pub HartsResume : Type 0
HartsResume = (program : List (List Slot)) (w : World) (h : ℕ) (i : IsInPhase w h Resume) → ResumesHart program w h i.hart

-- a hart that has ended, or whose recovery is done, stays as it is
abbrev pub StoppedStay : Type 0
StoppedStay = (program : List (List Slot)) (w : World) (h : ℕ) (phase : Phase) → (phase ≡ Done) ⊎ (phase ≡ Ended) → IsInPhase w h phase →
    happens program w (Step h) ≡ (w, Still)

-- ---- Where no hart is stuck

abbrev pub NoneIsStuck : Type 0
NoneIsStuck = (program : List (List Slot)) (w : World) (h : ℕ) → IsWell program w h → (cause : Cause) → reply_to program w (Step h) ≢ Stuck cause
