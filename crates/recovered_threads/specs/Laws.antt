-- What follows from what the records of threads say of the kept state.
use Rattle.std.specs.Prelude.{◌≡◌, ◌⊎◌, ◌↔◌, ℕ, ℤ, ◌%◌, ◌^◌, ◌<◌, List, [], length, slice_get, Contains, Option, Some, None, Bool, true, false}
use Rattle.c_tree.specs.Exprs.{LockName}
use Rattle.log_schemes.specs.declared.log.Log.{Log}
use Rattle.machine_events.specs.declared.event.Event.{Event}
use Rattle.machine_events.specs.declared.event.Event.TheVariants.{Step, Crash}
use Rattle.machine_events.specs.declared.event.Reply.TheVariants.{Moved}
use Rattle.ido_base.specs.Words.{Word}
use Rattle.ido_base.specs.Locks.{has_lock}
use Rattle.source_machine.specs.Mutexes.{held_by}
use Rattle.rv64_isa.specs.declared.object.Slot.{Slot}
use Rattle.machine_model.specs.declared.phase.Phase.{Phase}
use Rattle.machine_model.specs.declared.phase.Phase.TheVariants.{Take, Wait, Resume}
use Rattle.rv64_isa.specs.Rows.{Effect, read}
use Rattle.machine_model.specs.Machine.{World, after_event, reply_to, durable_point, record_of, start_of}
use Rattle.machine_model.specs.Frames.{IsWellFormedWorld}
use Rattle.boundary_code.specs.Boundaries.{Boundary}
use Rattle.flow_graph.specs.Nodes.{Lock, Unlock, Node}
use Rattle.flow_graph.specs.Liveness.{NodeAt}
use Rattle.flow_graph.specs.IdempotentCuts.{IsChosen}
use Rattle.flow_graph.specs.Actions.{GraphThread, FlowState, effect_of, seen_by, graph_start, graph_step}
use Rattle.log_states.specs.Logs.{IsFrameWord, Record, nothing_recorded}
use Rattle.log_states.specs.Stages.{left_by_crash}
use Rattle.log_states.specs.Machines.{config_of}
use Rattle.log_states.specs.Laws.{recorded_by, IsRecoverable}
use Rattle.log_states.specs.LogInvariant.{LogInv}
use Rattle.hart_runs.specs.Calls.{IsInPhase}
use Rattle.expr_code.specs.EvaluationCode.{home_of}
use Rattle.expr_code.specs.declared.home.Home.TheVariants.{InFrame}
use Rattle.log_schemes.specs.Layout.{frame_at}
use Rattle.thread_code.specs.Plans.{Plan, Thread, IsPlan, IsThread, IsNodeOf, IsLogged}
use Rattle.thread_code.specs.RegistersAtNodes.{Enters, IsReady, LogView}
use Rattle.thread_code.specs.NodeCodeEffects.{keeping, keeping_before, opens_section}
use Rattle.recovered_threads.specs.RecordDescriptions.{Code, Codes, IsOrderly, Describes, AllDescribe, AreCounted, IsCountedWord, MayGoOn}
use Rattle.recovered_threads.specs.RecordDescriptions.{DescribesAs, IsPastAssignment}
use Rattle.recovered_threads.specs.RecordDescriptions.{NodePlace, the_core, the_entry, locks_of, words_in}
use Rattle.recovered_threads.specs.Machines.{LogDescribes, LogsDescribe, RecoversTo}
use Rattle.recovered_threads.specs.RecoveryStates.{IsRecoveredHart, AreGathering, AreGathered, AreRecovering, StoresApart, Awaits, ResumesLate, ResumesThread}
use Rattle.machine_model.specs.Schedule.{KeepsOn}

-- ---- States

-- a plan's first state is orderly
abbrev pub StartsOrderly : Type 0
StartsOrderly = (p : Plan) → IsPlan p → IsOrderly p (graph_start p.graph p.flat)

-- each step leads from an orderly state to an orderly one
abbrev pub StepsOrderly : Type 0
StepsOrderly = (p : Plan) (s next : FlowState) (thread : ℕ) → IsPlan p → IsOrderly p s → graph_step p.graph s thread ≡ Some next → IsOrderly p next

-- in a plan's first state no thread has recorded anything
abbrev pub StartsTold : Type 0
StartsTold = (p : Plan) (codes : Codes p) → AllDescribe p codes (graph_start p.graph p.flat) (λ n. false) (λ n. nothing_recorded)

-- ---- Locks

-- the locks of a record are those that its thread holds in the kept state
abbrev pub LocksAreHeld : Type 0
LocksAreHeld = (p : Plan) (code : Code p) (kept : FlowState) (late : Bool) (r : Record) → IsPlan p → IsOrderly p kept → DescribesAs p code kept late r →
    (lock : ℕ) → (has_lock (locks_of r) lock ≡ true) ↔ (slice_get kept.holders lock ≡ Some (Some code.thread.number))

-- a record has no locks exactly where it has no point
abbrev pub PointsHaveLocks : Type 0
PointsHaveLocks = (p : Plan) (code : Code p) (kept : FlowState) (late : Bool) (r : Record) → IsPlan p → IsOrderly p kept → DescribesAs p code kept late r →
    (locks_of r ≡ []) ↔ (r.point ≡ 0)

-- at each moment of a boundary they are what the durable log has, and a crash would leave
abbrev pub LogsHaveLocks : Type 0
LogsHaveLocks = (thread : ℕ) (old new : Record) (w : World) (rest : List Effect) → (s : LogInv thread old new w rest) →
    record_of w.log w.words thread ≡ locks_of (left_by_crash w.log thread old new (config_of w s.hart rest))

-- no two records have one in common
abbrev pub AreRecordsApart : (count : ℕ) → (records : ℕ → Record) → Type 0
AreRecordsApart count records = (g h lock : ℕ) → g < count → h < count → has_lock (locks_of (records g)) lock ≡ true →
    has_lock (locks_of (records h)) lock ≡ true → g ≡ h

abbrev pub RecordsAreApart : Type 0
RecordsAreApart = (p : Plan) (codes : Codes p) (kept : FlowState) (lates : ℕ → Bool) (records : ℕ → Record) → IsPlan p → IsOrderly p kept →
    AllDescribe p codes kept lates records →
    AreRecordsApart (length p.graph.threads) records

-- ---- Recovery

-- a crash leaves of each thread's log the record that is committed, and harts that gather the locks of these
abbrev pub CrashesGather : Type 0
CrashesGather = (program : List (List Slot)) (w : World) (old new records : ℕ → Record) (rest : ℕ → List Effect) → length program ≡ length w.harts →
    (logs : (h : ℕ) → h < length w.harts → LogInv h (old h) (new h) w (rest h)) →
    ((h : ℕ) (below : h < length w.harts) → records h ≡ left_by_crash w.log h (old h) (new h) (config_of w (logs h below).hart (rest h))) →
    AreGathering (after_event program w Crash) records

-- a crash while they do leaves the same records
abbrev pub CrashesAgain : Type 0
CrashesAgain = (program : List (List Slot)) (w : World) (records : ℕ → Record) → length program ≡ length w.harts → AreGathering w records →
    AreGathering (after_event program w Crash) records

-- a hart that takes locks never waits for another
abbrev pub TakesNeverWait : Type 0
TakesNeverWait = (program : List (List Slot)) (w : World) (records : ℕ → Record) (h : ℕ) → AreGathering w records → AreRecordsApart (length w.harts) records →
    IsInPhase w h Take → (reply_to program w (Step h) ≡ Moved) × AreGathering (after_event program w (Step h)) records

-- a hart that has all of its own locks waits as long as another takes locks, and no longer
abbrev pub WaitsForTakers : Type 0
WaitsForTakers = (program : List (List Slot)) (w : World) (records : ℕ → Record) (h : ℕ) → AreGathering w records → IsInPhase w h Wait →
    Awaits program w records h

-- once all locks are gathered, harts that wait or are to be resumed go on
abbrev pub GatheredGoOn : Type 0
GatheredGoOn = (program : List (List Slot)) (w : World) (records : ℕ → Record) (h : ℕ) (phase : Phase) → AreGathered w records →
    (phase ≡ Wait) ⊎ (phase ≡ Resume) → IsInPhase w h phase → (reply_to program w (Step h) ≡ Moved) × AreGathered (after_event program w (Step h)) records

-- recovery goes on along every event but a crash, where harts store nothing to each other's logs
abbrev pub EventsRecover : Type 0
EventsRecover =
    (program : List (List Slot)) (w : World) (records : ℕ → Record) (event : Event) → IsWellFormedWorld w → AreRecordsApart (length w.harts) records →
    KeepsOn event → StoresApart program w event → AreRecovering w records → AreRecovering (after_event program w event) records

-- once none takes locks any more, the machine's locks are held exactly as the kept state's
abbrev pub GatheredAreKept : Type 0
GatheredAreKept = (p : Plan) (codes : Codes p) (kept : FlowState) (w : World) (lates : ℕ → Bool) (records : ℕ → Record) → IsPlan p → IsOrderly p kept →
    AllDescribe p codes kept lates records → AreGathering w records → ((g : ℕ) → ¬ (IsInPhase w g Take)) → length w.harts ≡ length p.graph.threads →
    length w.holders ≡ length kept.holders → w.holders ≡ kept.holders

-- a hart that is ready to go on holds exactly the locks that its thread holds in the kept state
abbrev pub ReadyAsKept : Type 0
ReadyAsKept = (p : Plan) (code : Code p) (kept : FlowState) (w : World) (late : Bool) (r : Record) → IsPlan p → IsOrderly p kept →
    DescribesAs p code kept late r →
    IsRecoveredHart w code.thread.number r → length w.holders ≡ length kept.holders →
    (lock : ℕ) → (slice_get w.holders lock ≡ Some (Some code.thread.number)) ↔ (slice_get kept.holders lock ≡ Some (Some code.thread.number))

-- a hart is resumed where its record says, in the kept state
abbrev pub HartsGoOn : Type 0
HartsGoOn = (program : List (List Slot)) (p : Plan) (code : Code p) (kept : FlowState) (w : World) (r : Record) → p.log ≡ w.log → Describes p code kept r →
    IsRecoveredHart w code.thread.number r → (i : IsInPhase w code.thread.number Resume) → ResumesThread program code kept w i.hart r

-- and where it stands past a logged assignment, at the core of that, with the number that its local has
abbrev pub LateHartsGoOn : Type 0
LateHartsGoOn = (program : List (List Slot)) (p : Plan) (code : Code p) (kept : FlowState) (w : World) (r : Record) → p.log ≡ w.log →
    IsPastAssignment p code kept r → IsRecoveredHart w code.thread.number r → (i : IsInPhase w code.thread.number Resume) →
    ResumesLate program code kept w i.hart r

-- ---- Words of the frame

-- the words on which a thread counts can be listed
abbrev pub WordsAreListed : Type 0
WordsAreListed = (p : Plan) (t : Thread) (node : ℕ) (place : NodePlace) → IsPlan p → IsThread p t → (words : List ℕ) × AreCounted p t node place words

-- they are words of a frame
abbrev pub WordsExist : Type 0
WordsExist = (p : Plan) (t : Thread) (node : ℕ) (place : NodePlace) (word : ℕ) → IsPlan p → IsThread p t → IsCountedWord p t node place word →
    IsFrameWord p.log word

-- and at the core of a logged assignment none of them is the one that it stores
abbrev pub AssignedIsApart : Type 0
AssignedIsApart = (p : Plan) (t : Thread) (node word : ℕ) → IsPlan p → IsThread p t → IsNodeOf t node → (logged : IsLogged p t node) →
    home_of t.locals logged.local ≡ InFrame (frame_at p.log t.number word) → ¬ (IsCountedWord p t node the_core word)

-- ---- Boundaries

-- the boundary at which a thread of the code stands, and where that resumes: the one before its node, the one after the lock before it, or of the unlock
pub data IsBoundaryAt (p : Plan) (code : Code p) (graph_thread : GraphThread) : NodePlace → Boundary → (resume : ℕ) → Type 0 where
  before_core : (is : Node) → NodeAt p.graph graph_thread.at is → IsChosen p.graph p.boundaries graph_thread.at →
      IsBoundaryAt p code graph_thread the_core (keeping_before p code.thread code.is.places is.action graph_thread.locals graph_thread.at)
      (code.is.places.core graph_thread.at)
  after_lock : (from : ℕ) (lock : LockName) (is : Node) → IsNodeOf code.thread from → NodeAt p.graph from is → is.action ≡ Lock lock graph_thread.at →
      IsBoundaryAt p code graph_thread the_entry
      (keeping p code.thread code.is.places (opens_section p code.thread code.is.places from) graph_thread.locals graph_thread.at) (code.is.places.after from)
  of_unlock : (from : ℕ) (lock : LockName) (is : Node) → IsNodeOf code.thread from → NodeAt p.graph from is → is.action ≡ Unlock lock graph_thread.at →
      IsBoundaryAt p code graph_thread the_entry (keeping p code.thread code.is.places false graph_thread.locals graph_thread.at) (code.is.places.after from)

-- a thread stands at a node in a state, its log is so, and x are registers at the boundary
pub record AtBoundary (p : Plan) (code : Code p) (s : FlowState) (b : Boundary) (view : LogView) (resume : ℕ) (x : List ℕ) : Type 0 where
  pub graph_thread : GraphThread
  pub there : slice_get s.graph_threads code.thread.number ≡ Some graph_thread
  pub goes_on : graph_thread.ended ≡ false
  pub own : IsNodeOf code.thread graph_thread.at
  pub place : NodePlace
  pub boundary : IsBoundaryAt p code graph_thread place b resume
  pub owed : ℤ
  pub may : MayGoOn p code.thread graph_thread.at place (seen_by s graph_thread) view owed x
  -- an instruction's address, and 64 bits in each register that the boundary keeps
  pub aligned : resume % 4 ≡ 0
  pub somewhere : 0 < resume
  pub below : resume < 2 ^ 64
  pub registers : (register : ℕ) → Contains b.live register → read x register < 2 ^ 64

-- can be recovered from
abbrev pub BoundariesRecover : Type 0
BoundariesRecover = (p : Plan) (code : Code p) (s : FlowState) (b : Boundary) (view : LogView) (resume : ℕ) (x : List ℕ) → IsPlan p → IsOrderly p s →
    AtBoundary p code s b view resume x → IsRecoverable b resume x

-- once the boundary at which a thread stands is committed, with the words on which it counts, its record describes the state that is kept with it
abbrev pub CommitsDescribe : Type 0
CommitsDescribe = (p : Plan) (code : Code p) (kept : FlowState) (b : Boundary) (view : LogView) (resume : ℕ) (x : List ℕ) (framed : List ℕ) → IsPlan p →
    IsOrderly p kept → (k : AtBoundary p code kept b view resume x) → AreCounted p code.thread k.graph_thread.at k.place framed →
    Describes p code kept (recorded_by b framed (words_in p.log code.thread.number view) view.side resume x)

-- the boundary of an unlock keeps what is live after it: registers with which the thread is at the unlock's core represent what it sees there
abbrev pub UnlocksEnter : Type 0
UnlocksEnter =
    (p : Plan) (code : Code p) (s : FlowState) (graph_thread : GraphThread) (from : ℕ) (lock : LockName) (view : LogView) (owed : ℤ) (is : Node) (x : List ℕ) →
    IsPlan p → IsOrderly p s →
    slice_get s.graph_threads code.thread.number ≡ Some graph_thread → NodeAt p.graph from is → is.action ≡ Unlock lock graph_thread.at →
    IsReady p code.thread from (seen_by s graph_thread) view owed x → Enters p code.thread graph_thread.at (seen_by s graph_thread) view x

-- a logged assignment at which the thread stands does the same in both states
abbrev pub AssignsAlike : (p : Plan) → Thread → (kept after : FlowState) → Type 0
AssignsAlike p t kept after = (graph_thread : GraphThread) (is : Node) → slice_get kept.graph_threads t.number ≡ Some graph_thread →
    NodeAt p.graph graph_thread.at is → IsLogged p t graph_thread.at →
    effect_of is.action (seen_by after graph_thread) ≡ effect_of is.action (seen_by kept graph_thread)

-- the records of the others go on to describe the kept state, where their threads, what these hold, and what they assign next are kept as they were
abbrev pub OthersDescribe : Type 0
OthersDescribe = (p : Plan) (code : Code p) (kept after : FlowState) (late : Bool) (r : Record) → DescribesAs p code kept late r →
    slice_get after.graph_threads code.thread.number ≡ slice_get kept.graph_threads code.thread.number →
    held_by code.thread.number after.holders ≡ held_by code.thread.number kept.holders → AssignsAlike p code.thread kept after → DescribesAs p code after late r

-- all durable points are 0 exactly where no mutex is held in the kept state
abbrev pub PointsSettle : Type 0
PointsSettle =
    (log : Log) (p : Plan) (codes : Codes p) (kept : FlowState) (lates : ℕ → Bool) (records : ℕ → Record) (words : List Word) → IsOrderly p kept →
    AllDescribe p codes kept lates records →
    ((n : ℕ) → n < length p.graph.threads → durable_point log words n ≡ (records n).point) →
    ((n : ℕ) → n < length p.graph.threads → durable_point log words n ≡ 0) ↔
    ((lock : ℕ) (holder : Option ℕ) → slice_get kept.holders lock ≡ Some holder → holder ≡ None)

-- ---- Machines

-- at the start the logs describe the first state
abbrev pub StartsDescribe : Type 0
StartsDescribe =
    (log : Log) (program : List (List Slot)) (locks : ℕ) (initial : List ℕ) (p : Plan) (codes : Codes p) → length program ≡ length p.graph.threads →
    LogsDescribe p codes (graph_start p.graph p.flat) (start_of log program locks initial)

-- where logs describe the kept state, the locks in the durable log of a thread are those that it holds in the kept state
abbrev pub DurableLocksAreHeld : Type 0
DurableLocksAreHeld = (p : Plan) (code : Code p) (kept : FlowState) (w : World) → IsPlan p → IsOrderly p kept → LogDescribes p code kept w →
    (lock : ℕ) → (has_lock (record_of w.log w.words code.thread.number) lock ≡ true) ↔ (slice_get kept.holders lock ≡ Some (Some code.thread.number))

-- no two have one in common
abbrev pub DurableLocksAreApart : Type 0
DurableLocksAreApart = (p : Plan) (codes : Codes p) (kept : FlowState) (w : World) → IsPlan p → IsOrderly p kept → LogsDescribe p codes kept w →
    (g h lock : ℕ) → g < length p.graph.threads → h < length p.graph.threads → has_lock (record_of w.log w.words g) lock ≡ true →
    has_lock (record_of w.log w.words h) lock ≡ true → g ≡ h

-- all durable points are 0 exactly where no mutex is held
abbrev pub DurablePointsSettle : Type 0
DurablePointsSettle = (p : Plan) (codes : Codes p) (kept : FlowState) (w : World) → IsOrderly p kept → LogsDescribe p codes kept w →
    ((n : ℕ) → n < length p.graph.threads → durable_point w.log w.words n ≡ 0) ↔
    ((lock : ℕ) (holder : Option ℕ) → slice_get kept.holders lock ≡ Some holder → holder ≡ None)

-- a crash leaves harts that recover to the kept state
abbrev pub CrashesRecover : Type 0
CrashesRecover = (program : List (List Slot)) (p : Plan) (codes : Codes p) (kept : FlowState) (w : World) → length program ≡ length w.harts →
    length w.harts ≡ length p.graph.threads → LogsDescribe p codes kept w → RecoversTo p codes kept (after_event program w Crash)

-- where harts recover to the kept state, their logs describe it all along
abbrev pub RecoveringDescribes : Type 0
RecoveringDescribes = (p : Plan) (codes : Codes p) (kept : FlowState) (w : World) → length w.harts ≡ length p.graph.threads → RecoversTo p codes kept w →
    LogsDescribe p codes kept w
