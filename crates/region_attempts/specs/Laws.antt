-- What is true of attempts at regions.
use Rattle.std.specs.Prelude.{◌≡◌, ◌≢◌, ℕ, suc, ◌<◌, ◌≤◌, List, [], ◌++◌, replicate, slice_get, Contains, All, Option, Some, Bool, true}
use Rattle.ido_base.specs.declared.location.Shape.{Shape}
use Rattle.c_tree.specs.Flats as f
use Rattle.c_tree.specs.Source.{State, start, after_from, is_between}
use Rattle.c_tree.specs.WellFormed.{IsWellFormed}
use Rattle.c_tree.specs.LockDiscipline.{IsDisciplined}
use Rattle.source_machine.specs.Discipline.{Guards, StateKeeps}
use Rattle.flow_graph.specs.Nodes.{Node}
use Rattle.flow_graph.specs.Lowering.{lowered}
use Rattle.flow_graph.specs.Liveness.{NodeAt}
use Rattle.flow_graph.specs.Actions.{GraphThread, FlowState, Seen, graph_start, seen_by}
use Rattle.flow_graph.specs.Lockstep.{Matches}
use Rattle.flow_graph.specs.IdempotentCuts.{Boundaries, IsEdge, IsStoreNode, IsUnlock, BeginsRegion, AreCuts}
use Rattle.flow_graph.specs.Paths.{Element, element, naming_of, reads_of, solo_path, IsWithinRegion, LiesInOne, LiesInWritten}
use Rattle.recovery_semantics.specs.ElementHistories.{Memory, AreStable, history_at, live_number, number_at}
use Rattle.recovery_semantics.specs.Attempts.{Writes, WritesAt, solo}
use Rattle.recovery_semantics.specs.Configs.{Config, Invariant, now, attempt_of}
use Rattle.recovery_semantics.specs.Events.{IsGoing, ConfigStep, steps_begun}
use Rattle.recovery_semantics.specs.Executions.{first_config, kept_steps, Execution}
use Rattle.recovery_semantics.specs.Laws.{HasLocked, HasUnlocked, IsKeptBy, ExecutionInv}
use Rattle.region_attempts.specs.Origins.{Origin}
use Rattle.region_attempts.specs.GraphStates.{flow_kept, flow_now, flow_solo, node_of, node_after, FollowsEvent}
use Rattle.region_attempts.specs.AttemptsInRegion.{StaysInside, HasCome, IsBeforeBoundary, BeginsAtBoundaries, RespectsBoundaries, RespectsAll}
use Rattle.region_attempts.specs.PendingCleans.{line_of, AreLeftOut, CleansSince}
use Rattle.source_machine.specs.Lives.{restart}

-- an attempt that stands before a boundary has come as far as any
abbrev pub AttemptsAreWhole : Type 0
AttemptsAreWhole = (x : f.Flat) (b : Boundaries) (kept : FlowState) (m : Config) (thread : ℕ) → Invariant x m → StaysInside x b kept m thread →
    IsBeforeBoundary x b kept m thread → (attempt_of m thread).done ≡ (attempt_of m thread).longest

-- the thread, whose attempt goes on, stands at a node that reads the element
pub record ReadsHere (x : f.Flat) (kept : FlowState) (m : Config) (thread : ℕ) (one : Element) : Type 0 where
  pub going : IsGoing m thread
  pub graph_thread : GraphThread
  pub found : slice_get (flow_now x kept m).graph_threads thread ≡ Some graph_thread
  pub node : Node
  pub at : NodeAt (lowered x) graph_thread.at node
  pub reads : Contains (reads_of node.action (seen_by (flow_now x kept m) graph_thread)) one

-- the thread stands at a node that reads the element, after so many of its steps from what is kept
pub record Reads (x : f.Flat) (kept : FlowState) (thread steps : ℕ) (one : Element) : Type 0 where
  pub graph_thread : GraphThread
  pub found : slice_get (flow_solo x kept thread steps).graph_threads thread ≡ Some graph_thread
  pub node : Node
  pub at : NodeAt (lowered x) graph_thread.at node
  pub reads : Contains (reads_of node.action (seen_by (flow_solo x kept thread steps) graph_thread)) one

-- an element is read at the node where the thread stands after so many of its steps from what is kept: in a location of the node, by what the keys of the
-- thread's text name there, and the thread has had the lock that guards it since what is kept
pub record IsReadAt (x : f.Flat) (flow : FlowState) (kept : State) (thread steps : ℕ) (one : Element) : Type 0 where
  pub graph_thread : GraphThread
  pub found : slice_get (flow_solo x flow thread steps).graph_threads thread ≡ Some graph_thread
  pub node : Node
  pub at : NodeAt (lowered x) graph_thread.at node
  pub seen : Seen
  pub reads : Contains (reads_of node.action seen) one
  pub lies : (text : f.Thread) → slice_get x.threads thread ≡ Some text → LiesInOne (naming_of x text graph_thread.locals) node.reads one
  pub kept_guards : Guards x kept thread one.variable one.element

-- the thread, whose attempt goes on, has made a step at a node that reads the element, or stands there: after so many steps
pub record ReadAfter (x : f.Flat) (kept : FlowState) (m : Config) (thread steps : ℕ) (one : Element) : Type 0 where
  pub going : IsGoing m thread
  pub within : steps ≤ (attempt_of m thread).done
  pub read : Reads x kept thread steps one

-- the live number of what an attempt reads is the source's: the thread guards it, and what an earlier attempt has overwritten was written before
abbrev pub LiveIsRight : Config → Element → Type 0
LiveIsRight m one = live_number (history_at m.memory one.variable one.element) ≡ number_at (now m) one.variable one.element

abbrev pub ReadsAreRight : Type 0
ReadsAreRight = (x : f.Flat) (b : Boundaries) (o : Origin x) (m : Config) (schedule : List ℕ) (thread : ℕ) (one : Element) → IsWellFormed x →
    AreCuts (lowered x) b → Invariant x m → IsKeptBy o.source m.kept schedule → StaysInside x b (flow_kept x o schedule) m thread →
    ReadsHere x (flow_kept x o schedule) m thread one → LiveIsRight m one

-- what an attempt has read stays right, whatever it does after the read
abbrev pub ReadsStayRight : Type 0
ReadsStayRight = (x : f.Flat) (b : Boundaries) (o : Origin x) (m : Config) (schedule : List ℕ) (thread steps : ℕ) (one : Element) → IsWellFormed x →
    AreCuts (lowered x) b → Invariant x m → IsKeptBy o.source m.kept schedule → StaysInside x b (flow_kept x o schedule) m thread →
    ReadAfter x (flow_kept x o schedule) m thread steps one → LiveIsRight m one

-- while the thread stands at the node, and once it has made its step there, it is the number of the state in which the step is made
abbrev pub ReadsAreAsMade : Type 0
ReadsAreAsMade = (x : f.Flat) (b : Boundaries) (o : Origin x) (m : Config) (schedule : List ℕ) (thread steps : ℕ) (one : Element) → IsWellFormed x →
    AreCuts (lowered x) b → Invariant x m → IsKeptBy o.source m.kept schedule → StaysInside x b (flow_kept x o schedule) m thread →
    ReadAfter x (flow_kept x o schedule) m thread steps one → (attempt_of m thread).done ≤ suc steps →
    live_number (history_at m.memory one.variable one.element) ≡ number_at (solo m.kept thread steps) one.variable one.element

-- what an attempt stores that it has read, or reads at that step, it had stored before it read that
abbrev pub StoresFollowReads : Type 0
StoresFollowReads = (x : f.Flat) (b : Boundaries) (o : Origin x) (m : Config) (schedule : List ℕ) (thread steps later : ℕ) (one : Element) → IsWellFormed x →
    AreCuts (lowered x) b → Invariant x m → IsKeptBy o.source m.kept schedule → StaysInside x b (flow_kept x o schedule) m thread →
    Reads x (flow_kept x o schedule) thread steps one → steps ≤ later → later < (attempt_of m thread).longest →
    WritesAt m.kept thread later one.variable one.element → Writes m.kept thread steps one.variable one.element

-- The fact of regions that recovery rests on, beside those of a log: a region that is run again reads nothing that an earlier attempt has overwritten.
pub record RerunReadsNothingOverwritten : Type 0 where
  -- since what it overwrites it had stored before it read that
  pub stored : StoresFollowReads
  -- at the node where the thread stands, and still after later steps
  pub here : ReadsAreRight
  pub after : ReadsStayRight
  pub made : ReadsAreAsMade

-- the thread has the locks that guard what it reads
abbrev pub ReadersGuard : Type 0
ReadersGuard = (x : f.Flat) (o : Origin x) (m : Config) (schedule : List ℕ) (thread : ℕ) (one : Element) → IsWellFormed x → Invariant x m →
    IsKeptBy o.source m.kept schedule → ReadsHere x (flow_kept x o schedule) m thread one → Guards x (now m) thread one.variable one.element

abbrev pub ReadersGuardStill : Type 0
ReadersGuardStill = (x : f.Flat) (o : Origin x) (m : Config) (schedule : List ℕ) (thread steps : ℕ) (one : Element) → IsWellFormed x → Invariant x m →
    IsKeptBy o.source m.kept schedule → ReadAfter x (flow_kept x o schedule) m thread steps one → Guards x (now m) thread one.variable one.element

-- where an execution begins each attempt stays within its region
abbrev pub StartStays : Type 0
StartStays = (x : f.Flat) (b : Boundaries) (o : Origin x) (memory : Memory) (thread : ℕ) → BeginsAtBoundaries x b o →
    StaysInside x b (flow_kept x o []) (first_config x o.source memory) thread

-- whatever happens, each attempt stays within its region
abbrev pub EventsStay : Type 0
EventsStay = (x : f.Flat) (b : Boundaries) (o : Origin x) (m next : Config) (schedule : List ℕ) → IsWellFormed x → AreCuts (lowered x) b → Invariant x m →
    IsKeptBy o.source m.kept schedule → (h : ConfigStep m next) → RespectsBoundaries x b (flow_kept x o schedule) h →
    ((thread : ℕ) → StaysInside x b (flow_kept x o schedule) m thread) →
    (thread : ℕ) → StaysInside x b (flow_kept x o (schedule ++ kept_steps h)) next thread

-- at its region's end the attempt has cleaned the line of each store, by that store or a later one
abbrev pub StoresAreCleaned : Type 0
StoresAreCleaned = (x : f.Flat) (b : Boundaries) (shapes : List Shape) (left_out : List Bool) (o : Origin x) (m : Config) (schedule : List ℕ)
    (thread steps variable element : ℕ) → IsWellFormed x → AreCuts (lowered x) b → AreLeftOut x b shapes left_out → Invariant x m →
    IsKeptBy o.source m.kept schedule → StaysInside x b (flow_kept x o schedule) m thread → IsBeforeBoundary x b (flow_kept x o schedule) m thread →
    steps < (attempt_of m thread).done → WritesAt m.kept thread steps variable element →
    CleansSince (record { flat = x; kept = flow_kept x o schedule; config = m; shapes = shapes; left_out = left_out }) thread steps (attempt_of m thread).done
    (line_of shapes variable element)

-- ---- Where attempts stand

-- the graph's states match the source's, as of what is kept, now and along each thread's own steps, which alone make of its graph thread what it is now
pub record MatchesSource (x : f.Flat) (m : Config) (kept : FlowState) : Type 0 where
  pub kept_matches : Matches x kept m.kept
  pub now_matches : Matches x (flow_now x kept m) (now m)
  pub solo_matches : (thread steps : ℕ) → Matches x (flow_solo x kept thread steps) (solo m.kept thread steps)
  pub alone : (thread : ℕ) → slice_get (flow_now x kept m).graph_threads thread
      ≡ slice_get (flow_solo x kept thread (steps_begun m thread)).graph_threads thread

abbrev pub GraphMatches : Type 0
GraphMatches = (x : f.Flat) (o : Origin x) (m : Config) (schedule : List ℕ) → IsWellFormed x → Invariant x m → IsKeptBy o.source m.kept schedule →
    MatchesSource x m (flow_kept x o schedule)

-- the graph follows what happens
abbrev pub GraphFollows : Type 0
GraphFollows = (x : f.Flat) (o : Origin x) (m next : Config) (schedule : List ℕ) → IsWellFormed x → Invariant x m → IsKeptBy o.source m.kept schedule →
    (h : ConfigStep m next) →
    FollowsEvent x (flow_kept x o schedule) (flow_now x (flow_kept x o schedule) m) (flow_now x (flow_kept x o (schedule ++ kept_steps h)) next) h

-- where a thread's begun steps are kept, its graph thread is kept as it is now, and those of the others as they were kept
pub record GraphThreadsSettle (x : f.Flat) (o : Origin x) (m : Config) (schedule : List ℕ) (thread : ℕ) (after : FlowState) : Type 0 where
  pub own : slice_get after.graph_threads thread ≡ slice_get (flow_now x (flow_kept x o schedule) m).graph_threads thread
  pub others : (u : ℕ) → u ≢ thread → slice_get after.graph_threads u ≡ slice_get (flow_kept x o schedule).graph_threads u

abbrev pub GraphSettles : Type 0
GraphSettles = (x : f.Flat) (o : Origin x) (m : Config) (schedule : List ℕ) (thread : ℕ) → IsWellFormed x → Invariant x m → IsKeptBy o.source m.kept schedule →
    GraphThreadsSettle x o m schedule thread (flow_kept x o (schedule ++ replicate (steps_begun m thread) thread))

-- an element is stored to at a node that stores, in the location that the node writes, by what the thread's keys name there
pub record StoresAt (x : f.Flat) (kept : FlowState) (thread steps variable number : ℕ) : Type 0 where
  pub text : f.Thread
  pub its : slice_get x.threads thread ≡ Some text
  pub graph_thread : GraphThread
  pub found : slice_get (flow_solo x kept thread steps).graph_threads thread ≡ Some graph_thread
  pub node : ℕ
  pub stands : node_after x kept thread steps ≡ Some node
  pub stores : IsStoreNode (lowered x) node
  pub is : Node
  pub at : NodeAt (lowered x) node is
  pub lies : LiesInWritten (naming_of x text graph_thread.locals) is.writes (element variable number)

abbrev pub WritersStore : Type 0
WritersStore = (x : f.Flat) (o : Origin x) (m : Config) (schedule : List ℕ) (thread steps variable number : ℕ) → IsWellFormed x → Invariant x m →
    IsKeptBy o.source m.kept schedule → steps < (attempt_of m thread).longest → WritesAt m.kept thread steps variable number →
    StoresAt x (flow_kept x o schedule) thread steps variable number

-- where a region begins at what is kept, the longest attempt is a path within it
abbrev pub InsideIsRegion : Type 0
InsideIsRegion = (x : f.Flat) (b : Boundaries) (o : Origin x) (m : Config) (schedule : List ℕ) (thread : ℕ) → IsWellFormed x → Invariant x m →
    IsKeptBy o.source m.kept schedule → StaysInside x b (flow_kept x o schedule) m thread →
    ((node : ℕ) → node_of (flow_kept x o schedule) thread ≡ Some node → BeginsRegion (lowered x) b node) →
    IsWithinRegion (lowered x) b (solo_path (lowered x) (flow_kept x o schedule) thread (attempt_of m thread).longest)

-- ---- Where steps are kept

-- the node at which the thread stands once its begun steps are kept
abbrev pub node_kept : (x : f.Flat) → Origin x → (schedule : List ℕ) → Config → (thread : ℕ) → Option ℕ
node_kept x o schedule m thread = node_of (flow_kept x o (schedule ++ replicate (steps_begun m thread) thread)) thread

-- a region begins there where the attempt had come to a boundary or has locked, and an unlock is right before it where it has unlocked
pub record ResumesThere (x : f.Flat) (b : Boundaries) (o : Origin x) (m : Config) (schedule : List ℕ) (thread node : ℕ) : Type 0 where
  pub come : IsGoing m thread → HasCome x b (flow_kept x o schedule) m thread → BeginsRegion (lowered x) b node
  pub locked : (mutex : ℕ) → HasLocked m thread mutex → BeginsRegion (lowered x) b node
  pub unlocked : (mutex : ℕ) → HasUnlocked m thread mutex → (from : ℕ) × IsUnlock (lowered x) from × IsEdge (lowered x) from node

abbrev pub NextResumes : Type 0
NextResumes = (x : f.Flat) (b : Boundaries) (o : Origin x) (m : Config) (schedule : List ℕ) (thread node : ℕ) → IsWellFormed x → AreCuts (lowered x) b →
    Invariant x m → IsKeptBy o.source m.kept schedule → node_kept x o schedule m thread ≡ Some node → ResumesThere x b o m schedule thread node

-- no attempt that has done nothing has written anything
abbrev pub NothingIsWritten : Type 0
NothingIsWritten = (m : Config) (thread variable number : ℕ) → (attempt_of m thread).longest ≡ 0 →
    ¬ (Writes m.kept thread (attempt_of m thread).longest variable number)

-- ---- Whole executions

-- the invariant holds of the config, and each attempt stays within its region
pub record StaysResumed (x : f.Flat) (b : Boundaries) (o : Origin x) (m : Config) (schedule : List ℕ) : Type 0 where
  pub resumed : ExecutionInv x o.source m schedule
  pub inside : (thread : ℕ) → StaysInside x b (flow_kept x o schedule) m thread

abbrev pub ExecutionsStay : Type 0
ExecutionsStay = (x : f.Flat) (b : Boundaries) (o : Origin x) (m : Config) (schedule : List ℕ) → IsWellFormed x → AreCuts (lowered x) b →
    (executions : Execution x o.source m schedule) → RespectsAll x b o executions → StaysResumed x b o m schedule

-- ---- Where executions begin

-- no thread has a mutex where the execution begins
abbrev pub HoldsNothing : (x : f.Flat) → Origin x → Type 0
HoldsNothing x o = (mutex thread : ℕ) → slice_get o.source.holders mutex ≢ Some (Some thread)

-- so it begins at boundaries
abbrev pub FreeAtBoundaries : Type 0
FreeAtBoundaries = (x : f.Flat) (b : Boundaries) (o : Origin x) → HoldsNothing x o → BeginsAtBoundaries x b o

-- the source's start is where an execution may begin, of a form whose threads keep the lock discipline
pub record IsStart (x : f.Flat) (o : Origin x) : Type 0 where
  pub flow : o.flow ≡ graph_start (lowered x) x
  pub source : o.source ≡ start x
  pub free : HoldsNothing x o

abbrev pub StartsAreOrigins : Type 0
StartsAreOrigins = (x : f.Flat) → IsWellFormed x → All (IsDisciplined x) x.threads → (o : Origin x) × IsStart x o

-- the execution begins with the variables that another one has left, and nothing else of it
pub record IsAnew (x : f.Flat) (o later : Origin x) (schedule : List ℕ) : Type 0 where
  pub source : later.source ≡ restart x (after_from o.source schedule)
  pub free : HoldsNothing x later

abbrev pub LivesAreOrigins : Type 0
LivesAreOrigins = (x : f.Flat) (o : Origin x) (schedule : List ℕ) → IsWellFormed x → All (IsDisciplined x) x.threads →
    (later : Origin x) × IsAnew x o later schedule

-- where the kept steps of an execution leave all threads between sections, another one may begin with its memory as it is
abbrev pub SettledMayBegin : Type 0
SettledMayBegin = (x : f.Flat) (from : State) (m : Config) (schedule : List ℕ) → StateKeeps x from → Execution x from m schedule →
    ((thread : ℕ) → is_between (after_from from schedule) thread ≡ true) → AreStable (restart x (after_from from schedule)) m.memory
