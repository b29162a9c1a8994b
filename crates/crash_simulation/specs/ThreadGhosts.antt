-- Where a thread of a compiled program is, by its graph thread and its ghost state.
use Rattle.std.specs.Prelude.{◌≡◌, ◌≢◌, ◌⊎◌, ℕ, ℤ, ◌+◌, ◌/◌, ◌<◌, ◌≤◌, List, [], ◌++◌, length, slice_get, Contains, Option, Some, None, is_some, Bool, true}
use Rattle.std.specs.Prelude.{false, if◌then◌else◌, suc, not, ◌&&◌}
use Rattle.std.specs.List.{list_any}
use Rattle.ido_base.specs.Layout.{variable_at, byte_number, word_number}
use Rattle.ido_base.specs.Growth.{PersistsThrough}
use Rattle.ido_base.specs.Words.{last_position, live_value, word_at}
use Rattle.log_schemes.specs.declared.log.Log.{Log}
use Rattle.log_schemes.specs.Layout.{frame_at, point_at}
use Rattle.ido_ints.specs.Kinds.{bytes_of}
use Rattle.c_tree.specs.Programs.{Variable}
use Rattle.c_tree.specs.WellFormed.{elements_in}
use Rattle.c_tree.specs.Source.{State}
use Rattle.source_machine.specs.Discipline.{Guards}
use Rattle.machine_model.specs.declared.phase.Phase.{Phase}
use Rattle.machine_model.specs.declared.phase.Phase.TheVariants.{Take, Wait, Resume, Run, Done, Ended}
use Rattle.rv64_isa.specs.Rows.{Effect, Cleans}
use Rattle.machine_model.specs.Machine.{Hart, World, bank_of}
use Rattle.code_runs.specs.CodeTraces.{MarkedEnvironment, seen_effects}
use Rattle.flow_graph.specs.Actions.{GraphThread, Seen, seen_by}
use Rattle.flow_graph.specs.IdempotentCuts.{IsChosen, IsStoreNode}
use Rattle.log_schemes.specs.Schemes.{locals_of}
use Rattle.log_schemes.specs.declared.locals.Locals.TheVariants.{Frame}
use Rattle.flow_graph.specs.Paths.{element}
use Rattle.recovery_semantics.specs.ElementHistories.{IsSince, history_at}
use Rattle.recovery_semantics.specs.Attempts.{Writes, WritesAt}
use Rattle.recovery_semantics.specs.Configs.{Config, now, attempt_of}
use Rattle.recovery_semantics.specs.Events.{IsGoing, steps_begun}
use Rattle.recovery_semantics.specs.Laws.{HasLocked, HasUnlocked, LastUnlocks}
use Rattle.region_attempts.specs.Laws.{IsReadAt}
use Rattle.region_attempts.specs.PendingCleans.{line_of, CleansSince}
use Rattle.log_states.specs.Logs.{Record, IsFrameWord, IsSideOf, bank_word, frame_in, frame_word, slots_of}
use Rattle.log_states.specs.Stages.{fences_ahead, is_committed, is_store}
use Rattle.log_states.specs.Machines.{config_of}
use Rattle.log_states.specs.LogInvariant.{LogInv}
use Rattle.hart_runs.specs.RunSteps.{is_clean, steps_left}
use Rattle.thread_code.specs.Plans.{IsLogged}
use Rattle.thread_code.specs.RegistersAtNodes.{LogView}
use Rattle.thread_runs.specs.CodeFragments.{ExitPoint, Arrives, Keeps, Computes, Asks, Took, Gives, Ends, IsOnFragment, IsAtCore, IsOwnWord, on_machine}
use Rattle.recovered_threads.specs.RecordDescriptions.{Code, Describes, DescribesAs, AreCounted, IsNumberAssigned, the_core, words_in}
use Rattle.crash_simulation.specs.Systems.{System, flat_of, shapes_of}
use Rattle.crash_simulation.specs.AbstractRuns.{AbstractRun, kept_of, now_of, attempts_of}
use Rattle.crash_simulation.specs.Accesses.{Access, load}
use Rattle.crash_simulation.specs.StepsToMark.{beyond, core_ahead, most_ahead, IsSoon}

-- the ghost state of a thread: what is said of it besides its graph thread
pub record ThreadGhost : Type 0 where
  -- the thread's log is on its way from the one record to the other, and the boundary that writes it has these effects still to make
  pub old : Record
  pub new : Record
  pub rest : List Effect
  -- the boundary under way, or the last one where none is, is taken as committed: the thread's steps before it are kept
  pub committed : Bool
  -- the cleans that the code of a store, or of a logged assignment, has still to make
  pub cleans : List Effect
  -- the mutex that it has unlocked by a step that is begun, but not yet given back
  pub giving : Option ℕ
  -- its hart makes so many steps at most before the next mark
  pub before_mark : ℕ
  -- of each word the position of the hart's last store into it since the last start or crash, if there was one
  pub last_stores : (word : ℕ) → Option ℕ
  -- its thread stands past a logged assignment that its kept record tells: recovery stores that once more
  pub late : Bool
  -- of each byte the hart's first access since its last store of its point, or since the last start or crash
  pub first_accesses : (byte : ℕ) → Option Access

-- what the kept state has of the thread's log
abbrev pub record_kept : ThreadGhost → Record
record_kept c = if c.committed then c.new else c.old

-- that record's bank is told of a write that comes next
abbrev pub tells_write : ThreadGhost → Bool
tells_write c = is_some (record_kept c).written

-- the boundary under way has stored its point and isn't taken as committed: the steps before it are bound to that store
abbrev pub is_bound : ThreadGhost → Bool
is_bound c = not c.committed && not (list_any is_store c.rest)

-- ---- What it reads

-- the access is one to the element, with all of its bytes
pub record IsElementAt (y : System) (variable number address bytes : ℕ) : Type 0 where
  pub is : Variable
  pub there : slice_get (flat_of y).variables variable ≡ Some is
  pub within : number < elements_in is.length
  pub address_is : address ≡ variable_at (shapes_of y) variable number
  pub bytes_are : bytes ≡ bytes_of is.kind

module _ (y : System) (s : State) (thread : ℕ) where
  -- an access to an element that the thread guards in the state
  pub record IsGuarded (address bytes : ℕ) : Type 0 where
    pub variable : ℕ
    pub number : ℕ
    pub at : IsElementAt y variable number address bytes
    pub guards : Guards (flat_of y) s thread variable number

  -- such an access, or one to a word of its own frame
  pub data IsReadable (address bytes : ℕ) : Type 0 where
    of_element : IsGuarded address bytes → IsReadable address bytes
    of_frame : IsOwnWord y.plan.log thread address → bytes ≡ 8 → IsReadable address bytes

  -- the environment answers no others
  abbrev pub AnswersGuarded : MarkedEnvironment → Type 0
  AnswersGuarded z = (address bytes value : ℕ) → z.around.loads address bytes ≡ Some value → IsReadable address bytes

-- where locals stand in its frame, the words of that have these numbers
abbrev pub HasView : World → (thread : ℕ) → LogView → Type 0
HasView w thread view = (word : ℕ) → IsFrameWord w.log word → live_value (frame_in w.log w.words thread word) ≡ words_in w.log thread view word

-- ---- How far it is, by what is begun

module _ (y : System) (m : Config) (thread : ℕ) (c : ThreadGhost) where
  -- the attempt goes on, and no boundary is under way
  pub record IsInAttempt : Type 0 where
    pub going : IsGoing m thread
    pub rest : c.rest ≡ []
    pub giving : c.giving ≡ None
    -- the last boundary is taken as committed
    pub committed : c.committed ≡ true

  -- the attempt goes on, and no clean is ahead
  pub record GoesClean (ended : Bool) (graph_thread : GraphThread) : Type 0 where
    pub goes : IsInAttempt
    pub cleans : c.cleans ≡ []
    pub execution : graph_thread.ended ≡ ended

  -- the attempt stands before the boundary under way, until that is committed: then none of its steps is left that isn't kept
  pub record IsBounded (graph_thread : GraphThread) (giving : Option ℕ) (write_comes : Bool) (Before : Type 0) : Type 0 where
    pub execution : graph_thread.ended ≡ false
    pub cleans : c.cleans ≡ []
    pub gives : c.giving ≡ giving
    -- its bank is told whether a write comes next
    pub written : is_some c.new.written ≡ write_comes
    pub before : c.committed ≡ false → Before
    pub after : c.committed ≡ true → steps_begun m thread ≡ 0

  -- where the attempt has no step, the boundary before it stands before no node by choice; unless the thread is late
  abbrev pub IsUntold : Record → Type 0
  IsUntold r = c.late ≡ false → steps_begun m thread ≡ 0 → is_some r.written ≡ false

  -- what is true of a thread in a fragment, by the fragment's exit point: no boundary counts on a local that is stored outside sections
  abbrev pub ExitInv : GraphThread → ExitPoint → Type 0
  ExitInv graph_thread Arrives = IsInAttempt × (graph_thread.ended ≡ false) × IsUntold c.new
  ExitInv graph_thread (Keeps owed) = IsChosen y.plan.graph y.plan.boundaries graph_thread.at × IsGoing m thread ×
      IsBounded graph_thread None true (IsUntold c.old)
  ExitInv graph_thread (Computes from local number) = GoesClean false graph_thread × (c.new.point ≡ 0) × IsUntold c.new
  ExitInv graph_thread (Asks mutex next) = GoesClean false graph_thread × IsUntold c.new
  ExitInv graph_thread (Took from) = IsBounded graph_thread None false ((mutex : ℕ) × HasLocked m thread mutex)
  ExitInv graph_thread (Gives from mutex) = IsBounded graph_thread (Some mutex) false (HasUnlocked m thread mutex)
  ExitInv graph_thread Ends = GoesClean true graph_thread

  -- no step is begun that isn't kept, and no boundary is under way
  pub record Rests : Type 0 where
    pub begun : steps_begun m thread ≡ 0
    pub done : (attempt_of m thread).done ≡ 0
    pub rest : c.rest ≡ []
    pub cleans : c.cleans ≡ []
    pub giving : c.giving ≡ None
    pub committed : c.committed ≡ true
    pub whole : c.before_mark ≡ most_ahead y thread

-- ---- What it has loaded

-- a byte of an element
pub record IsByteOf (y : System) (variable number byte : ℕ) : Type 0 where
  pub address : ℕ
  pub bytes : ℕ
  pub at : IsElementAt y variable number address bytes
  pub from : address ≤ byte
  pub to : byte < address + bytes

-- the attempt's step after so many reads the element
abbrev pub ReadsAt : (y : System) → AbstractRun y → (thread step variable number : ℕ) → Type 0
ReadsAt y b thread step variable number = IsReadAt (flat_of y) (kept_of y b) b.config.kept thread step (element variable number)

-- the thread stands at a node that makes no store
pub record StandsAtNoStore (y : System) (b : AbstractRun y) (thread : ℕ) : Type 0 where
  pub graph_thread : GraphThread
  pub found : slice_get (now_of y b).graph_threads thread ≡ Some graph_thread
  pub no_store : IsStoreNode y.plan.graph graph_thread.at → ⊥

-- a byte of a word of the thread's own frame
pub record IsFrameByte (log : Log) (thread byte : ℕ) : Type 0 where
  pub address : ℕ
  pub own : IsOwnWord log thread address
  pub from : address ≤ byte
  pub to : byte < address + 8

module _ (y : System) (b : AbstractRun y) (thread : ℕ) (c : ThreadGhost) where
  -- the attempt's last step reads the element that is accessed so, and no boundary has begun since
  pub record IsJustRead (address bytes : ℕ) : Type 0 where
    pub variable : ℕ
    pub number : ℕ
    pub at : IsElementAt y variable number address bytes
    pub goes : IsInAttempt y b.config thread c
    pub step : ℕ
    pub last : suc step ≡ (attempt_of b.config thread).done
    pub read : ReadsAt y b thread step variable number

  -- what is loaded is what has just been read, or a word of its own frame; or an element for the node where it stands: where locals stand in the frame, a
  -- logged assignment computes its number before the boundary that comes before its step
  pub data IsLoaded (address bytes : ℕ) : Type 0 where
    just_read : IsJustRead address bytes → IsLoaded address bytes
    own_word : IsOwnWord y.plan.log thread address → bytes ≡ 8 → IsLoaded address bytes
    read_ahead : (variable number : ℕ) → IsElementAt y variable number address bytes → locals_of y.plan.log ≡ Frame → StandsAtNoStore y b thread →
        IsLoaded address bytes

  -- the environment answers no other loads
  abbrev pub AnswersLoaded : MarkedEnvironment → Type 0
  AnswersLoaded z = (address bytes value : ℕ) → z.around.loads address bytes ≡ Some value → IsLoaded address bytes

  -- the byte is one of an element that a step of the attempt reads, and that no step before it has stored
  pub record IsReadFirst (byte : ℕ) : Type 0 where
    pub variable : ℕ
    pub number : ℕ
    pub of : IsByteOf y variable number byte
    pub step : ℕ
    pub below : step < (attempt_of b.config thread).done
    pub read : ReadsAt y b thread step variable number
    pub unwritten : Writes b.config.kept thread step variable number → ⊥
    pub unbound : is_bound c ≡ false

  -- where locals stand in the frame each store has a boundary just before it, and no step between them. None comes to an element that was loaded ahead of a
  -- step, since the point was stored: the thread stands at that step's node still, which makes none, or has begun a step
  pub record IsReadAhead (byte : ℕ) : Type 0 where
    pub framed : locals_of y.plan.log ≡ Frame
    pub variable : ℕ
    pub number : ℕ
    pub of : IsByteOf y variable number byte
    pub since : StandsAtNoStore y b thread ⊎ ((is_bound c ≡ false) × (0 < steps_begun b.config thread))

  -- why no store of the thread comes to a byte that its hart has loaded first; of its own frame nothing is said
  pub data IsLoadedFirst (byte : ℕ) : Type 0 where
    read_first : IsReadFirst byte → IsLoadedFirst byte
    in_own_frame : IsFrameByte y.plan.log thread byte → IsLoadedFirst byte
    loaded_ahead : IsReadAhead byte → IsLoadedFirst byte

  -- what its hart has loaded first, and of what its attempt has stored its hart has accessed each byte, until the point is stored
  pub record HasRead : Type 0 where
    pub read : (byte : ℕ) → c.first_accesses byte ≡ Some load → IsLoadedFirst byte
    pub written : is_bound c ≡ false → (variable number byte : ℕ) → Writes b.config.kept thread (attempt_of b.config thread).done variable number →
        IsByteOf y variable number byte → c.first_accesses byte ≢ None

-- ---- What it owes

-- at the code of a logged assignment, past the boundary before it: the number is the one that it gives its local, and the record counts on words beside that
pub record IsOwedAt (y : System) (code : Code y.plan) (c : ThreadGhost) (node : ℕ) (seen : Seen) (owed : ℤ) : Type 0 where
  pub number : IsNumberAssigned y.plan code.thread node seen owed
  pub beside : IsLogged y.plan code.thread node → AreCounted y.plan code.thread node the_core c.new.framed

-- a thread on its way to there owes that already
abbrev pub ExitOwes : (y : System) → Code y.plan → ThreadGhost → (node : ℕ) → Seen → ExitPoint → Type 0
ExitOwes y code c node seen (Keeps owed) = IsOwedAt y code c node seen owed
ExitOwes y code c node seen exit = Unit {0}

-- the thread stands in a section, or leaves one by the boundary under way
abbrev pub IsSectioned : ThreadGhost → Type 0
IsSectioned c = (c.new.point ≢ 0) ⊎ ((c.old.point ≢ 0) × (c.rest ≢ []))

-- ---- What its log says

-- of a boundary that the machine has committed, or hasn't
pub record HasRecords (y : System) (b : AbstractRun y) (code : Code y.plan) (c : ThreadGhost) (sooner : Bool) : Type 0 where
  -- what is taken as committed is so; more may be
  pub no_sooner : c.committed ≡ true → sooner ≡ true
  -- the record that is kept describes the kept state, and that of the boundary under way, until it is committed, the state now
  pub describes : DescribesAs y.plan code (kept_of y b) c.late (record_kept c)
  pub will_describe : c.committed ≡ false → Describes y.plan code (now_of y b) c.new
  -- a mutex that it has still to give back, where its steps are kept, is unlocked by its last one of these
  pub unlocked : (mutex : ℕ) → c.giving ≡ Some mutex → c.committed ≡ true → LastUnlocks b.origin.source b.schedule code.thread.number mutex

-- a boundary is committed once its point is durable
abbrev pub committed : World → (thread : ℕ) → ThreadGhost → Hart → Bool
committed w thread c hart = is_committed w.log thread (config_of w hart c.rest)

-- a word of the thread's log that the record needs: the point's, or a slot's
pub data IsWordOf (log : Log) (thread : ℕ) (r : Record) (word : ℕ) : Type 0 where
  of_point : word ≡ word_number (point_at log thread) → IsWordOf log thread r word
  of_slot : (slot : ℕ) → Contains (slots_of log r) slot → word ≡ bank_word log thread (bank_of r.point) slot → IsWordOf log thread r word

-- the queue reaches the position of the element, or a clean of its line is ahead
pub data IsComing (y : System) (w : World) (cleans : List Effect) (hart : Hart) (v e position : ℕ) : Type 0 where
  is_reached : PersistsThrough w.words hart.queue (byte_number (variable_at (shapes_of y) v e) / 8) position → IsComing y w cleans hart v e position
  is_ahead : (variable element : ℕ) → Contains cleans (Cleans (variable_at (shapes_of y) variable element)) →
      line_of (shapes_of y) variable element ≡ line_of (shapes_of y) v e → IsComing y w cleans hart v e position

module _ (y : System) (w : World) (b : AbstractRun y) (code : Code y.plan) (c : ThreadGhost) where
  -- ---- The code ahead of its hart, by its phase

  -- in a fragment to or from the node of its graph thread, to an exit point, with so many instructions ahead; or at that node's code
  pub record InFragment (hart : Hart) (graph_thread : GraphThread) (exit : ExitPoint) (steps : ℕ) : Type 0 where
    pub environment : MarkedEnvironment
    pub answers : AnswersGuarded y (now b.config) code.thread.number environment
    pub loaded : AnswersLoaded y b code.thread.number c environment
    pub view : LogView
    pub at_side : IsSideOf c.new view.side
    pub frame : HasView w code.thread.number view
    pub fragment : IsOnFragment y.plan code.thread code.is.places (on_machine y.runs.program w code.thread.number environment)
        (record { exit = exit; node = graph_thread.at; seen = seen_by (now_of y b) graph_thread; view = view }) steps (c.cleans ++ c.rest)
    pub fits : ExitInv y b.config code.thread.number c graph_thread exit
    pub owes : ExitOwes y code c graph_thread.at (seen_by (now_of y b) graph_thread) exit
    pub soon : IsSoon y code.thread.number c.before_mark
        (steps_left steps (seen_effects (c.cleans ++ c.rest)) hart.queue + beyond y.plan code.is.places exit graph_thread.at)

  pub record AtCore (hart : Hart) (graph_thread : GraphThread) : Type 0 where
    pub view : LogView
    pub at_side : IsSideOf c.new view.side
    pub frame : HasView w code.thread.number view
    pub owed : ℤ
    pub registers : List ℕ
    pub core : IsAtCore y.plan code.thread code.is.places w code.thread.number graph_thread.at (seen_by (now_of y b) graph_thread) view owed registers
    pub owes : IsOwedAt y code c graph_thread.at (seen_by (now_of y b) graph_thread) owed
    pub goes : GoesClean y b.config code.thread.number c false graph_thread
    -- at the code of a node with a chosen boundary before it the attempt begins, and that boundary's bank is told of the write that comes
    pub fresh : IsChosen y.plan.graph y.plan.boundaries graph_thread.at → (attempt_of b.config code.thread.number).done ≡ 0
    pub told : IsChosen y.plan.graph y.plan.boundaries graph_thread.at → is_some c.new.written ≡ true
    pub untold : ¬ (IsChosen y.plan.graph y.plan.boundaries graph_thread.at) → IsUntold y b.config code.thread.number c c.new
    pub soon : IsSoon y code.thread.number c.before_mark (length hart.queue + core_ahead y.plan code.is.places graph_thread.at)

  -- resumed at a logged assignment that it is past: the next instruction stores its local once more
  pub record AtPast (hart : Hart) (graph_thread : GraphThread) : Type 0 where
    pub late : c.late ≡ true
    pub view : LogView
    pub at_side : IsSideOf c.new view.side
    pub frame : HasView w code.thread.number view
    pub node : ℕ
    pub logged : IsLogged y.plan code.thread node
    pub goes_to : logged.assigns.next ≡ graph_thread.at
    pub owed : ℤ
    pub number : slice_get graph_thread.locals logged.local ≡ Some owed
    pub registers : List ℕ
    pub core : IsAtCore y.plan code.thread code.is.places w code.thread.number node (seen_by (now_of y b) graph_thread) view owed registers
    pub beside : AreCounted y.plan code.thread node the_core c.new.framed
    pub goes : GoesClean y b.config code.thread.number c false graph_thread
    pub soon : IsSoon y code.thread.number c.before_mark (length hart.queue)

  pub data IsRunningThread (hart : Hart) (graph_thread : GraphThread) : Type 0 where
    on_fragment : (exit : ExitPoint) (steps : ℕ) → InFragment hart graph_thread exit steps → IsRunningThread hart graph_thread
    at_core : AtCore hart graph_thread → IsRunningThread hart graph_thread
    at_past : AtPast hart graph_thread → IsRunningThread hart graph_thread

  abbrev pub InPhase : Hart → GraphThread → Phase → Type 0
  InPhase hart graph_thread Take = Rests y b.config code.thread.number c
  InPhase hart graph_thread Wait = Rests y b.config code.thread.number c
  InPhase hart graph_thread Resume = Rests y b.config code.thread.number c
  InPhase hart graph_thread Run = IsRunningThread hart graph_thread
  InPhase hart graph_thread Done = Rests y b.config code.thread.number c × (c.new.point ≡ 0)
  InPhase hart graph_thread Ended = GoesClean y b.config code.thread.number c true graph_thread × (c.new.point ≡ 0)

  -- ---- What it has stored

  -- an element that the attempt has stored has its number since a position, which is on its way to be durable once the line has been cleaned, and is
  -- durable after the first fence of the next boundary
  pub record IsFlushed (hart : Hart) (v e : ℕ) : Type 0 where
    pub before : ℕ
    pub within : before < (attempt_of b.config code.thread.number).done
    pub writes : WritesAt b.config.kept code.thread.number before v e
    pub position : ℕ
    pub since : IsSince (history_at b.config.memory v e) position
    pub comes : CleansSince (attempts_of y b) code.thread.number before (attempt_of b.config code.thread.number).done (line_of (shapes_of y) v e) →
        IsComing y w c.cleans hart v e position
    pub fenced : c.committed ≡ false → fences_ahead c.rest < 2 → position ≤ (history_at b.config.memory v e).durable

  -- the queue reaches the last position of a word of its frame, or a clean of its line is ahead
  pub data IsFrameComing (hart : Hart) (word : ℕ) : Type 0 where
    frame_reached : PersistsThrough w.words hart.queue (frame_word w.log code.thread.number word)
        (last_position (frame_in w.log w.words code.thread.number word)) → IsFrameComing hart word
    frame_ahead : (other : ℕ) → Contains (c.cleans ++ c.rest) (Cleans (frame_at w.log code.thread.number other)) → other / 8 ≡ word / 8 →
        IsFrameComing hart word

  -- the word is on its way to be durable, and is durable after the first fence of the next boundary
  pub record IsFrameFlushed (hart : Hart) (word : ℕ) : Type 0 where
    pub comes : IsFrameComing hart word
    pub fenced : c.committed ≡ false → fences_ahead c.rest < 2 →
        last_position (frame_in w.log w.words code.thread.number word) ≤ (frame_in w.log w.words code.thread.number word).durable

  -- the word is durable as of the position, or will be: with an element that the attempt has stored there, with the last record, or with its frame
  pub data IsOnItsWay (hart : Hart) (word position : ℕ) : Type 0 where
    durable_there : position ≤ (word_at w.words word).durable → IsOnItsWay hart word position
    comes_with : (v e : ℕ) (f : IsFlushed hart v e) → byte_number (variable_at (shapes_of y) v e) / 8 ≡ word → position ≤ f.position →
        IsOnItsWay hart word position
    recorded_in : IsWordOf w.log code.thread.number c.new word → position ≤ last_position (word_at w.words word) → IsOnItsWay hart word position
    in_frame : (own : ℕ) → IsFrameWord w.log own → frame_word w.log code.thread.number own ≡ word → position ≤ last_position (word_at w.words word) →
        IsOnItsWay hart word position

  -- what it has still to clean are lines, and what it has stored is on its way, each last store too; in a section so is its frame
  pub record HasStored (hart : Hart) : Type 0 where
    pub cleans : (effect : Effect) → Contains c.cleans effect → is_clean effect ≡ true
    pub flushed : (v e : ℕ) → Writes b.config.kept code.thread.number (attempt_of b.config code.thread.number).done v e → IsFlushed hart v e
    pub last : (word position : ℕ) → c.last_stores word ≡ Some position → IsOnItsWay hart word position
    pub frame : IsSectioned c → (word : ℕ) → IsFrameWord w.log word → IsFrameFlushed hart word

  -- ---- All of it: its log in memory and what that says, the code ahead, and what it has stored

  pub record ThreadInv : Type 0 where
    pub log : LogInv code.thread.number c.old c.new w c.rest
    pub records : HasRecords y b code c (committed w code.thread.number c log.hart)
    pub graph_thread : GraphThread
    pub walks : slice_get (now_of y b).graph_threads code.thread.number ≡ Some graph_thread
    pub phase : InPhase log.hart graph_thread log.hart.phase
    pub stored : HasStored log.hart
    pub has_read : HasRead y b code.thread.number c

  -- all that is committed is taken so
  abbrev pub HasCommittedLog : ThreadInv → Type 0
  HasCommittedLog t = committed w code.thread.number c t.log.hart ≡ c.committed
