-- Laws of threads in fragments of their code: what each event does to them.
use Rattle.std.specs.Prelude.{◌≡◌, ◌≢◌, ◌⊎◌, ℕ, suc, ◌+◌, ◌-◌, ◌*◌, ◌^◌, ◌<◌, ◌≤◌, List, [], ◌∷◌, ◌++◌, length, slice_get, slice_set, slice_index_or}
use Rattle.std.specs.Prelude.{Contains, Option, Some, None, true, false, ℤ}
use Rattle.log_schemes.specs.declared.log.Log.{Log}
use Rattle.machine_events.specs.declared.event.Event.{Event}
use Rattle.machine_events.specs.declared.event.Event.TheVariants.{Step}
use Rattle.machine_events.specs.declared.event.Reply.TheVariants.{Waits, Stuck}
use Rattle.machine_events.specs.declared.event.Cause.{Cause}
use Rattle.ido_base.specs.Locks.{least_held}
use Rattle.rv64_isa.specs.declared.object.Slot.{Slot}
use Rattle.machine_model.specs.declared.phase.Phase.TheVariants.{Run, Ended}
use Rattle.rv64_isa.specs.Rows.{Effect, Stores, read}
use Rattle.memory_layout.specs.Roles.{pending_value}
use Rattle.machine_model.specs.Machine.{Hart, World, queue_limit, after_event, reply_to, happens, moved, with_holder, gone_on}
use Rattle.machine_model.specs.Frames.{IsWellFormedWorld}
use Rattle.machine_model.specs.Schedule.{effect_at, is_point_store, is_fence, passes_mark, stores_point, finishes_fence}
use Rattle.boundary_code.specs.Boundaries.{IsOnSide, boundary_effects}
use Rattle.expr_code.specs.EvaluationCode.{home_of}
use Rattle.expr_code.specs.declared.home.Home.TheVariants.{InFrame}
use Rattle.flow_graph.specs.Nodes.{Action, Node}
use Rattle.flow_graph.specs.Actions as a
use Rattle.flow_graph.specs.Actions.{effect_of, Seen}
use Rattle.flow_graph.specs.IdempotentCuts.{IsChosen}
use Rattle.flow_graph.specs.Liveness.{NodeAt}
use Rattle.code_runs.specs.ComputingRuns.{config}
use Rattle.code_runs.specs.CodeTraces.{Program, MarkedEnvironment, Meets, Mark, seen_effects}
use Rattle.hart_runs.specs.HartsOnRuns.{Agrees, IsRunningAt, OnRun}
use Rattle.hart_runs.specs.RunSteps.{GoesForward, Drains, steps_left}
use Rattle.hart_runs.specs.Calls.{phase_after}
use Rattle.hart_runs.specs.Laws.{IsApart, IsOfOthers, AreShort}
use Rattle.thread_code.specs.Plans.{Plan, Thread, IsLogged, IsThread, IsNodeOf, AreKept, AreKeptBefore, IsPlan}
use Rattle.thread_code.specs.RegistersAtNodes.{Enters, IsAnswered, IsFrameAnswered, IsFrameOn, IsFrameOnAtCore, IsReady, LogView, source_of, with_word}
use Rattle.thread_code.specs.NodeCodeEffects.{Places, keeping, keeping_before, opens_section, view_after}
use Rattle.thread_code.specs.Programs.{IsThreadCode, IsResumeAddress, at_chosen, past_lock, past_unlock}
use Rattle.thread_runs.specs.CodeFragments.{Arrives, Keeps, Computes, Asks, Took, Gives, Ends, Stage, ReadsOwn}
use Rattle.thread_runs.specs.CodeFragments.{effects_of, end_of, IsLockOf, IsUnlockOf, IsOnFragment}
use Rattle.thread_runs.specs.CodeFragments.{Running, on_machine, IsAtCore, IsAtMark, IsMadeBy, AreSeen, IsPlaced, MayDo, stage_after}

-- what a thread owes is the number that the node assigns
abbrev pub IsOwing : Action → Seen → (owed : ℤ) → Type 0
IsOwing action seen owed = (local : ℕ) (number : ℤ) (next : ℕ) → effect_of action seen ≡ Some (a.Sets local number next) → owed ≡ number

-- the machine has the marks of hart h that the environment has
abbrev pub AreMarksOf : (marks : List (List ℕ)) → (h : ℕ) → MarkedEnvironment → Type 0
AreMarksOf marks h s = slice_index_or marks h [] ≡ s.marks

-- nothing is counted of a step of hart h
abbrev pub CountsNone : List (List Slot) → World → (h : ℕ) → Type 0
CountsNone program w h = (stores_point program w (Step h) h ≡ false) × (finishes_fence program w (Step h) h ≡ false)

-- the hart a step later
abbrev pub stepped : Running → Running
stepped r = record r { world = after_event r.program r.world (Step r.hart) }

module _ (p : Plan) (t : Thread) (c : Places) where
  -- ---- Delay: the most steps that the hart needs to a fragment's end

  abbrev pub left_of : {r : Running} {stage : Stage} {steps : ℕ} {effects : List Effect} → IsOnFragment p t c r stage steps effects → ℕ
  left_of {steps = steps} {effects = effects} fragment = steps_left steps (seen_effects effects) fragment.on.hart.queue

  -- the most steps that the hart needs from a mark on
  abbrev pub left_at : {r : Running} {e : a.Effect} {stage : Stage} {steps : ℕ} {effects : List Effect} → IsAtMark p t c r e stage steps effects → ℕ
  left_at {steps = steps} {effects = effects} at = steps_left (suc steps) (Mark ∷ seen_effects effects) at.on.hart.queue

  -- ---- Steps in a fragment

  -- the run before a fragment's end
  abbrev pub run_of : {r : Running} {stage : Stage} {steps : ℕ} {effects : List Effect} → IsOnFragment p t c r stage (suc steps) effects → OnRun r.world r.hart
  run_of {r = r} {stage = stage} {steps = steps} {effects = effects} fragment =
      record {
        environment = r.environment;
        steps = steps;
        seen = seen_effects effects;
        to = config fragment.registers (end_of p t c stage.exit stage.node);
        on = fragment.on;
      }

  -- the run from a mark on
  abbrev pub run_at : {r : Running} {e : a.Effect} {stage : Stage} {steps : ℕ} {effects : List Effect} → IsAtMark p t c r e stage steps effects →
      OnRun r.world r.hart
  run_at {r = r} {stage = stage} {steps = steps} {effects = effects} at =
      record {
        environment = r.environment;
        steps = steps;
        seen = Mark ∷ seen_effects effects;
        to = config at.registers (end_of p t c stage.exit stage.node);
        on = at.on;
      }

  -- the next instruction is completed, and its effect is the first that was ahead, if it is one on memory
  pub record CompletesInstruction (r : Running) (stage : Stage) (steps : ℕ) (effects : List Effect)
      (fragment : IsOnFragment p t c r stage (suc steps) effects) : Type 0 where
    pub forward : GoesForward r.program r.world r.hart (run_of fragment)
    pub later : List Effect
    pub effects_are : effects ≡ effects_of forward.effect ++ later
    pub on : IsOnFragment p t c (stepped r) stage steps later
    pub point : stores_point r.program r.world (Step r.hart) r.hart ≡ is_point_store r.world.log r.hart forward.effect
    pub fence : finishes_fence r.program r.world (Step r.hart) r.hart ≡ is_fence forward.effect
    pub less : suc (left_of on) ≡ left_of fragment
    pub same : on.on.hart ≡ forward.on.hart

  -- an entry of the queue is written back
  pub record IsHeldUp (r : Running) (stage : Stage) (steps : ℕ) (effects : List Effect)
      (fragment : IsOnFragment p t c r stage (suc steps) effects) : Type 0 where
    pub drains : Drains r.program r.world r.hart (run_of fragment)
    pub on : IsOnFragment p t c (stepped r) stage (suc steps) effects
    pub counts : CountsNone r.program r.world r.hart
    pub less : suc (left_of on) ≡ left_of fragment
    pub same : on.on.hart ≡ drains.on.hart

-- a step in a fragment goes on, or is held up; it passes no mark
abbrev pub FragmentsGoOn : Type 0
FragmentsGoOn = (p : Plan) (t : Thread) (c : Places) (program : List (List Slot)) (w : World) (h : ℕ) (s : MarkedEnvironment) (stage : Stage) (steps : ℕ)
    (effects : List Effect) → IsWellFormedWorld w → (fragment : IsOnFragment p t c (on_machine program w h s) stage (suc steps) effects) →
    (CompletesInstruction p t c (on_machine program w h s) stage steps effects fragment
    ⊎ IsHeldUp p t c (on_machine program w h s) stage steps effects fragment) ×
    ((marks : List (List ℕ)) → AreMarksOf marks h s → passes_mark marks program w h ≡ false)

-- what others do leaves a thread in its fragment, where memory goes on to agree
abbrev pub OthersKeepFragments : Type 0
OthersKeepFragments = (p : Plan) (t : Thread) (c : Places) (program : List (List Slot)) (w : World) (h : ℕ) (s : MarkedEnvironment) (stage : Stage) (steps : ℕ)
    (effects : List Effect) (event : Event) → IsWellFormedWorld w → IsOfOthers h event → IsOnFragment p t c (on_machine program w h s) stage steps effects →
    Agrees program (after_event program w event) h s → IsOnFragment p t c (on_machine program (after_event program w event) h s) stage steps effects

-- at its end a fragment is one in any environment
abbrev pub FragmentsResettle : Type 0
FragmentsResettle =
    (p : Plan) (t : Thread) (c : Places) (program : List (List Slot)) (w : World) (h : ℕ) (s z : MarkedEnvironment) (stage : Stage) (effects : List Effect) →
    Meets c.program z → Agrees program w h z → IsOnFragment p t c (on_machine program w h s) stage 0 effects →
    IsOnFragment p t c (on_machine program w h z) stage 0 []

-- ---- Where a fragment ends

module _ (p : Plan) (t : Thread) (c : Places) where
  -- a fragment to the end of which so many steps are left at most
  pub record IsOnSomeFragment (r : Running) (stage : Stage) (most : ℕ) (effects : List Effect) : Type 0 where
    pub steps : ℕ
    pub short : steps ≤ most
    pub on : IsOnFragment p t c r stage steps effects

  -- through what is computed before the boundary of a node that does this, and that boundary
  pub record BoundaryRun (r : Running) (action : Action) (node : ℕ) (seen : Seen) (view : LogView) (owed : ℤ) : Type 0 where
    -- the registers at the boundary
    pub registers : List ℕ
    pub ready : IsReady p t node seen view owed registers
    pub on : IsOnSomeFragment r
        (record { exit = Keeps owed; node = node; seen = seen; view = view_after (keeping_before p t c action seen.locals node) view }) (c.words node)
        (boundary_effects (keeping_before p t c action seen.locals node) view.side (c.core node) registers)

  -- at the entry of its node the thread begins with the boundary before it, where what the node reads is answered, or is at its code
  pub record HasArrived (r : Running) (action : Action) (node : ℕ) (seen : Seen) (view : LogView) (registers : List ℕ) : Type 0 where
    pub chosen : IsChosen p.graph p.boundaries node → IsAnswered (source_of p t seen) r.environment.around.loads action →
        IsFrameAnswered p t view node r.environment.around.loads → (owed : ℤ) → IsOwing action seen owed → BoundaryRun r action node seen view owed
    pub plain : ¬ (IsChosen p.graph p.boundaries node) → (owed : ℤ) → IsAtCore p t c r.world r.hart node seen view owed registers

  -- at the store of an assignment outside sections: the next instruction stores the number, and then the thread is on its way to the node after the assignment
  pub record IsAtStore (r : Running) (from word value : ℕ) (stage : Stage) : Type 0 where
    pub steps : ℕ
    pub short : suc steps ≤ c.words from
    pub on : IsOnFragment p t c r (record { exit = Arrives; node = stage.node; seen = stage.seen; view = with_word stage.view word value }) (suc steps)
        (Stores word 8 value ∷ [])
    pub first : (effect : Effect) → effect_at r.program r.hart on.on.hart ≡ Some effect → effect ≡ Stores word 8 value

abbrev pub ArrivalsEnd : Type 0
ArrivalsEnd = (p : Plan) (t : Thread) (program : List (List Slot)) (own : Program) (code : IsThreadCode p t own) (w : World) (h : ℕ) (s : MarkedEnvironment)
    (node : ℕ) (seen : Seen) (view : LogView) (effects : List Effect) → IsPlaced p t code.places w.log (length w.harts) → ReadsOwn w.log t.number s →
    (is : Node) → NodeAt p.graph node is →
    (fragment : IsOnFragment p t code.places (on_machine program w h s) (record { exit = Arrives; node = node; seen = seen; view = view }) 0 effects) →
    HasArrived p t code.places (on_machine program w h s) is.action node seen view fragment.registers

-- after the boundary before its node the thread is at the node's code
abbrev pub KeepsEnd : Type 0
KeepsEnd = (p : Plan) (t : Thread) (c : Places) (program : List (List Slot)) (w : World) (h : ℕ) (s : MarkedEnvironment)
    (node : ℕ) (seen : Seen) (view : LogView) (owed : ℤ) (effects : List Effect) →
    (fragment : IsOnFragment p t c (on_machine program w h s) (record { exit = Keeps owed; node = node; seen = seen; view = view }) 0 effects) →
    IsAtCore p t c w h node seen view owed fragment.registers

-- where the number of an assignment outside sections is computed the thread is at its store, if the environment doesn't answer the local's word
abbrev pub ComputesEnd : Type 0
ComputesEnd = (p : Plan) (t : Thread) (c : Places) (program : List (List Slot)) (w : World) (h : ℕ) (s : MarkedEnvironment)
    (from local : ℕ) (number : ℤ) (node : ℕ) (seen : Seen) (view : LogView) (effects : List Effect) → IsPlaced p t c w.log (length w.harts) →
    (fragment : IsOnFragment p t c (on_machine program w h s) (record { exit = Computes from local number; node = node; seen = seen; view = view }) 0 effects) →
    IsApart s fragment.of_graph.word 8 →
    IsAtStore p t c (on_machine program w h s) from fragment.of_graph.word (read fragment.registers pending_value)
    (record { exit = Computes from local number; node = node; seen = seen; view = view })

-- after the boundary that follows a lock the thread goes to its node
abbrev pub TookEnd : Type 0
TookEnd = (p : Plan) (t : Thread) (program : List (List Slot)) (own : Program) (code : IsThreadCode p t own) (w : World) (h : ℕ) (s : MarkedEnvironment)
    (from node : ℕ) (seen : Seen) (view : LogView) (effects : List Effect) → IsPlaced p t code.places w.log (length w.harts) →
    IsOnFragment p t code.places (on_machine program w h s) (record { exit = Took from; node = node; seen = seen; view = view }) 0 effects →
    IsOnSomeFragment p t code.places (on_machine program w h s) (record { exit = Arrives; node = node; seen = seen; view = view })
    (code.places.words from - 3) []

-- after a lock and its boundary, or an unlock, the thread goes to its node: so does one that is resumed there
abbrev pub GoesOnFrom : (from next : ℕ) → Plan → Thread → Type 0
GoesOnFrom from next p t = (program : List (List Slot)) (own : Program) (code : IsThreadCode p t own) (w : World) (h : ℕ) (s : MarkedEnvironment)
    (seen : Seen) (view : LogView) (registers : List ℕ) → IsPlaced p t code.places w.log (length w.harts) → Meets code.places.program s → Agrees program w h s →
    IsRunningAt w h (config registers (code.places.after from)) → Enters p t next seen view registers →
    IsOnSomeFragment p t code.places (on_machine program w h s) (record { exit = Arrives; node = next; seen = seen; view = view })
    (code.places.words from - 3) []

abbrev pub LocksGoOn : Type 0
LocksGoOn = (p : Plan) (t : Thread) (from : ℕ) (locals : List ℤ) (mutex next : ℕ) → IsLockOf p t from locals mutex next → GoesOnFrom from next p t

abbrev pub UnlocksGoOn : Type 0
UnlocksGoOn = (p : Plan) (t : Thread) (from : ℕ) (locals : List ℤ) (mutex next : ℕ) → IsUnlockOf p t from locals mutex next → GoesOnFrom from next p t

-- ---- Marks

module _ (p : Plan) (t : Thread) (c : Places) where
  -- the thread is at the mark of its node
  pub record IsAtSomeMark (r : Running) (node : ℕ) (seen : Seen) (view : LogView) (registers : List ℕ) (e : a.Effect) : Type 0 where
    pub steps : ℕ
    pub effects : List Effect
    pub short : suc steps ≤ c.words node
    pub at : IsAtMark p t c r e (stage_after p t c node seen view registers e) steps effects
    pub seen_are : AreSeen p t c node seen view registers e effects

  -- what a thread does at its node's code: it asks for a mutex, or is at its mark
  abbrev pub Performing : Running → (node : ℕ) → Seen → LogView → (registers : List ℕ) → a.Effect → Type 0
  Performing r node seen view registers (a.Sets local number next) = IsAtSomeMark r node seen view registers (a.Sets local number next)
  Performing r node seen view registers (a.Owes store next) = IsAtSomeMark r node seen view registers (a.Owes store next)
  Performing r node seen view registers (a.Makes store next) = IsAtSomeMark r node seen view registers (a.Makes store next)
  Performing r node seen view registers (a.Goes next) = IsAtSomeMark r node seen view registers (a.Goes next)
  Performing r node seen view registers (a.Takes mutex next) =
      IsOnSomeFragment p t c r (record { exit = Asks mutex next; node = node; seen = seen; view = view }) (c.words node) []
  Performing r node seen view registers (a.Gives mutex next) = IsAtSomeMark r node seen view registers (a.Gives mutex next)
  Performing r node seen view registers a.Ends = IsAtSomeMark r node seen view registers a.Ends

  -- the hart passes its mark, and is in the fragment after it
  pub record PassesMark (r : Running) (e : a.Effect) (stage : Stage) (steps : ℕ) (effects : List Effect)
      (at : IsAtMark p t c r e stage steps effects) : Type 0 where
    pub forward : GoesForward r.program r.world r.hart (run_at p t c at)
    pub later : List Effect
    pub effects_are : effects ≡ effects_of forward.effect ++ later
    pub made : IsMadeBy p t c stage e forward.effect
    pub on : IsOnFragment p t c (stepped r) stage steps later
    pub mark : (marks : List (List ℕ)) → AreMarksOf marks r.hart r.environment → passes_mark marks r.program r.world r.hart ≡ true
    pub point : stores_point r.program r.world (Step r.hart) r.hart ≡ is_point_store r.world.log r.hart forward.effect
    pub fence : finishes_fence r.program r.world (Step r.hart) r.hart ≡ is_fence forward.effect
    pub less : suc (left_of p t c on) ≡ left_at p t c at
    pub same : on.on.hart ≡ forward.on.hart

  -- an entry of the queue is written back, and it stays at its mark
  pub record Stays (r : Running) (e : a.Effect) (stage : Stage) (steps : ℕ) (effects : List Effect)
      (at : IsAtMark p t c r e stage steps effects) : Type 0 where
    pub drains : Drains r.program r.world r.hart (run_at p t c at)
    pub still : IsAtMark p t c (stepped r) e stage steps effects
    pub no_mark : (marks : List (List ℕ)) → passes_mark marks r.program r.world r.hart ≡ false
    pub counts : CountsNone r.program r.world r.hart
    pub less : suc (left_at p t c still) ≡ left_at p t c at
    pub same : still.on.hart ≡ drains.on.hart

-- at a node's code, where what the node reads is answered, and a store that it makes may be made; a logged assignment reads nothing there
abbrev pub NodesBegin : Type 0
NodesBegin = (p : Plan) (t : Thread) (program : List (List Slot)) (own : Program) (code : IsThreadCode p t own) (w : World) (h : ℕ) (s : MarkedEnvironment)
    (node : ℕ) (seen : Seen) (view : LogView) (owed : ℤ) (registers : List ℕ) (is : Node) (e : a.Effect) →
    IsPlaced p t code.places w.log (length w.harts) → Meets code.places.program s → Agrees program w h s → ReadsOwn w.log t.number s →
    NodeAt p.graph node is → effect_of is.action seen ≡ Some e → (IsLogged p t node → IsOwing is.action seen owed) →
    (¬ (IsLogged p t node) → IsAnswered (source_of p t seen) s.around.loads is.action × IsFrameAnswered p t view node s.around.loads) →
    MayDo p t code.places w.log (length w.harts) s node e → IsAtCore p t code.places w h node seen view owed registers →
    Performing p t code.places (on_machine program w h s) node seen view registers e

-- at the core of a logged assignment, whatever number it owes its local: it is at the mark, by which it stores that number
abbrev pub AssignmentsBegin : Type 0
AssignmentsBegin = (p : Plan) (t : Thread) (program : List (List Slot)) (own : Program) (code : IsThreadCode p t own) (w : World) (h : ℕ)
    (s : MarkedEnvironment)
    (node : ℕ) (seen : Seen) (view : LogView) (owed : ℤ) (registers : List ℕ) (logged : IsLogged p t node) (word : ℕ) →
    home_of t.locals logged.local ≡ InFrame word → IsPlaced p t code.places w.log (length w.harts) → Meets code.places.program s → Agrees program w h s →
    ReadsOwn w.log t.number s → IsApart s word 8 → IsAtCore p t code.places w h node seen view owed registers →
    IsAtSomeMark p t code.places (on_machine program w h s) node seen view registers (a.Sets logged.local owed logged.assigns.next)

-- a step at a mark passes it, or writes back an entry of the queue
abbrev pub MarksPass : Type 0
MarksPass =
    (p : Plan) (t : Thread) (c : Places) (program : List (List Slot)) (w : World) (h : ℕ) (s : MarkedEnvironment) (e : a.Effect) (stage : Stage) (steps : ℕ)
    (effects : List Effect) → IsWellFormedWorld w → (at : IsAtMark p t c (on_machine program w h s) e stage steps effects) →
    PassesMark p t c (on_machine program w h s) e stage steps effects at ⊎ Stays p t c (on_machine program w h s) e stage steps effects at

-- what others do leaves a thread at its mark
abbrev pub OthersKeepMarks : Type 0
OthersKeepMarks =
    (p : Plan) (t : Thread) (c : Places) (program : List (List Slot)) (w : World) (h : ℕ) (s : MarkedEnvironment) (e : a.Effect) (stage : Stage) (steps : ℕ)
    (effects : List Effect) (event : Event) → IsWellFormedWorld w → IsOfOthers h event → IsAtMark p t c (on_machine program w h s) e stage steps effects →
    Agrees program (after_event program w event) h s → IsAtMark p t c (on_machine program (after_event program w event) h s) e stage steps effects

-- ---- Calls

module _ (p : Plan) (t : Thread) (c : Places) where
  -- the mutex is taken, and its mark passed: a thread that was at its call with those registers is in the fragment through the boundary after the lock
  pub record TakesMutex (r : Running) (mutex next : ℕ) (stage : Stage) (hart : Hart) (registers : List ℕ) : Type 0 where
    pub does : happens r.program r.world (Step r.hart) ≡ moved (with_holder r.world mutex (Some r.hart)) r.hart (gone_on hart)
    pub on : IsOnSomeFragment p t c (stepped r)
        (record {
          exit = Took stage.node;
          node = next;
          seen = stage.seen;
          view = view_after (keeping p t c (opens_section p t c stage.node) stage.seen.locals next) stage.view;
        })
        (c.words stage.node)
        (boundary_effects (keeping p t c (opens_section p t c stage.node) stage.seen.locals next) stage.view.side (c.after stage.node) registers)
    pub mark : (marks : List (List ℕ)) → AreMarksOf marks r.hart r.environment → passes_mark marks r.program r.world r.hart ≡ true
    pub counts : CountsNone r.program r.world r.hart

  -- the mutex is given back; unless the thread's recovery is done by that, it is after the unlock
  pub record GivesMutex (r : Running) (from mutex : ℕ) (stage : Stage) (hart : Hart) (registers : List ℕ) : Type 0 where
    pub does : happens r.program r.world (Step r.hart) ≡ moved (with_holder r.world mutex None) r.hart
        (record (gone_on hart) { phase = phase_after r.world r.hart (slice_set r.world.holders mutex None) })
    pub agrees : Agrees r.program (stepped r).world r.hart r.environment
    pub at : phase_after r.world r.hart (slice_set r.world.holders mutex None) ≡ Run → IsRunningAt (stepped r).world r.hart (config registers (c.after from))
    pub enters : Enters p t stage.node stage.seen stage.view registers
    pub no_mark : (marks : List (List ℕ)) → AreMarksOf marks r.hart r.environment → passes_mark marks r.program r.world r.hart ≡ false
    pub counts : CountsNone r.program r.world r.hart

-- where the mutex is free, a lock takes it; the boundary after it may load locals of the keys that it keeps
abbrev pub LocksTake : Type 0
LocksTake = (p : Plan) (t : Thread) (program : List (List Slot)) (own : Program) (code : IsThreadCode p t own) (w : World) (h : ℕ) (s : MarkedEnvironment)
    (node mutex next : ℕ) (seen : Seen) (view : LogView) (effects : List Effect) → IsPlaced p t code.places w.log (length w.harts) → ReadsOwn w.log t.number s →
    (fragment : IsOnFragment p t code.places (on_machine program w h s) (record { exit = Asks mutex next; node = node; seen = seen; view = view }) 0 effects) →
    IsFrameAnswered p t view next s.around.loads → slice_get w.holders mutex ≡ Some None → TakesMutex p t code.places (on_machine program w h s) mutex next
    (record { exit = Asks mutex next; node = node; seen = seen; view = view }) fragment.on.hart fragment.registers

-- where a thread holds the mutex, a lock waits
abbrev pub LocksWait : Type 0
LocksWait = (p : Plan) (t : Thread) (program : List (List Slot)) (own : Program) (code : IsThreadCode p t own) (w : World) (h : ℕ) (s : MarkedEnvironment)
    (node mutex next : ℕ) (seen : Seen) (view : LogView) (effects : List Effect) (holder : ℕ) →
    IsOnFragment p t code.places (on_machine program w h s) (record { exit = Asks mutex next; node = node; seen = seen; view = view }) 0 effects →
    slice_get w.holders mutex ≡ Some (Some holder) → (happens program w (Step h) ≡ (w, Waits mutex holder)) ×
    ((marks : List (List ℕ)) → passes_mark marks program w h ≡ false)

abbrev pub UnlocksGive : Type 0
UnlocksGive = (p : Plan) (t : Thread) (program : List (List Slot)) (own : Program) (code : IsThreadCode p t own) (w : World) (h : ℕ) (s : MarkedEnvironment)
    (from mutex next : ℕ) (seen : Seen) (view : LogView) (effects : List Effect) → IsPlaced p t code.places w.log (length w.harts) →
    (fragment : IsOnFragment p t code.places (on_machine program w h s) (record { exit = Gives from mutex; node = next; seen = seen; view = view }) 0 effects) →
    slice_get w.holders mutex ≡ Some (Some h) → GivesMutex p t code.places (on_machine program w h s) from mutex
    (record { exit = Gives from mutex; node = next; seen = seen; view = view }) fragment.on.hart fragment.registers

-- a thread that ends holds nothing
abbrev pub EndsEnd : Type 0
EndsEnd = (p : Plan) (t : Thread) (program : List (List Slot)) (own : Program) (code : IsThreadCode p t own) (w : World) (h : ℕ) (s : MarkedEnvironment)
    (node : ℕ) (seen : Seen) (view : LogView) (effects : List Effect) →
    (fragment : IsOnFragment p t code.places (on_machine program w h s) (record { exit = Ends; node = node; seen = seen; view = view }) 0 effects) →
    least_held w.holders h ≡ None →
    (happens program w (Step h) ≡ moved w h (record (gone_on fragment.on.hart) { phase = Ended })) ×
    ((marks : List (List ℕ)) → AreMarksOf marks h s → passes_mark marks program w h ≡ false)

-- ---- Where no thread is stuck

abbrev pub FragmentsAreWell : Type 0
FragmentsAreWell = (p : Plan) (t : Thread) (c : Places) (program : List (List Slot)) (w : World) (h : ℕ) (s : MarkedEnvironment) (stage : Stage) (steps : ℕ)
    (effects : List Effect) → IsOnFragment p t c (on_machine program w h s) stage (suc steps) effects → (cause : Cause) →
    reply_to program w (Step h) ≢ Stuck cause

abbrev pub MarksAreWell : Type 0
MarksAreWell =
    (p : Plan) (t : Thread) (c : Places) (program : List (List Slot)) (w : World) (h : ℕ) (s : MarkedEnvironment) (e : a.Effect) (stage : Stage) (steps : ℕ)
    (effects : List Effect) → IsAtMark p t c (on_machine program w h s) e stage steps effects → (cause : Cause) → reply_to program w (Step h) ≢ Stuck cause

-- no thread at its call is stuck: at a lock of a mutex that is there, an unlock of one that it holds, and an end where it holds nothing
abbrev pub LocksAreWell : Type 0
LocksAreWell = (p : Plan) (t : Thread) (program : List (List Slot)) (own : Program) (code : IsThreadCode p t own) (w : World) (h : ℕ) (s : MarkedEnvironment)
    (node mutex next : ℕ) (seen : Seen) (view : LogView) (effects : List Effect) (holder : Option ℕ) →
    IsOnFragment p t code.places (on_machine program w h s) (record { exit = Asks mutex next; node = node; seen = seen; view = view }) 0 effects →
    slice_get w.holders mutex ≡ Some holder → (cause : Cause) → reply_to program w (Step h) ≢ Stuck cause

abbrev pub UnlocksAreWell : Type 0
UnlocksAreWell = (p : Plan) (t : Thread) (program : List (List Slot)) (own : Program) (code : IsThreadCode p t own) (w : World) (h : ℕ) (s : MarkedEnvironment)
    (from mutex next : ℕ) (seen : Seen) (view : LogView) (effects : List Effect) →
    IsOnFragment p t code.places (on_machine program w h s) (record { exit = Gives from mutex; node = next; seen = seen; view = view }) 0 effects →
    slice_get w.holders mutex ≡ Some (Some h) → (cause : Cause) → reply_to program w (Step h) ≢ Stuck cause

abbrev pub EndsAreWell : Type 0
EndsAreWell = (p : Plan) (t : Thread) (program : List (List Slot)) (own : Program) (code : IsThreadCode p t own) (w : World) (h : ℕ) (s : MarkedEnvironment)
    (node : ℕ) (seen : Seen) (view : LogView) (effects : List Effect) →
    IsOnFragment p t code.places (on_machine program w h s) (record { exit = Ends; node = node; seen = seen; view = view }) 0 effects →
    least_held w.holders h ≡ None → (cause : Cause) → reply_to program w (Step h) ≢ Stuck cause

-- ---- At a node's code

-- what others do leaves a thread at its node's code
abbrev pub OthersKeepCores : Type 0
OthersKeepCores = (p : Plan) (t : Thread) (c : Places) (program : List (List Slot)) (w : World) (h node : ℕ) (seen : Seen) (view : LogView) (owed : ℤ)
    (registers : List ℕ) (event : Event) → IsWellFormedWorld w → IsOfOthers h event → IsAtCore p t c w h node seen view owed registers →
    IsAtCore p t c (after_event program w event) h node seen view owed registers

-- a step of a thread's own that writes back an entry of the queue leaves it at its node's code
abbrev pub StaysAreAtCore : Type 0
StaysAreAtCore =
    (p : Plan) (t : Thread) (c : Places) (program : List (List Slot)) (w : World) (h : ℕ) (s : MarkedEnvironment) (e : a.Effect) (stage : Stage) (steps : ℕ)
    (effects : List Effect) (at : IsAtMark p t c (on_machine program w h s) e stage steps effects) →
    Stays p t c (on_machine program w h s) e stage steps effects at →
    (node : ℕ) (seen : Seen) (view : LogView) (owed : ℤ) (registers : List ℕ) → IsAtCore p t c w h node seen view owed registers →
    IsAtCore p t c (after_event program w (Step h)) h node seen view owed registers

-- a thread begins at the entry of its first node
abbrev pub ThreadsStart : Type 0
ThreadsStart = (p : Plan) (t : Thread) (program : List (List Slot)) (own : Program) (code : IsThreadCode p t own) (w : World) (h : ℕ) (s : MarkedEnvironment)
    (seen : Seen) (view : LogView) (registers : List ℕ) → Meets code.places.program s → Agrees program w h s → IsNodeOf t t.part.first →
    IsRunningAt w h (config registers own.start) → Enters p t t.part.first seen view registers →
    IsOnFragment p t code.places (on_machine program w h s) (record { exit = Arrives; node = t.part.first; seen = seen; view = view }) 0 []

-- ---- What a thread sees of variables

abbrev pub sees : List (List ℤ) → Seen → Seen
sees variables seen = record seen { variables = variables }

abbrev pub stage_sees : List (List ℤ) → Stage → Stage
stage_sees variables stage = record stage { seen = sees variables stage.seen }

-- where a thread is depends on no variable
abbrev pub FragmentsSeeAll : Type 0
FragmentsSeeAll = (p : Plan) (t : Thread) (c : Places) (program : List (List Slot)) (w : World) (h : ℕ) (s : MarkedEnvironment) (stage : Stage) (steps : ℕ)
    (effects : List Effect) (variables : List (List ℤ)) → IsOnFragment p t c (on_machine program w h s) stage steps effects →
    IsOnFragment p t c (on_machine program w h s) (stage_sees variables stage) steps effects

abbrev pub CoresSeeAll : Type 0
CoresSeeAll = (p : Plan) (t : Thread) (c : Places) (w : World) (h node : ℕ) (seen : Seen) (view : LogView) (owed : ℤ) (registers : List ℕ)
    (variables : List (List ℤ)) → IsAtCore p t c w h node seen view owed registers → IsAtCore p t c w h node (sees variables seen) view owed registers

-- ---- Places

-- a plan's thread is placed in a machine that has room for it
abbrev pub PlansArePlaced : Type 0
PlansArePlaced = (p : Plan) (t : Thread) (c : Places) (log : Log) (threads : ℕ) → IsPlan p → IsThread p t →
    ((node : ℕ) → IsNodeOf t node → AreKept p t node (c.live node)) → ((node : ℕ) → IsNodeOf t node → AreKeptBefore p t node (c.kept node)) →
    p.log ≡ log → t.number < threads → c.program.start + 4 * length c.program.code < 2 ^ 64 → IsPlaced p t c log threads

-- ---- Delay

-- each step takes one of those that are left; these are no more than two for each instruction, and one for each entry of a full queue
abbrev pub FragmentsAreBounded : Type 0
FragmentsAreBounded = (p : Plan) (t : Thread) (c : Places) (program : List (List Slot)) (w : World) (h : ℕ) (s : MarkedEnvironment) (stage : Stage) (steps : ℕ)
    (effects : List Effect) → AreShort w → (fragment : IsOnFragment p t c (on_machine program w h s) stage steps effects) →
    left_of p t c fragment ≤ 2 * steps + queue_limit

abbrev pub MarksAreBounded : Type 0
MarksAreBounded = (p : Plan) (t : Thread) (c : Places) (program : List (List Slot)) (w : World) (h : ℕ) (s : MarkedEnvironment) (e : a.Effect) (stage : Stage)
    (steps : ℕ) (effects : List Effect) → AreShort w → (at : IsAtMark p t c (on_machine program w h s) e stage steps effects) →
    left_at p t c at ≤ 2 * suc steps + queue_limit

-- ---- Recovery

module _ (p : Plan) (t : Thread) (c : Places) where
  -- the node that a thread goes to from where it is resumed
  abbrev pub node_resumed : {address : ℕ} → IsResumeAddress p t c address → ℕ
  node_resumed (at_chosen node own chosen) = node
  node_resumed (past_lock from lock next is own found locks) = next
  node_resumed (past_unlock from lock next is own found unlocks holds) = next

  -- registers are what was kept of others, with which the thread could enter the node
  pub record MayEnterAgain (node : ℕ) (seen : Seen) (view : LogView) (registers : List ℕ) : Type 0 where
    pub kept : List ℕ
    pub old : LogView
    pub entered : Enters p t node seen old kept
    pub at_side : IsOnSide p.log view.side registers
    pub frame : IsFrameOn p t node old view
    pub same : (register : ℕ) → Contains (c.live node) register → read registers register ≡ read kept register

  -- or go on at its core
  pub record IsReadyAgain (node : ℕ) (seen : Seen) (view : LogView) (owed : ℤ) (registers : List ℕ) : Type 0 where
    pub kept : List ℕ
    pub old : LogView
    pub ready : IsReady p t node seen old owed kept
    pub at_side : IsOnSide p.log view.side registers
    pub frame : IsFrameOnAtCore p t node old view
    pub same : (register : ℕ) → Contains (c.kept node) register → read registers register ≡ read kept register

  abbrev pub AreResumed : {address : ℕ} → IsResumeAddress p t c address → Seen → LogView → (owed : ℤ) → (registers : List ℕ) → Type 0
  AreResumed (at_chosen node own chosen) seen view owed registers = IsReadyAgain node seen view owed registers
  AreResumed (past_lock from lock next is own found locks) seen view owed registers = MayEnterAgain next seen view registers
  AreResumed (past_unlock from lock next is own found unlocks holds) seen view owed registers = MayEnterAgain next seen view registers

  -- the thread is at the node's code, or in a fragment to its entry
  pub data IsUnderFragment (r : Running) (node : ℕ) (seen : Seen) (view : LogView) (owed : ℤ) (registers : List ℕ) : Type 0 where
    at_core : IsAtCore p t c r.world r.hart node seen view owed registers → IsUnderFragment r node seen view owed registers
    arrives : (from : ℕ) → IsNodeOf t from →
        IsOnSomeFragment p t c r (record { exit = Arrives; node = node; seen = seen; view = view }) (c.words from - 3) [] →
        IsUnderFragment r node seen view owed registers

-- a hart that recovery resumes goes on from where it is
abbrev pub ResumedGoOn : Type 0
ResumedGoOn = (p : Plan) (t : Thread) (program : List (List Slot)) (own : Program) (code : IsThreadCode p t own) (w : World) (h : ℕ) (s : MarkedEnvironment)
    (address : ℕ) (r : IsResumeAddress p t code.places address) (seen : Seen) (view : LogView) (owed : ℤ) (registers : List ℕ) →
    IsPlaced p t code.places w.log (length w.harts) →
    Meets code.places.program s → Agrees program w h s → IsRunningAt w h (config registers address) →
    AreResumed p t code.places r seen view owed registers →
    IsUnderFragment p t code.places (on_machine program w h s) (node_resumed p t code.places r) seen view owed registers
