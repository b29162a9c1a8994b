-- What the records of threads' logs say of the kept state.
use Rattle.std.specs.Prelude.{◌≡◌, ◌≢◌, ◌↔◌, ℕ, ℤ, ◌<◌, List, [], length, slice_get, Contains, Option, Some, None, Bool, true, false, ◌==◌, if◌then◌else◌}
use Rattle.c_tree.specs.Exprs.{LockName}
use Rattle.ido_base.specs.Locks.{holds_none}
use Rattle.c_tree.specs.Source as m
use Rattle.source_machine.specs.Discipline.{StateKeeps}
use Rattle.log_schemes.specs.declared.log.Log.{Log}
use Rattle.log_schemes.specs.Layout.{frame_at}
use Rattle.machine_model.specs.Machine.{resume_of}
use Rattle.code_runs.specs.CodeTraces.{Program}
use Rattle.expr_code.specs.EvaluationCode.{home_of}
use Rattle.expr_code.specs.declared.home.Home.TheVariants.{InFrame}
use Rattle.flow_graph.specs.Nodes.{Lock, Unlock, Node}
use Rattle.flow_graph.specs.Actions.{GraphThread, FlowState, Seen, Sets, effect_of, seen_by}
use Rattle.flow_graph.specs.Lockstep.{Matches}
use Rattle.flow_graph.specs.IdempotentCuts.{IsChosen}
use Rattle.flow_graph.specs.Liveness.{IsLive, NodeAt}
use Rattle.log_states.specs.Logs.{Record}
use Rattle.thread_code.specs.Plans.{Plan, Thread, IsLogged, IsThread, IsNodeOf, held_names_before, locks_before}
use Rattle.thread_code.specs.RegistersAtNodes.{Enters, IsCountedOn, IsReady, LogView}
use Rattle.thread_code.specs.NodeCodeEffects.{Places, bytes_written}
use Rattle.thread_code.specs.Programs.{IsThreadCode}

-- a thread of a plan, and the program that is its code
pub record Code (p : Plan) : Type 0 where
  pub thread : Thread
  pub of : IsThread p thread
  pub program : Program
  pub is : IsThreadCode p thread program

-- of each thread of a plan
pub record Codes (p : Plan) : Type 0 where
  pub each : (n : ℕ) → n < length p.graph.threads → Code p
  pub number : (n : ℕ) (below : n < length p.graph.threads) → (each n below).thread.number ≡ n

-- a state of a plan's graph that matches one of the source in which each thread keeps the lock discipline, and mutexes are held by threads
pub record IsOrderly (p : Plan) (s : FlowState) : Type 0 where
  pub source : m.State
  pub matches : Matches p.flat s source
  pub keeps : StateKeeps p.flat source
  pub count : length s.graph_threads ≡ length p.graph.threads
  pub locks : length s.holders ≡ length p.flat.mutexes
  pub holders : (lock n : ℕ) → slice_get s.holders lock ≡ Some (Some n) → n < length p.graph.threads

-- ---- Where a thread goes on at a node

-- at the node's entry, or at its core, past the boundary before it
pub data NodePlace : Type 0 where
  the_entry : NodePlace
  the_core : NodePlace

-- the registers that a boundary keeps there
abbrev pub registers_kept : Places → (node : ℕ) → NodePlace → List ℕ
registers_kept c node the_entry = c.live node
registers_kept c node the_core = c.kept node

-- how many bytes the write has that comes there next, if one comes
abbrev pub ComesNext : Plan → (node : ℕ) → NodePlace → (written : Option ℕ) → Type 0
ComesNext p node the_entry written = written ≡ None
ComesNext p node the_core written = (is : Node) → NodeAt p.graph node is → written ≡ bytes_written is.action

module _ (p : Plan) (t : Thread) (node : ℕ) where
  -- the thread counts on the local there
  abbrev pub CountsOn : NodePlace → (local : ℕ) → Type 0
  CountsOn the_entry local = IsLive p.graph local node
  CountsOn the_core local = IsCountedOn p t node local

  -- the word of its frame in which such a local stands
  pub record IsCountedWord (place : NodePlace) (word : ℕ) : Type 0 where
    pub local : ℕ
    pub counted : CountsOn place local
    pub home : home_of t.locals local ≡ InFrame (frame_at p.log t.number word)

  -- these are all such words
  abbrev pub AreCounted : NodePlace → (words : List ℕ) → Type 0
  AreCounted place words = (word : ℕ) → Contains words word ↔ IsCountedWord place word

  -- where the node is a logged assignment, the number is the one that it gives its local
  abbrev pub IsNumberAssigned : Seen → (owed : ℤ) → Type 0
  IsNumberAssigned seen owed = (is : Node) (local : ℕ) (number : ℤ) (next : ℕ) → NodeAt p.graph node is → IsLogged p t node →
      effect_of is.action seen ≡ Some (Sets local number next) → owed ≡ number

  -- a thread with these locals and pending store may go on there with these registers, where its log is so; a logged assignment owes this number
  abbrev pub MayGoOn : NodePlace → Seen → LogView → (owed : ℤ) → (registers : List ℕ) → Type 0
  MayGoOn the_entry seen view owed registers = Enters p t node seen view registers
  MayGoOn the_core seen view owed registers = IsReady p t node seen view owed registers × IsNumberAssigned seen owed

-- the numbers in the words of a thread's frame
abbrev pub words_in : Log → (thread : ℕ) → LogView → (word : ℕ) → ℕ
words_in log thread view word = view.frame (frame_at log thread word)

-- ---- Records

-- the locks of a record
abbrev pub locks_of : Record → List ℕ
locks_of r = if r.point == 0 then [] else r.locks

-- after the boundary at which a thread stands at the node, it is resumed at this address
pub data ResumesAt (p : Plan) (code : Code p) (node : ℕ) : NodePlace → (address : ℕ) → Type 0 where
  at_chosen : IsChosen p.graph p.boundaries node → ResumesAt p code node the_core (code.is.places.core node)
  past_lock : (from : ℕ) (lock : LockName) (is : Node) → IsNodeOf code.thread from → NodeAt p.graph from is → is.action ≡ Lock lock node →
      ResumesAt p code node the_entry (code.is.places.after from)
  past_unlock : (from : ℕ) (lock : LockName) (is : Node) → IsNodeOf code.thread from → NodeAt p.graph from is → is.action ≡ Unlock lock node →
      held_names_before p code.thread node ≢ [] → ResumesAt p code node the_entry (code.is.places.after from)

-- the thread stands at a node of a section, and the record is what a boundary keeps there
pub record IsInside (p : Plan) (code : Code p) (kept : FlowState) (r : Record) : Type 0 where
  pub graph_thread : GraphThread
  pub there : slice_get kept.graph_threads code.thread.number ≡ Some graph_thread
  pub goes_on : graph_thread.ended ≡ false
  pub own : IsNodeOf code.thread graph_thread.at
  pub point : r.point ≢ 0
  pub place : NodePlace
  pub resumes : ResumesAt p code graph_thread.at place (resume_of r.point)
  pub locks : r.locks ≡ locks_before p code.thread graph_thread.locals graph_thread.at
  pub live : r.live ≡ registers_kept code.is.places graph_thread.at place
  pub written : ComesNext p graph_thread.at place r.written
  pub framed : AreCounted p code.thread graph_thread.at place r.framed
  -- the registers are those at the boundary, before which the log was so
  pub view : LogView
  pub frame : (word : ℕ) → Contains r.framed word → r.frame word ≡ words_in p.log code.thread.number view word
  pub owed : ℤ
  pub may : MayGoOn p code.thread graph_thread.at place (seen_by kept graph_thread) view owed r.registers

-- what a thread's record says of the kept state
pub data Describes (p : Plan) (code : Code p) (kept : FlowState) (r : Record) : Type 0 where
  -- between sections there is no point
  between : holds_none kept.holders code.thread.number ≡ true → r.point ≡ 0 → Describes p code kept r
  inside : holds_none kept.holders code.thread.number ≡ false → IsInside p code kept r → Describes p code kept r

-- the thread stands at the node after a logged assignment, and its record is one of the boundary before that: where it is resumed it stores again what its
-- local has. So it is of a record whose number isn't the one that the assignment gives: no run leaves such a one
pub record IsPastAssignment (p : Plan) (code : Code p) (kept : FlowState) (r : Record) : Type 0 where
  pub holds : holds_none kept.holders code.thread.number ≡ false
  pub graph_thread : GraphThread
  pub there : slice_get kept.graph_threads code.thread.number ≡ Some graph_thread
  pub goes_on : graph_thread.ended ≡ false
  pub own : IsNodeOf code.thread graph_thread.at
  pub point : r.point ≢ 0
  pub locks : r.locks ≡ locks_before p code.thread graph_thread.locals graph_thread.at
  -- the assignment
  pub node : ℕ
  pub own_node : IsNodeOf code.thread node
  pub logged : IsLogged p code.thread node
  pub goes : logged.assigns.next ≡ graph_thread.at
  pub owed : ℤ
  pub number : slice_get graph_thread.locals logged.local ≡ Some owed
  -- the record is what the boundary before its core keeps
  pub chosen : IsChosen p.graph p.boundaries node
  pub resumes : resume_of r.point ≡ code.is.places.core node
  pub live : r.live ≡ registers_kept code.is.places node the_core
  pub framed : AreCounted p code.thread node the_core r.framed
  pub view : LogView
  pub frame : (word : ℕ) → Contains r.framed word → r.frame word ≡ words_in p.log code.thread.number view word
  pub ready : IsReady p code.thread node (seen_by kept graph_thread) view owed r.registers

-- what a record says, where its thread stands late by one assignment or not
abbrev pub DescribesAs : (p : Plan) → Code p → FlowState → (late : Bool) → Record → Type 0
DescribesAs p code kept false r = Describes p code kept r
DescribesAs p code kept true r = IsPastAssignment p code kept r

-- the records of all threads, by their numbers
abbrev pub AllDescribe : (p : Plan) → Codes p → FlowState → (lates : ℕ → Bool) → (records : ℕ → Record) → Type 0
AllDescribe p codes kept lates records = (n : ℕ) (below : n < length p.graph.threads) → DescribesAs p (codes.each n below) kept (lates n) (records n)
