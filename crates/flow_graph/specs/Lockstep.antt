-- A source and the flow graph of its flat form step in lockstep: what is left to do stands at a node.
use Rattle.std.specs.Prelude.{◌≡◌, ◌≤◌, ◌<◌, ℕ, List, [], ◌∷◌, ◌++◌, length, slice_get, Option, Some, None, Bool, true, false, is_some}
use Rattle.ido_base.specs.declared.place.Place.{Place}
use Rattle.c_tree.specs.Exprs as e
use Rattle.c_tree.specs.Flats as f
use Rattle.c_tree.specs.Source as m
use Rattle.c_tree.specs.Source.{opened_all}
use Rattle.c_tree.specs.WellFormed.{IsWellFormed}
use Rattle.flow_graph.specs.declared.graph.Part.{Part}
use Rattle.flow_graph.specs.Lowering.{lowered}
use Rattle.flow_graph.specs.Actions.{GraphThread, FlowState, graph_start, graph_step, graph_after, graph_runs, graph_ended}

-- ---- What is left to do at each node

pub record Standing : Type 0 where
  pub left : List f.Statement
  -- a store is pending
  pub owes : Bool

abbrev pub free : List f.Statement → Standing
free left = record { left = left; owes = false }

abbrev pub owing : List f.Statement → Standing
owing left = record { left = left; owes = true }

-- of an assignment with `rest` after it: the store of a variable has a node of its own
abbrev pub assign_standings : Place → e.Lvalue → e.Placed → (rest : List f.Statement) → List Standing
assign_standings place (e.ToLocal name local kind) value rest = free (f.Assign place (e.ToLocal name local kind) value ∷ rest) ∷ []
assign_standings place (e.ToVariable name variable kind) value rest =
    free (f.Assign place (e.ToVariable name variable kind) value ∷ rest) ∷ owing rest ∷ []
assign_standings place (e.ToElement name variable kind index) value rest =
    free (f.Assign place (e.ToElement name variable kind index) value ∷ rest) ∷ owing rest ∷ []

-- of the nodes of a part in turn, with `rest` after the part
abbrev mutual
  pub standings : f.Statement → (rest : List f.Statement) → List Standing
  standings (f.Assign place target value) rest = assign_standings place target value rest
  standings (f.If place arms otherwise) rest = arms_standings arms place otherwise rest ++ all_standings otherwise rest
  standings (f.While place condition body) rest =
      free (f.While place condition body ∷ rest) ∷ all_standings body (f.While place condition body ∷ rest)
  standings (f.Do place body condition) rest =
      all_standings body (f.While place condition body ∷ rest) ++ free (f.While place condition body ∷ rest) ∷ []
  standings (f.Lock place name) rest = free (f.Lock place name ∷ rest) ∷ []
  standings (f.Unlock place name) rest = free (f.Unlock place name ∷ rest) ∷ []

  pub all_standings : f.Statements → (rest : List f.Statement) → List Standing
  all_standings f.no_statement rest = []
  all_standings (f.statement_and x more) rest = standings x (opened_all more ++ rest) ++ all_standings more rest

  -- at the test of an arm the arms before it are gone
  pub arms_standings : f.Arms → Place → (otherwise : f.Statements) → (rest : List f.Statement) → List Standing
  arms_standings f.no_arm place otherwise rest = []
  arms_standings (f.arm_and condition body arms) place otherwise rest =
      free (f.If place (f.arm_and condition body arms) otherwise ∷ rest) ∷ all_standings body rest ++ arms_standings arms place otherwise rest

-- nothing is left at a thread's end
abbrev pub thread_standings : f.Thread → List Standing
thread_standings t = all_standings t.body [] ++ free [] ∷ []

abbrev pub threads_standings : List f.Thread → List Standing
threads_standings [] = []
threads_standings (t ∷ ts) = thread_standings t ++ threads_standings ts

-- what is left to do at the node of the flat form's graph
abbrev pub HasStandingAt : f.Flat → (node : ℕ) → Standing → Type 0
HasStandingAt x node standing = slice_get (threads_standings x.threads) node ≡ Some standing

-- the node is one of the thread's own
pub record IsOwnNode (x : f.Flat) (thread node : ℕ) : Type 0 where
  pub part : Part
  pub of_thread : slice_get (lowered x).threads thread ≡ Some part
  pub from_first : part.first ≤ node
  pub below_end : node < part.end

-- ---- States that match

-- a graph thread matches a thread: the same locals, pending store and end, and what is left stands at the graph thread's node
pub record GraphThreadMatches (x : f.Flat) (graph_thread : GraphThread) (thread : m.Thread) : Type 0 where
  pub locals : graph_thread.locals ≡ thread.locals
  pub pending : graph_thread.pending ≡ thread.pending
  pub ended : graph_thread.ended ≡ thread.ended
  pub stands : HasStandingAt x graph_thread.at (record { left = thread.left; owes = is_some thread.pending })

pub record Matches (x : f.Flat) (flow : FlowState) (source : m.State) : Type 0 where
  pub variables : flow.variables ≡ source.variables
  pub holders : flow.holders ≡ source.holders
  pub count : length flow.graph_threads ≡ length source.threads
  pub each : (t : ℕ) (graph_thread : GraphThread) (thread : m.Thread) → slice_get flow.graph_threads t ≡ Some graph_thread →
      slice_get source.threads t ≡ Some thread →
      GraphThreadMatches x graph_thread thread

-- a step is there in one exactly where it is in the other, and leads to states that match
abbrev pub StepsMatch : f.Flat → Option FlowState → Option m.State → Type 0
StepsMatch x None None = Unit {0}
StepsMatch x None (Some source) = ⊥
StepsMatch x (Some flow) None = ⊥
StepsMatch x (Some flow) (Some source) = Matches x flow source

-- ---- Lockstep

-- a well formed flat form and its graph begin in states that match
abbrev pub BeginsLockstep : Type 0
BeginsLockstep = (x : f.Flat) → IsWellFormed x → Matches x (graph_start (lowered x) x) (m.start x)

-- a well formed flat form and its graph step in lockstep from states that match
abbrev pub StepsLockstep : Type 0
StepsLockstep = (x : f.Flat) (flow : FlowState) (source : m.State) (thread : ℕ) → IsWellFormed x → Matches x flow source →
    StepsMatch x (graph_step (lowered x) flow thread) (m.source_step source thread)

-- after each schedule the states match, the same schedules can be stepped whole, and as many sections end
pub record RunsMatch (x : f.Flat) (schedule : List ℕ) : Type 0 where
  pub states : Matches x (graph_after (lowered x) (graph_start (lowered x) x) schedule) (m.after_from (m.start x) schedule)
  pub whole : graph_runs (lowered x) (graph_start (lowered x) x) schedule ≡ m.runs_from (m.start x) schedule
  pub sections : (thread : ℕ) → graph_ended (lowered x) (graph_start (lowered x) x) schedule thread ≡ m.ended_from (m.start x) schedule thread

abbrev pub RunsLockstep : Type 0
RunsLockstep = (x : f.Flat) (schedule : List ℕ) → IsWellFormed x → RunsMatch x schedule
