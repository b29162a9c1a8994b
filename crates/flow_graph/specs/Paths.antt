-- The path of one thread alone through a graph, and which elements are read and written on it.
use Rattle.std.specs.Prelude.{◌≡◌, ℕ, zero, suc, ◌<◌, ◌≤◌, List, [], ◌∷◌, ◌++◌, length, replicate, slice_get, Contains, Option, Some, None, true, ℤ}
use Rattle.std.specs.Option.{option_map}
use Rattle.ido_base.specs.declared.location.Location.{Location}
use Rattle.ido_base.specs.Locations.{overlap, same}
use Rattle.c_tree.specs.Exprs as e
use Rattle.c_tree.specs.Flats as f
use Rattle.c_tree.specs.Source.{Pending}
use Rattle.c_tree.specs.LockNames.{lock_names}
use Rattle.c_tree.specs.WellFormed.{IsSingle, IsWellFormed}
use Rattle.flow_graph.specs.HeldKeys.{names_in}
use Rattle.flow_graph.specs.Nodes.{Action, Eval, Store, Test, Lock, Unlock, End, Node, Graph}
use Rattle.flow_graph.specs.Lowering.{lowered}
use Rattle.flow_graph.specs.Liveness.{NodeAt}
use Rattle.flow_graph.specs.Actions.{Seen, GraphThread, FlowState, element_in, seen_by, graph_start, graph_step, graph_after, graph_runs}
use Rattle.flow_graph.specs.IdempotentCuts.{Boundaries, IsEdge, IsBoundary, BeginsRegion, AreCuts}
use Rattle.std.specs.List.{AllByRecursion}

-- ---- Elements that are read and written

pub record Element : Type 0 where
  pub variable : ℕ
  pub element : ℕ

abbrev pub element : (variable number : ℕ) → Element
element variable number = record { variable = variable; element = number }

-- all that an expression names, in parts that aren't chosen too
abbrev pub expr_elements : e.Expr → Seen → List Element
expr_elements (e.Constant value) seen = []
expr_elements (e.Local local kind) seen = []
expr_elements (e.Variable place variable kind) seen = element variable 0 ∷ []
expr_elements (e.Element place variable kind index_place index) seen = element variable (element_in seen index) ∷ expr_elements index seen
expr_elements (e.Address variable index_place index) seen = expr_elements index seen
expr_elements (e.Referent place last local) seen = []
expr_elements (e.Unary operator operand) seen = expr_elements operand seen
expr_elements (e.Cast kind operand) seen = expr_elements operand seen
expr_elements (e.Converted kind operand) seen = expr_elements operand seen
expr_elements (e.Binary operator left right) seen = expr_elements left seen ++ expr_elements right seen
expr_elements (e.Conditional kind condition chosen otherwise) seen =
    expr_elements condition seen ++ expr_elements chosen seen ++ expr_elements otherwise seen

abbrev pub target_elements : e.Lvalue → Seen → List Element
target_elements (e.ToLocal place local kind) seen = []
target_elements (e.ToVariable place variable kind) seen = []
target_elements (e.ToElement place variable kind index) seen = expr_elements index.expr seen

-- what a node reads
abbrev pub reads_of : Action → Seen → List Element
reads_of (Eval target value next) seen = target_elements target seen ++ expr_elements value.expr seen
reads_of (Store variable kind next) seen = []
reads_of (Test condition holds fails) seen = expr_elements condition.expr seen
reads_of (Lock lock next) seen = []
reads_of (Unlock lock next) seen = []
reads_of End seen = []

abbrev pub stored_element : Pending → Element
stored_element p = element p.variable p.element

-- what a node writes: the element of the pending store
abbrev pub write_of : Action → Seen → Option Element
write_of (Eval target value next) seen = None
write_of (Store variable kind next) seen = option_map stored_element seen.pending
write_of (Test condition holds fails) seen = None
write_of (Lock lock next) seen = None
write_of (Unlock lock next) seen = None
write_of End seen = None

-- ---- Solo paths

-- a thread, which stands at its node, and the state in which it does that
pub record Visit : Type 0 where
  pub graph_thread : GraphThread
  pub before : FlowState

-- what the thread does from the state on, by its own steps alone, so many at most
abbrev pub solo_path : Graph → FlowState → (thread steps : ℕ) → List Visit
solo_path g s t zero = []
solo_path g s t (suc n) = elim (slice_get s.graph_threads t) [
  | None ↦ []
  | Some graph_thread ↦ elim (graph_step g s t) [
    | None ↦ []
    | Some next ↦ record { graph_thread = graph_thread; before = s } ∷ solo_path g next t n
  ]
]

-- the visit at this position of the path reads the element, or writes it
pub record ReadsElement (g : Graph) (path : List Visit) (position : ℕ) (read : Element) : Type 0 where
  pub visit : Visit
  pub is : Node
  pub there : slice_get path position ≡ Some visit
  pub at : NodeAt g visit.graph_thread.at is
  pub reads : Contains (reads_of is.action (seen_by visit.before visit.graph_thread)) read

pub record WritesElement (g : Graph) (path : List Visit) (position : ℕ) (written : Element) : Type 0 where
  pub visit : Visit
  pub is : Node
  pub there : slice_get path position ≡ Some visit
  pub at : NodeAt g visit.graph_thread.at is
  pub writes : write_of is.action (seen_by visit.before visit.graph_thread) ≡ Some written

-- a region begins with the path, and no boundary is passed on it
pub record IsWithinRegion (g : Graph) (b : Boundaries) (path : List Visit) : Type 0 where
  pub begins : (first : Visit) → slice_get path 0 ≡ Some first → BeginsRegion g b first.graph_thread.at
  pub inside : (position : ℕ) (one next : Visit) → slice_get path position ≡ Some one → slice_get path (suc position) ≡ Some next →
      ¬ (IsBoundary g b one.graph_thread.at next.graph_thread.at)

-- ---- Laws

-- a run of the flat form's graph reaches the state
pub record IsReachedFlow (x : f.Flat) (s : FlowState) : Type 0 where
  pub schedule : List ℕ
  pub is : s ≡ graph_after (lowered x) (graph_start (lowered x) x) schedule

-- which element of a variable each key names, where it names one
abbrev pub Naming : Type 0
Naming = (variable key : ℕ) → Option ℕ

-- what the keys of a thread name, where its locals have these numbers: a key is the number of one of its names
abbrev pub naming_of : f.Flat → f.Thread → (locals : List ℤ) → Naming
naming_of x t locals = names_in x.variables (lock_names x t) locals

-- two keys name two elements of a variable
abbrev pub AreApart : Naming → Type 0
AreApart names = (variable one other element : ℕ) → names variable one ≡ Some element → names variable other ≡ Some element → one ≡ other

-- no key names an element
abbrev pub no_names : Naming
no_names variable key = None

-- the element is of the location's range
pub record IsInRange (l : Location) (one : Element) : Type 0 where
  pub variable : l.variable ≡ one.variable
  pub from_lo : l.lo ≤ one.element
  pub to_hi : one.element ≤ l.hi

-- the location has the element: it is of its range, and the one that its key names, where it has one
pub record Lies (names : Naming) (l : Location) (one : Element) : Type 0 where
  pub within : IsInRange l one
  pub by_key : (key : ℕ) → l.key ≡ Some key → names one.variable key ≡ Some one.element

pub record LiesInOne (names : Naming) (ls : List Location) (one : Element) : Type 0 where
  pub location : Location
  pub of : Contains ls location
  pub lies : Lies names location one

pub record LiesInWritten (names : Naming) (l : Option Location) (one : Element) : Type 0 where
  pub location : Location
  pub of : l ≡ Some location
  pub lies : Lies names location one

-- two locations that have one element overlap, whatever the keys name
abbrev pub CommonElementsOverlap : Type 0
CommonElementsOverlap = (names : Naming) (l r : Location) (one : Element) → AreApart names → Lies names l one → Lies names r one → overlap l r ≡ true

-- two locations that are the same have one element, whatever the keys name
abbrev pub SameHaveOneElement : Type 0
SameHaveOneElement =
    (names : Naming) (l r : Location) (one other : Element) → same l r ≡ true → Lies names l one → Lies names r other → one ≡ other

-- a thread at a node, in a state that is reached
pub record IsAtNode (x : f.Flat) (s : FlowState) (thread : ℕ) (graph_thread : GraphThread) (node : Node) : Type 0 where
  pub reached : IsReachedFlow x s
  pub found : slice_get s.graph_threads thread ≡ Some graph_thread
  pub at : NodeAt (lowered x) graph_thread.at node

-- what a node reads lies in the locations that it reads, by what the thread's keys name
abbrev pub ReadsLie : Type 0
ReadsLie =
    (x : f.Flat) (s : FlowState) (thread : ℕ) (text : f.Thread) (graph_thread : GraphThread) (node : Node) (read : Element) → IsWellFormed x →
    IsAtNode x s thread graph_thread node → slice_get x.threads thread ≡ Some text →
    Contains (reads_of node.action (seen_by s graph_thread)) read → LiesInOne (naming_of x text graph_thread.locals) node.reads read

-- what a node writes lies in the location that it writes, by what the thread's keys name
abbrev pub WritesLie : Type 0
WritesLie = (x : f.Flat) (s : FlowState) (thread : ℕ) (text : f.Thread) (graph_thread : GraphThread) (node : Node) (written : Element) → IsWellFormed x →
    IsAtNode x s thread graph_thread node → slice_get x.threads thread ≡ Some text →
    write_of node.action (seen_by s graph_thread) ≡ Some written → LiesInWritten (naming_of x text graph_thread.locals) node.writes written

-- a visit of a solo path is made after as many steps of the thread as there are before it
abbrev pub VisitsAreRuns : Type 0
VisitsAreRuns = (g : Graph) (s : FlowState) (thread steps i : ℕ) (v : Visit) → slice_get (solo_path g s thread steps) i ≡ Some v →
    (graph_runs g s (replicate i thread) ≡ true) × (graph_after g s (replicate i thread) ≡ v.before)

-- where a thread can make so many steps alone, its solo path has so many visits
abbrev pub RunsAreVisited : Type 0
RunsAreVisited = (g : Graph) (s : FlowState) (thread steps : ℕ) → graph_runs g s (replicate steps thread) ≡ true → length (solo_path g s thread steps) ≡ steps

-- a step goes along an edge, but for the last one, which stays at the end
abbrev pub StepsGoAlongEdges : Type 0
StepsGoAlongEdges = (g : Graph) (s next : FlowState) (thread : ℕ) (graph_thread after : GraphThread) → graph_step g s thread ≡ Some next →
    slice_get s.graph_threads thread ≡ Some graph_thread → slice_get next.graph_threads thread ≡ Some after → after.ended ≡ graph_thread.ended →
    IsEdge g graph_thread.at after.at

-- keys name one thing along the path: two of them two elements, and what is read and written lies by that in the locations of its nodes
pub record HasOneNaming (g : Graph) (path : List Visit) (names : Naming) : Type 0 where
  pub apart : AreApart names
  pub reads : (i : ℕ) (one : Element) (r : ReadsElement g path i one) → LiesInOne names r.is.reads one
  pub writes : (i : ℕ) (one : Element) (w : WritesElement g path i one) → LiesInWritten names w.is.writes one

-- where no mutex is in an array, keys name nothing along a solo path
abbrev pub PlainPathsHaveOneNaming : Type 0
PlainPathsHaveOneNaming = (x : f.Flat) (s : FlowState) (thread steps : ℕ) → IsWellFormed x → AllByRecursion IsSingle x.mutexes → IsReachedFlow x s →
    HasOneNaming (lowered x) (solo_path (lowered x) s thread steps) no_names

-- reads are right, whatever keys name along the path: within a region, what is read and is written then or later was written before
abbrev pub ReadsAreRight : Type 0
ReadsAreRight = (x : f.Flat) (b : Boundaries) (s : FlowState) (thread steps : ℕ) (names : Naming) → IsWellFormed x → AreCuts (lowered x) b →
    IsReachedFlow x s → HasOneNaming (lowered x) (solo_path (lowered x) s thread steps) names →
    IsWithinRegion (lowered x) b (solo_path (lowered x) s thread steps) → (i j : ℕ) (one : Element) → i ≤ j →
    ReadsElement (lowered x) (solo_path (lowered x) s thread steps) i one → WritesElement (lowered x) (solo_path (lowered x) s thread steps) j one →
    (k : ℕ) × (k < i) × WritesElement (lowered x) (solo_path (lowered x) s thread steps) k one
