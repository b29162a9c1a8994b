-- A thread whose code is made, and the pieces of its nodes.
use Rattle.std.specs.Prelude.{◌≡◌, ◌↔◌, ℕ, ◌+◌, ◌-◌, ◌*◌, ◌≤◌, List, [], ◌∷◌, ◌++◌, length, map, slice_get, slice_index_or, sum_by, Some}
use Rattle.std.specs.Prelude.{Bool, true, false, not, ℤ, None, Option, ◌&&◌, if◌then◌else◌}
use Rattle.std.specs.Prelude.{Vec}
use Rattle.std.specs.Global.{Global}
use Rattle.std.specs.List.{AllByRecursion}
use Rattle.rv64_isa.specs.declared.instr.Instr.{Instr}
use Rattle.c_tree.specs.Exprs as e
use Rattle.c_tree.specs.Flats as f
use Rattle.c_tree.specs.Temporaries.{assign_exprs, key_exprs}
use Rattle.c_tree.specs.WellFormed.{IsFlatLockName, shape_of}
use Rattle.ido_ints.specs.declared.kinds.Kind.{Kind}
use Rattle.rv64_isa.specs.declared.object.CodeItem.{CodeItem}
use Rattle.rv64_link.specs.LabelledCode.{most_words_of}
use Rattle.expr_code.specs.EvaluationCode.{Homes, home_of, homes_of}
use Rattle.expr_code.specs.declared.home.Home.TheVariants.{InRegister, InFrame}
use Rattle.flow_graph.specs.declared.graph.Part.{Part}
use Rattle.flow_graph.specs.Nodes.{Action, Eval, Store, Test, Lock, Unlock, End, Node, Graph}
use Rattle.flow_graph.specs.Liveness.{NodeAt}
use Rattle.flow_graph.specs.OmittedCleans.{IsCleanedLater}
use Rattle.memory_layout.specs.Roles.{pending_address, pending_value}
use Rattle.boundary_code.specs.declared.written.Written.{Written}
use Rattle.code_runs.specs.ComputingRuns.{Environment}
use Rattle.log_schemes.specs.Schemes.{keeping_of}
use Rattle.node_code.specs.declared.kept.Kept as kept
use Rattle.node_code.specs.declared.kept.KeptLocks.{KeptLocks}
use Rattle.node_code.specs.BoundaryCode.{IsQuiet}
use Rattle.node_code.specs.Pieces.{Appends, KeepsFrom, MayKeep, codes_of, keeping_for, kept_words}
use Rattle.thread_code.specs.Plans.{Plan, Thread, IsPlan, IsThread, IsNodeOf, held_names_before, hold_words, homes, locks_before, names_in}
use Rattle.thread_code.specs.Programs.{action_nodes}
use Rattle.rv64_codegen.specs.declared.thread.ThreadPlan as opened
use Rattle.rv64_codegen.specs.Evaluations.{IsAtHome, NeedFew}
use Rattle.rv64_codegen.specs.ThreadPieces.{Choices, IsComputedBefore, IsDoing, IsGuarded, IsKeeping, IsNodePiece, GoesTo, MayEnter, boundary_words}
use Rattle.rv64_codegen.specs.ThreadPieces.{opens_section}
use Rattle.rv64_codegen.specs.Plans.{plan_of}
use Rattle.rv64_codegen.specs.links.LiveRegisters.{AreLists}
use Rattle.rv64_codegen.specs.links.Numbers.{AreNumberCodes, IsReady}
use Rattle.c_tree.specs.Prices.{key_nodes}
use Rattle.c_tree.specs.links.KnownNames.{names_of}
use Rattle.expr_code.specs.declared.home.Home.{Home}

-- ---- A thread

-- the kinds of the locals of the thread of that number
abbrev pub kinds_in : Plan → (number : ℕ) → List Kind
kinds_in p number = slice_index_or (map (λ (t : f.Thread). t.locals) p.flat.threads) number []

abbrev pub thread_at : Plan → (number : ℕ) → Part → (locals : List Home) → Thread
thread_at p number part locals = record { number = number; part = part; kinds = kinds_in p number; locals = locals }

abbrev pub plan_in : opened.ThreadPlan → Plan
plan_in x = plan_of x.plan.now

abbrev pub thread_of : opened.ThreadPlan → Thread
thread_of x = thread_at (plan_in x) x.number x.part x.frame.locals.now

-- the list of that number, or none
abbrev pub list_at : List (Vec ℕ Global) → ℕ → List ℕ
list_at lists i = slice_index_or (map (λ (v : Vec ℕ Global). v.items) lists) i []

-- a lock that is taken there opens a section
abbrev pub opens_at : opened.ThreadPlan → (node : ℕ) → Bool
opens_at x node = opens_section (plan_in x) (thread_of x) node

abbrev pub is_word : Home → Bool
is_word (InRegister register) = false
is_word (InFrame address) = true

-- the target is a local that stands in the frame
abbrev pub is_framed : List Home → e.Lvalue → Bool
is_framed homes (e.ToLocal place local kind) = is_word (home_of homes local)
is_framed homes (e.ToVariable place variable kind) = false
is_framed homes (e.ToElement place variable kind index) = false

abbrev pub sets_framed : List Home → Action → Bool
sets_framed homes (Eval target value next) = is_framed homes target
sets_framed homes (Store variable kind next) = false
sets_framed homes (Test condition holds fails) = false
sets_framed homes (Lock lock next) = false
sets_framed homes (Unlock lock next) = false
sets_framed homes End = false

-- what is assigned has a home
abbrev pub IsTargetHome : Homes → Action → Type 0
IsTargetHome h (Eval target value next) = IsAtHome h target
IsTargetHome h (Store variable kind next) = Unit {0}
IsTargetHome h (Test condition holds fails) = Unit {0}
IsTargetHome h (Lock lock next) = Unit {0}
IsTargetHome h (Unlock lock next) = Unit {0}
IsTargetHome h End = Unit {0}

abbrev pub sets_framed_in : List Home → Option Node → Bool
sets_framed_in homes None = false
sets_framed_in homes (Some n) = sets_framed homes n.action

-- the node is a logged assignment
abbrev pub is_logged : opened.ThreadPlan → (node : ℕ) → Bool
is_logged x node = sets_framed_in x.frame.locals.now (slice_get (plan_in x).graph.nodes node) && not (opens_at x node)

abbrev pub choices_of : opened.ThreadPlan → Choices
choices_of x = record {
  live = λ node. list_at x.live.now (node - x.part.first);
  kept = λ node. if is_logged x node then pending_address ∷ pending_value ∷ [] else list_at x.live.now (node - x.part.first);
  cleans = λ node. not (slice_index_or x.later.now node false);
}

-- of each node whether a later store cleans the line that it stores into
pub record AreCleaned (p : Plan) (later : List Bool) : Type 0 where
  pub count : length later ≡ length p.graph.nodes
  pub each : (node : ℕ) → (slice_get later node ≡ Some true) ↔ IsCleanedLater p.graph p.boundaries (map shape_of p.flat.variables) node

-- a node's expressions
abbrev pub action_exprs : Action → List e.Placed
action_exprs (Eval target value next) = assign_exprs target value
action_exprs (Store variable kind next) = []
action_exprs (Test condition holds fails) = condition ∷ []
action_exprs (Lock lock next) = key_exprs lock
action_exprs (Unlock lock next) = key_exprs lock
action_exprs End = []

-- the expressions of all nodes need few enough temporaries
abbrev pub AllNeedFew : Graph → Type 0
AllNeedFew g = (node : ℕ) (is : Node) → NodeAt g node is → NeedFew (action_exprs is.action)

-- all that is known of the thread
pub record IsOpen (x : opened.ThreadPlan) : Type 0 where
  pub plan : IsPlan (plan_in x)
  pub few : AllNeedFew (plan_in x).graph
  pub thread : IsThread (plan_in x) (thread_of x)
  pub homes : homes_of x.frame ≡ homes (plan_in x) (thread_of x)
  pub names : names_of x.names.now ≡ names_in (plan_in x) (thread_of x)
  pub formed : AllByRecursion (IsFlatLockName (plan_in x).flat.mutexes (thread_of x).kinds) (names_in (plan_in x) (thread_of x))
  pub ready : AllByRecursion (IsReady (homes_of x.frame)) (names_in (plan_in x) (thread_of x))
  pub lists : AreLists (plan_in x).graph x.frame.locals.now (plan_in x).live x.part.first x.part.end x.live.now
  pub later : AreCleaned (plan_in x) x.later.now

-- the node is one of its nodes
pub record IsOwn (x : opened.ThreadPlan) (node : ℕ) : Type 0 where
  pub open_is : IsOpen x
  pub own : IsNodeOf (thread_of x) node

-- the node does this action
pub record HasAction (x : opened.ThreadPlan) (node : ℕ) (action : Action) : Type 0 where
  pub own : IsOwn x node
  pub is : Node
  pub at : NodeAt (plan_in x).graph node is
  pub action_is : is.action ≡ action

-- the codes of the numbers of the locks that are held at the node
abbrev pub AreNumbersOf : opened.ThreadPlan → (node : ℕ) → List (List Instr) → Type 0
AreNumbersOf x node codes = AreNumberCodes (plan_in x).log (homes_of x.frame) x.number (held_names_before (plan_in x) (thread_of x) node) codes

-- the locks that are held at the node, as the log keeps them, whatever locals are; these are the codes of their numbers
pub record AreLocksAt (x : opened.ThreadPlan) (node : ℕ) (codes : List (List Instr)) (kept : KeptLocks) : Type 0 where
  pub keeping : keeping_of (plan_in x).log ≡ keeping_for kept
  pub held : (locals : List ℤ) → MayKeep kept (locks_before (plan_in x) (thread_of x) locals node)
  pub codes_are : codes_of kept ≡ codes

-- what a boundary keeps that lets the thread go on at the node or at its core: these registers, and what it tells of the write that comes next
pub record IsKeptFor (x : opened.ThreadPlan) (node : ℕ) (live : List ℕ) (written : Written) (k : kept.Kept) : Type 0 where
  pub log_is : k.log ≡ (plan_in x).log
  pub thread_is : k.thread ≡ x.number
  pub live_is : k.live.now ≡ live
  pub written_is : k.written ≡ written
  pub keeping : keeping_of k.log ≡ keeping_for k.locks
  -- the locks that are held there, whatever locals are
  pub locks_are : (locals : List ℤ) → MayKeep k.locks (locks_before (plan_in x) (thread_of x) locals node)
  -- from registers with which the thread enters the node their codes leave their numbers
  pub leave : (locals : List ℤ) (around : Environment) (registers : List ℕ) → MayEnter (plan_in x) (thread_of x) locals node around registers →
      KeepsFrom k (locks_before (plan_in x) (thread_of x) locals node) around registers
  pub few : kept_words k ≤ boundary_words (plan_in x).log (held_names_before (plan_in x) (thread_of x) node)
  pub room : length (codes_of k.locks) ≤ 16
  pub quiet : AllByRecursion IsQuiet (codes_of k.locks)

-- a piece is appended whose boundary keeps what lets the thread go on at the node, and opens a section or not
abbrev pub AppendsKept : (x : opened.ThreadPlan) → (node : ℕ) → (opens : Bool) → (old new : List CodeItem) → (Is : kept.Kept → List CodeItem → Type 0) → Type 0
AppendsKept x node opens old new Is =
    (k : kept.Kept) × IsKeptFor x node ((choices_of x).live node) (record { bytes = None; opens = opens }) k × Appends old new (Is k)

-- ---- Pieces

abbrev pub gives : Action → Bool
gives (Eval target value next) = false
gives (Store variable kind next) = false
gives (Test condition holds fails) = false
gives (Lock lock next) = false
gives (Unlock lock next) = true
gives End = false

-- the boundary before the node's core
abbrev pub KeepsAt : opened.ThreadPlan → (node : ℕ) → List CodeItem → Type 0
KeepsAt x node piece = (is : Node) → NodeAt (plan_in x).graph node is → IsKeeping (plan_in x) (thread_of x) (choices_of x) node is.action piece

-- what a logged assignment computes before it
abbrev pub PreparesAt : opened.ThreadPlan → (node : ℕ) → List CodeItem → Type 0
PreparesAt x node piece = (is : Node) → NodeAt (plan_in x).graph node is → IsComputedBefore (plan_in x) (thread_of x) (choices_of x) node is.action piece

-- the boundary before the node stands there by choice, or there is none
abbrev pub Guards : opened.ThreadPlan → (node : ℕ) → List CodeItem → Type 0
Guards x node piece = (is : Node) → NodeAt (plan_in x).graph node is → IsGuarded (plan_in x) (thread_of x) (choices_of x) node is.action piece

-- the next node follows, or a jump leads to it
abbrev pub GoesToNode : opened.ThreadPlan → (node next : ℕ) → List CodeItem → Type 0
GoesToNode x node next piece = GoesTo (plan_in x) (thread_of x) (choices_of x) node next piece

-- words that what a node does may take, where it is a logged assignment or not
abbrev pub most_doing : (logged : Bool) → Plan → Thread → Action → ℕ
most_doing true p t (Eval target value next) = 3
most_doing false p t (Eval target value next) = 16 * action_nodes (Eval target value next) + 19
most_doing logged p t (Store variable kind next) = 3
most_doing logged p t (Test condition holds fails) = 16 * action_nodes (Test condition holds fails) + 11
most_doing logged p t (Lock lock next) = 16 * key_nodes lock + 96 + hold_words p.log (held_names_before p t next)
most_doing logged p t (Unlock lock next) = 16 * key_nodes lock + 96 + hold_words p.log (held_names_before p t next)
most_doing logged p t End = 2

-- what the node does, and how it goes on
pub record DoesAction (x : opened.ThreadPlan) (node : ℕ) (action : Action) (piece : List CodeItem) : Type 0 where
  pub does : List CodeItem
  pub goes : List CodeItem
  pub split : piece ≡ does ++ goes
  pub doing : IsDoing (plan_in x) (thread_of x) (choices_of x) node action does goes
  pub few : sum_by most_words_of piece ≤ most_doing (is_logged x node) (plan_in x) (thread_of x) action

-- ---- At a node

abbrev pub DoesAt : opened.ThreadPlan → (node : ℕ) → List CodeItem → Type 0
DoesAt x node piece = (is : Node) → NodeAt (plan_in x).graph node is → DoesAction x node is.action piece

abbrev pub IsPiece : opened.ThreadPlan → (node : ℕ) → List CodeItem → Type 0
IsPiece x node piece = (is : Node) → NodeAt (plan_in x).graph node is → IsNodePiece (plan_in x) (thread_of x) (choices_of x) node is piece
