-- A thread in a fragment: on its way from the mark of one node to that of the next.
use Rattle.std.specs.Prelude.{◌≡◌, ◌⊎◌, false, ℕ, suc, ◌+◌, ◌*◌, ◌%◌, ◌^◌, ◌<◌, ◌≤◌, List, [], ◌∷◌, length, map, Contains, Some, true, if◌then◌else◌, ℤ}
use Rattle.c_tree.specs.Values.{lock_number}
use Rattle.c_tree.specs.Exprs.{LockName}
use Rattle.log_schemes.specs.declared.log.Log.{Log}
use Rattle.ido_base.specs.Layout.{logs_base, variable_at}
use Rattle.ido_ints.specs.declared.kinds.Kind.{Kind}
use Rattle.ido_ints.specs.Kinds.{bytes_of}
use Rattle.ido_ints.specs.TypedNumbers.{typed, register_form_of}
use Rattle.c_tree.specs.Source.{Pending}
use Rattle.c_tree.specs.WellFormed.{shape_of}
use Rattle.rv64_isa.specs.declared.object.Slot.{Slot}
use Rattle.rv64_isa.specs.Rows.{Effect, Continues, Loads, Stores, Cleans, Fences, Calls, read}
use Rattle.machine_model.specs.Machine.{World}
use Rattle.machine_model.specs.Schedule.{effect_at}
use Rattle.memory_layout.specs.Roles as roles
use Rattle.boundary_code.specs.Boundaries.{boundary_effects}
use Rattle.log_schemes.specs.Schemes.{HaveRoom, locals_of}
use Rattle.log_schemes.specs.Layout.{frame_at}
use Rattle.log_schemes.specs.declared.locals.Locals.TheVariants.{Frame}
use Rattle.ido_base.specs.declared.limits.TheConstants.{LOCAL_REGISTERS}
use Rattle.expr_code.specs.EvaluationCode.{home_of}
use Rattle.expr_code.specs.declared.home.Home.{Home}
use Rattle.expr_code.specs.declared.home.Home.TheVariants.{InRegister, InFrame}
use Rattle.node_code.specs.Pieces.{takes, gives, ends}
use Rattle.flow_graph.specs.Nodes.{Lock, Unlock, End, Node, successors}
use Rattle.flow_graph.specs.Actions as a
use Rattle.flow_graph.specs.IdempotentCuts.{IsChosen}
use Rattle.flow_graph.specs.Liveness.{NodeAt}
use Rattle.code_runs.specs.ComputingRuns.{config}
use Rattle.code_runs.specs.CodeTraces.{MarkedEnvironment, Meets, Mark, Does, seen_effects, marked}
use Rattle.hart_runs.specs.HartsOnRuns.{is_access, Agrees, IsRunningAt, IsOnTrace}
use Rattle.hart_runs.specs.Laws.{IsApart, StoresApart}
use Rattle.thread_code.specs.Plans.{Assigns, IsLogged, Plan, Thread, IsNodeOf, held_names_before, locks_before}
use Rattle.thread_code.specs.RegistersAtNodes.{Enters, IsReady, LogView, MayAssign, with_word}
use Rattle.thread_code.specs.NodeCodeEffects.{Places, Entrance, Passing, StoringWord, kind_at, seen_after, keeping, view_after, Asking}

-- what a thread is on its way to
pub data ExitPoint : Type 0 where
  -- the entry of the node
  Arrives : ExitPoint
  -- the node's code, through the boundary before it, where a logged assignment owes its local this number
  Keeps : (owed : ℤ) → ExitPoint
  -- the store of an assignment outside sections, whose number is computed and whose mark is passed
  Computes : (from local : ℕ) → (number : ℤ) → ExitPoint
  -- the ECALL of the node, which takes the lock of that number
  Asks : (mutex next : ℕ) → ExitPoint
  -- where it may be resumed, through the boundary after the lock that it has taken
  Took : (from : ℕ) → ExitPoint
  -- the ECALL of an unlock whose mark is passed, through the boundary before it
  Gives : (from mutex : ℕ) → ExitPoint
  -- the ECALL of the end, whose mark is passed
  Ends : ExitPoint

-- a thread in a fragment: the fragment's exit point, the node of the graph thread, what that sees, and the thread's log at the fragment's end
pub record Stage : Type 0 where
  pub exit : ExitPoint
  pub node : ℕ
  pub seen : a.Seen
  pub view : LogView

-- a hart that runs: the machine's program, its world, the hart's number, and the environment of the code that the hart runs
pub record Running : Type 0 where
  pub program : List (List Slot)
  pub world : World
  pub hart : ℕ
  pub environment : MarkedEnvironment

abbrev pub on_machine : List (List Slot) → World → (h : ℕ) → MarkedEnvironment → Running
on_machine program w h s = record { program = program; world = w; hart = h; environment = s }

-- the effects' bytes are none of those that the environment answers
abbrev pub AreEffectsApart : MarkedEnvironment → List Effect → Type 0
AreEffectsApart s [] = Unit {0}
AreEffectsApart s (effect ∷ effects) = StoresApart s effect × AreEffectsApart s effects

-- where threads log so, locals stand in a frame, and the address is that of a word of the thread's
pub record IsOwnWord (how : Log) (thread address : ℕ) : Type 0 where
  pub framed : locals_of how ≡ Frame
  pub word : ℕ
  pub exists : word < LOCAL_REGISTERS
  pub is : address ≡ frame_at how thread word

-- an environment that answers loads of variables, and of words of the thread's frame, alone
pub data IsAnswerable (how : Log) (thread address bytes : ℕ) : Type 0 where
  of_variable : address + bytes ≤ logs_base → IsAnswerable how thread address bytes
  of_frame : IsOwnWord how thread address → bytes ≡ 8 → IsAnswerable how thread address bytes

abbrev pub ReadsOwn : Log → (thread : ℕ) → MarkedEnvironment → Type 0
ReadsOwn how thread s = (address bytes value : ℕ) → s.around.loads address bytes ≡ Some value → IsAnswerable how thread address bytes

-- what is seen of an effect
abbrev pub effects_of : Effect → List Effect
effects_of (Continues registers pc) = []
effects_of (Loads address bytes signed register) = []
effects_of (Stores address bytes value) = Stores address bytes value ∷ []
effects_of (Cleans address) = Cleans address ∷ []
effects_of Fences = Fences ∷ []
effects_of Calls = []

module _ (p : Plan) (t : Thread) where
  -- the thread's lock or unlock, the node after it, and the number of its lock where locals have these
  pub record IsLockOf (from : ℕ) (locals : List ℤ) (mutex next : ℕ) : Type 0 where
    pub own : IsNodeOf t from
    pub is : Node
    pub at : NodeAt p.graph from is
    pub lock : LockName
    pub locks : is.action ≡ Lock lock next
    pub number : lock_number locals lock ≡ mutex

  pub record IsUnlockOf (from : ℕ) (locals : List ℤ) (mutex next : ℕ) : Type 0 where
    pub own : IsNodeOf t from
    pub is : Node
    pub at : NodeAt p.graph from is
    pub lock : LockName
    pub unlocks : is.action ≡ Unlock lock next
    pub number : lock_number locals lock ≡ mutex

  pub record IsEndOf (node : ℕ) : Type 0 where
    pub own : IsNodeOf t node
    pub is : Node
    pub at : NodeAt p.graph node is
    pub ends : is.action ≡ End

module _ (p : Plan) (t : Thread) (c : Places) where
  -- where the number of an assignment is computed, the code stores it, and leads to the next node
  pub record StoresNumber (m : Entrance) (word next : ℕ) : Type 0 where
    pub storing : StoringWord p t c m (c.store m.node) word
    pub passes : Passing p t c m (c.store m.node) (c.entry next) (Does (Stores word 8 (read m.registers roles.pending_value)) ∷ [])
        (Enters p t next m.seen (with_word m.view word (read m.registers roles.pending_value)))

  -- the thread's assignment of a local that stands in the frame, which isn't logged; after it the thread sees this at the next node
  pub record IsAssignmentOf (from local : ℕ) (number : ℤ) (next : ℕ) (seen : a.Seen) : Type 0 where
    pub own : IsNodeOf t from
    pub assigns : Assigns p from local
    pub goes : assigns.next ≡ next
    pub plain : ¬ (IsLogged p t from)
    pub word : ℕ
    pub home : home_of t.locals local ≡ InFrame word
    pub stores : (m : Entrance) → Meets c.program m.environment → m.node ≡ from → m.seen ≡ seen →
        MayAssign p t from local number seen m.view m.registers → StoresNumber m word next

  -- where a fragment ends
  abbrev pub end_of : ExitPoint → (node : ℕ) → ℕ
  end_of Arrives node = c.entry node
  end_of (Keeps owed) node = c.core node
  end_of (Computes from local number) node = c.store from
  end_of (Asks mutex next) node = c.call node
  end_of (Took from) node = c.after from
  end_of (Gives from mutex) node = c.call from
  end_of Ends node = c.call node

  -- what registers are at the exit point that a thread is on its way to
  abbrev pub Has : ExitPoint → Stage → (registers : List ℕ) → Type 0
  Has Arrives m registers = Enters p t m.node m.seen m.view registers
  Has (Keeps owed) m registers = IsReady p t m.node m.seen m.view owed registers
  Has (Computes from local number) m registers = MayAssign p t from local number m.seen m.view registers
  Has (Asks mutex next) m registers = Asking p t c takes mutex next m.seen m.view registers
  Has (Took from) m registers = Enters p t m.node m.seen m.view registers
  Has (Gives from mutex) m registers = Asking p t c gives mutex m.node m.seen m.view registers
  Has Ends m registers = read registers roles.call ≡ ends

  -- what the graph has at the exit point that a thread is on its way to
  abbrev pub IsInGraph : ExitPoint → (node : ℕ) → a.Seen → Type 0
  IsInGraph Arrives node seen = Unit {0}
  IsInGraph (Keeps owed) node seen = Unit {0}
  IsInGraph (Computes from local number) node seen = IsAssignmentOf from local number node seen
  IsInGraph (Asks mutex next) node seen = IsLockOf p t node seen.locals mutex next
  IsInGraph (Took from) node seen = (mutex : ℕ) × IsLockOf p t from seen.locals mutex node
  IsInGraph (Gives from mutex) node seen = IsUnlockOf p t from seen.locals mutex node
  IsInGraph Ends node seen = IsEndOf p t node

  -- the hart is in the fragment: so many instructions are ahead, these effects are seen of them, and no mark
  pub record IsOnFragment (r : Running) (stage : Stage) (steps : ℕ) (effects : List Effect) : Type 0 where
    pub meets : Meets c.program r.environment
    pub agrees : Agrees r.program r.world r.hart r.environment
    pub apart : AreEffectsApart r.environment effects
    pub own : IsNodeOf t stage.node
    pub of_graph : IsInGraph stage.exit stage.node stage.seen
    pub registers : List ℕ
    pub on : IsOnTrace r.world r.hart r.environment steps (seen_effects effects) (config registers (end_of stage.exit stage.node))
    pub has : Has stage.exit stage registers

  -- hart h stands where the code of the node begins, after the boundary before it
  pub record IsAtCore (w : World) (h node : ℕ) (seen : a.Seen) (view : LogView) (owed : ℤ) (registers : List ℕ) : Type 0 where
    pub own : IsNodeOf t node
    pub at : IsRunningAt w h (config registers (c.core node))
    pub ready : IsReady p t node seen view owed registers

  -- ---- After a node's mark

  -- where a local stands in a register the thread goes on to the next node once it has its number; where it stands in the frame the number is stored first.
  -- Where a lock is held the mark is that store, else the thread goes on to it
  abbrev pub exit_set : Home → (held : List LockName) → (node local : ℕ) → (number : ℤ) → ExitPoint
  exit_set (InRegister register) held node local number = Arrives
  exit_set (InFrame word) [] node local number = Computes node local number
  exit_set (InFrame word) (name ∷ held) node local number = Arrives

  abbrev pub view_set : Home → (held : List LockName) → (registers : List ℕ) → LogView → LogView
  view_set (InRegister register) held registers view = view
  view_set (InFrame word) [] registers view = view
  view_set (InFrame word) (name ∷ held) registers view = with_word view word (read registers roles.pending_value)

  -- what the thread is then on its way to
  abbrev pub stage_after : (node : ℕ) → a.Seen → LogView → (registers : List ℕ) → a.Effect → Stage
  stage_after node seen view registers (a.Sets local number next) = record {
    exit = exit_set (home_of t.locals local) (held_names_before p t node) node local number;
    node = next;
    seen = seen_after (a.Sets local number next) seen;
    view = view_set (home_of t.locals local) (held_names_before p t node) registers view;
  }
  stage_after node seen view registers (a.Owes store next) =
      record { exit = Arrives; node = next; seen = seen_after (a.Owes store next) seen; view = view }
  stage_after node seen view registers (a.Makes store next) =
      record { exit = Arrives; node = next; seen = seen_after (a.Makes store next) seen; view = view }
  stage_after node seen view registers (a.Goes next) = record { exit = Arrives; node = next; seen = seen; view = view }
  stage_after node seen view registers (a.Takes mutex next) = record { exit = Asks mutex next; node = node; seen = seen; view = view }
  stage_after node seen view registers (a.Gives mutex next) =
      record { exit = Gives node mutex; node = next; seen = seen; view = view_after (keeping p t c false seen.locals next) view }
  stage_after node seen view registers a.Ends = record { exit = Ends; node = node; seen = seen; view = view }

  -- the store of a register's value at the place of a pending one of that kind, as memory sees it
  abbrev pub store_of : Kind → Pending → (value : ℕ) → Effect
  store_of k store value = Stores (variable_at (map shape_of p.flat.variables) store.variable store.element) (bytes_of k) value

  -- the effect is a pending store of that kind: the bytes that it writes are those of the number
  pub record IsStoreOf (k : Kind) (store : Pending) (effect : Effect) : Type 0 where
    pub value : ℕ
    pub low : value % 2 ^ (8 * bytes_of k) ≡ register_form_of (typed k store.number) % 2 ^ (8 * bytes_of k)
    pub is : effect ≡ store_of k store value

  abbrev pub cleans_of : (node : ℕ) → Pending → List Effect
  cleans_of node store =
      if c.cleans node then Cleans (variable_at (map shape_of p.flat.variables) store.variable store.element) ∷ [] else []

  -- of a local that takes a number: where it stands in the frame and a lock is held, the store of its word, and its clean
  abbrev pub effects_set : Home → (held : List LockName) → (registers : List ℕ) → List Effect
  effects_set (InRegister register) held registers = []
  effects_set (InFrame word) [] registers = []
  effects_set (InFrame word) (name ∷ held) registers = Stores word 8 (read registers roles.pending_value) ∷ Cleans word ∷ []

  -- what is seen from the node's mark on
  abbrev pub AreSeen : (node : ℕ) → a.Seen → LogView → (registers : List ℕ) → a.Effect → List Effect → Type 0
  AreSeen node seen view registers (a.Sets local number next) effects = effects ≡ effects_set (home_of t.locals local) (held_names_before p t node) registers
  AreSeen node seen view registers (a.Owes store next) effects = effects ≡ []
  AreSeen node seen view registers (a.Makes store next) effects = (k : Kind) → kind_at p.flat.variables store.variable ≡ Some k →
      effects ≡ store_of k store (read registers roles.pending_value) ∷ cleans_of node store
  AreSeen node seen view registers (a.Goes next) effects = effects ≡ []
  AreSeen node seen view registers (a.Takes mutex next) effects = effects ≡ []
  AreSeen node seen view registers (a.Gives mutex next) effects =
      effects ≡ boundary_effects (keeping p t c false seen.locals next) view.side (c.after node) registers
  AreSeen node seen view registers a.Ends effects = effects ≡ []

  -- the instruction with the mark of a logged assignment stores the local's word
  abbrev pub IsSetBy : Home → ExitPoint → LogView → Effect → Type 0
  IsSetBy (InFrame word) Arrives view effect = effect ≡ Stores word 8 (view.frame word)
  IsSetBy home exit view effect = Unit {0}

  -- the instruction with the mark of a write makes it
  abbrev pub IsMadeBy : Stage → a.Effect → Effect → Type 0
  IsMadeBy m (a.Sets local number next) effect = IsSetBy (home_of t.locals local) m.exit m.view effect
  IsMadeBy m (a.Owes store next) effect = Unit {0}
  IsMadeBy m (a.Makes store next) effect = (k : Kind) → kind_at p.flat.variables store.variable ≡ Some k → IsStoreOf k store effect
  IsMadeBy m (a.Goes next) effect = Unit {0}
  IsMadeBy m (a.Takes mutex next) effect = Unit {0}
  IsMadeBy m (a.Gives mutex next) effect = Unit {0}
  IsMadeBy m a.Ends effect = Unit {0}

  -- the hart stands at the mark of a node that does the effect: it passes it with its next instruction, and is then in the fragment after it
  pub record IsAtMark (r : Running) (e : a.Effect) (stage : Stage) (steps : ℕ) (effects : List Effect) : Type 0 where
    pub meets : Meets c.program r.environment
    pub agrees : Agrees r.program r.world r.hart r.environment
    pub apart : AreEffectsApart r.environment effects
    pub own : IsNodeOf t stage.node
    pub of_graph : IsInGraph stage.exit stage.node stage.seen
    pub registers : List ℕ
    pub on : IsOnTrace r.world r.hart r.environment (suc steps) (Mark ∷ seen_effects effects) (config registers (end_of stage.exit stage.node))
    pub has : Has stage.exit stage registers
    pub mark : marked r.environment.marks on.hart.pc ≡ Mark ∷ []
    pub made : (effect : Effect) → effect_at r.program r.hart on.hart ≡ Some effect → IsMadeBy stage e effect

  -- ---- What is known of the thread's place in a machine of so many threads that log so

  pub record IsPlaced (how : Log) (threads : ℕ) : Type 0 where
    pub log : p.log ≡ how
    pub number : t.number < threads
    -- the code ends within the addresses
    pub room : c.program.start + 4 * length c.program.code < 2 ^ 64
    -- the nodes that may follow one of the thread's are the thread's
    pub closed : (node next : ℕ) (is : Node) → IsNodeOf t node → NodeAt p.graph node is → Contains (successors is.action) next → IsNodeOf t next
    -- a side has room for the locks that are held before its nodes
    pub locks : (locals : List ℤ) (node : ℕ) → IsNodeOf t node → HaveRoom p.log (locks_before p t locals node)
    -- a home in the frame is a word of the thread's
    pub words : (local word : ℕ) → home_of t.locals local ≡ InFrame word → IsOwnWord how t.number word
    -- a logged assignment has a boundary before it
    pub recorded : (node : ℕ) → IsNodeOf t node → IsLogged p t node → IsChosen p.graph p.boundaries node
    -- a side has a slot for each register that is kept
    pub slots : (node register : ℕ) → IsNodeOf t node → Contains (c.live node) register ⊎ Contains (c.kept node) register → register < 32

  -- the store may be made, and the environment answers none of its bytes
  pub record MayBeMade (log : Log) (threads : ℕ) (s : MarkedEnvironment) (k : Kind) (store : Pending) : Type 0 where
    pub access : is_access log threads (variable_at (map shape_of p.flat.variables) store.variable store.element) (bytes_of k) ≡ true
    pub apart : IsApart s (variable_at (map shape_of p.flat.variables) store.variable store.element) (bytes_of k)

  -- the environment doesn't answer the word that the mark of a logged assignment stores
  abbrev pub MayBeSet : Home → (held : List LockName) → MarkedEnvironment → Type 0
  MayBeSet (InRegister register) held s = Unit {0}
  MayBeSet (InFrame word) [] s = Unit {0}
  MayBeSet (InFrame word) (name ∷ held) s = IsApart s word 8

  abbrev pub MayDo : Log → (threads : ℕ) → MarkedEnvironment → (node : ℕ) → a.Effect → Type 0
  MayDo log threads s node (a.Sets local number next) = MayBeSet (home_of t.locals local) (held_names_before p t node) s
  MayDo log threads s node (a.Owes store next) = Unit {0}
  MayDo log threads s node (a.Makes store next) = (k : Kind) × (kind_at p.flat.variables store.variable ≡ Some k) × MayBeMade log threads s k store
  MayDo log threads s node (a.Goes next) = Unit {0}
  MayDo log threads s node (a.Takes mutex next) = Unit {0}
  MayDo log threads s node (a.Gives mutex next) = Unit {0}
  MayDo log threads s node a.Ends = Unit {0}
