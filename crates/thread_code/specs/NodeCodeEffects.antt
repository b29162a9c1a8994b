-- What the code of each node does, by the node's effect.
use Rattle.std.specs.Prelude.{◌≡◌, ℕ, ℤ, ◌+◌, ◌-◌, pos, List, [], ◌∷◌, length, map, slice_get, slice_set, Option, Some, None, Bool, true, false, ◌==◌}
use Rattle.ido_base.specs.Layout.{variable_at}
use Rattle.ido_ints.specs.declared.kinds.Kind.{Kind}
use Rattle.ido_ints.specs.Kinds.{bytes_of}
use Rattle.c_tree.specs.Programs as v
use Rattle.c_tree.specs.Source.{Pending}
use Rattle.c_tree.specs.WellFormed.{shape_of}
use Rattle.rv64_isa.specs.declared.instr.Instr.{Instr}
use Rattle.rv64_isa.specs.Rows.{Stores, row, read}
use Rattle.rv64_link.specs.LinkedCode.{IsInstructionAt}
use Rattle.memory_layout.specs.Roles as roles
use Rattle.boundary_code.specs.Boundaries.{Boundary, side_after}
use Rattle.node_code.specs.Pieces.{store_observations, boundary_observations, takes, gives, ends}
use Rattle.flow_graph.specs.Actions as a
use Rattle.flow_graph.specs.Nodes.{Action, Eval, Store, Test, Lock, Unlock, End}
use Rattle.expr_code.specs.EvaluationCode.{home_of}
use Rattle.expr_code.specs.declared.home.Home.{Home}
use Rattle.expr_code.specs.declared.home.Home.TheVariants.{InRegister, InFrame}
use Rattle.code_runs.specs.CodeTraces.{Program, MarkedEnvironment, Meets, Observation, Mark, Does, GoesThrough, marked}
use Rattle.thread_code.specs.Plans.{IsLogged, Plan, Thread, held_names_before, locks_before}
use Rattle.thread_code.specs.RegistersAtNodes.{Enters, HasLowBytes, IsAnswered, IsFrameAnswered, IsReady, LogView, MayAssign, source_of, with_word}

-- where the code of a thread's nodes is, by their numbers
pub record Places : Type 0 where
  pub program : Program
  -- where the code of a node begins, with the boundary before it, and without
  pub entry : ℕ → ℕ
  pub core : ℕ → ℕ
  -- how many words it has
  pub words : ℕ → ℕ
  -- of a lock, an unlock and the end: where its ECALL stands
  pub call : ℕ → ℕ
  -- of a lock and an unlock: where the thread resumes with what it then holds
  pub after : ℕ → ℕ
  -- the registers that are live at the entry of a node, as a boundary keeps them, and those that the boundary before its core keeps
  pub live : ℕ → List ℕ
  pub kept : ℕ → List ℕ
  -- of an assignment of a local outside sections whose word is in the frame: where its store stands
  pub store : ℕ → ℕ
  -- of a store: its line is cleaned at once
  pub cleans : ℕ → Bool

-- what a thread sees after what it does
abbrev pub seen_after : a.Effect → a.Seen → a.Seen
seen_after (a.Sets local number next) seen = record seen { locals = slice_set seen.locals local number }
seen_after (a.Owes store next) seen = record seen { pending = Some store }
seen_after (a.Makes store next) seen = record seen { pending = None }
seen_after (a.Goes next) seen = seen
seen_after (a.Takes mutex next) seen = seen
seen_after (a.Gives mutex next) seen = seen
seen_after a.Ends seen = seen

abbrev pub kind_at : List v.Variable → (variable : ℕ) → Option Kind
kind_at variables variable = slice_get (map (λ (x : v.Variable). x.kind) variables) variable

-- ---- Pieces

-- how many bytes the write has that comes after a boundary before the node
abbrev pub bytes_written : Action → Option ℕ
bytes_written (Eval target value next) = Some 8
bytes_written (Store variable kind next) = Some (bytes_of kind)
bytes_written (Test condition holds fails) = None
bytes_written (Lock lock next) = None
bytes_written (Unlock lock next) = None
bytes_written End = None

-- a thread at the code of a node: what it sees, its log, the number that it owes a local where the node is a logged assignment, and its registers
pub record Entrance : Type 0 where
  pub environment : MarkedEnvironment
  pub node : ℕ
  pub seen : a.Seen
  pub view : LogView
  pub owed : ℤ
  pub registers : List ℕ

-- the log after a boundary
abbrev pub view_after : Boundary → LogView → LogView
view_after b view = record view { side = side_after b view.side }

module _ (p : Plan) (t : Thread) (c : Places) where
  -- the store of a register's value as memory sees it, and its clean, if that stands there
  abbrev pub pending_observations : Kind → Pending → (value : ℕ) → (cleans : Bool) → List Observation
  pending_observations k store value cleans =
      store_observations (variable_at (map shape_of p.flat.variables) store.variable store.element) (bytes_of k) value cleans

  -- registers represent what the thread sees at the node
  abbrev pub EntersAt : Entrance → (node : ℕ) → Type 0
  EntersAt m node = Enters p t node m.seen m.view m.registers

  abbrev pub IsReadyAt : Entrance → Type 0
  IsReadyAt m = IsReady p t m.node m.seen m.view m.owed m.registers

  -- loads of what the node reads are answered
  pub record IsAnsweredAt (m : Entrance) (action : Action) : Type 0 where
    pub variables : IsAnswered (source_of p t m.seen) m.environment.around.loads action
    pub frame : IsFrameAnswered p t m.view m.node m.environment.around.loads

  -- what it owes is the number that the node assigns
  abbrev pub IsOwed : Entrance → Action → Type 0
  IsOwed m action = (local : ℕ) (number : ℤ) (next : ℕ) → a.effect_of action m.seen ≡ Some (a.Sets local number next) → m.owed ≡ number

  -- the boundary before the node, where locals have these numbers
  abbrev pub keeping_before : (action : Action) → (locals : List ℤ) → (node : ℕ) → Boundary
  keeping_before action locals node = record {
    log = p.log;
    thread = t.number;
    locks = locks_before p t locals node;
    live = c.kept node;
    resume = pos 0;
    written = bytes_written action;
    opens = false;
  }

  -- a boundary that keeps what is live at the entry of the node, where locals have these numbers, and which opens a section or not
  abbrev pub keeping : (opens : Bool) → (locals : List ℤ) → (node : ℕ) → Boundary
  keeping opens locals node = record {
    log = p.log;
    thread = t.number;
    locks = locks_before p t locals node;
    live = c.live node;
    resume = pos 0;
    written = None;
    opens = opens;
  }

  -- a lock that is taken there opens a section: none is held
  abbrev pub opens_section : (node : ℕ) → Bool
  opens_section node = length (held_names_before p t node) == 0

  -- from an address the code leads to an address, within as many instructions as the node has words
  abbrev pub Passing : Entrance → (from to : ℕ) → List Observation → (has : List ℕ → Type 0) → Type 0
  Passing m from to observations has =
      GoesThrough m.environment (record { registers = m.registers; from = from; to = to; most = c.words m.node }) observations has

  -- from the entry to the core stands what is computed before the boundary, and the boundary at which a thread resumes at the core
  pub record BoundaryBefore (m : Entrance) (action : Action) : Type 0 where
    -- the registers at the boundary: those at the entry, but where the number of a logged assignment is computed before
    pub registers : List ℕ
    pub same : ¬ (IsLogged p t m.node) → registers ≡ m.registers
    pub ready : IsReady p t m.node m.seen m.view m.owed registers
    pub passes : Passing m (c.entry m.node) (c.core m.node)
        (boundary_observations (keeping_before action m.seen.locals m.node) m.view.side (c.core m.node) registers)
        (IsReady p t m.node m.seen (view_after (keeping_before action m.seen.locals m.node) m.view) m.owed)

  -- after the call of a lock stands the boundary at which a thread resumes at the next node
  abbrev pub BoundaryAfter : Entrance → (next : ℕ) → Type 0
  BoundaryAfter m next =
      let b = keeping (opens_section m.node) m.seen.locals next in
      Passing m (c.call m.node + 4) (c.after m.node) (boundary_observations b m.view.side (c.after m.node) m.registers)
      (Enters p t next m.seen (view_after b m.view))

  -- registers ask for the call, and represent what the thread sees at the next node
  pub record Asking (number mutex next : ℕ) (seen : a.Seen) (view : LogView) (registers : List ℕ) : Type 0 where
    pub call : read registers roles.call ≡ number
    pub lock : read registers roles.lock ≡ mutex
    pub enters : Enters p t next seen view registers

  -- the first instruction of the node makes the store, of the register that has the number's bytes
  pub record Storing (m : Entrance) (k : Kind) (store : Pending) : Type 0 where
    pub instr : Instr
    pub stands : IsInstructionAt c.program.start c.program.code (c.core m.node) instr
    pub does : row instr m.registers (c.core m.node) ≡
        Stores (variable_at (map shape_of p.flat.variables) store.variable store.element) (bytes_of k) (read m.registers roles.pending_value)
    pub value : HasLowBytes m.registers roles.pending_value k store.number

  -- the instruction at the address stores a register at a word of the frame
  pub record StoringWord (m : Entrance) (at word : ℕ) : Type 0 where
    pub instr : Instr
    pub stands : IsInstructionAt c.program.start c.program.code at instr
    pub does : row instr m.registers at ≡ Stores word 8 (read m.registers roles.pending_value)

  -- a logged assignment: the store is the core's first instruction, and the mark; its line is cleaned
  pub record SetsLogged (m : Entrance) (word local : ℕ) (number : ℤ) (next : ℕ) : Type 0 where
    pub storing : StoringWord m (c.core m.node) word
    pub passes : Passing m (c.core m.node) (c.entry next) (store_observations word 8 (read m.registers roles.pending_value) true)
        (Enters p t next (seen_after (a.Sets local number next) m.seen) (with_word m.view word (read m.registers roles.pending_value)))

  -- outside sections: where the number is computed the store stands, which is no mark; from there the code leads to the next node
  pub record StoresPlain (m : Entrance) (word local : ℕ) (number : ℤ) (next : ℕ) : Type 0 where
    pub storing : StoringWord m (c.store m.node) word
    pub plain : marked c.program.nodes (c.store m.node) ≡ []
    pub passes : Passing m (c.store m.node) (c.entry next) (Does (Stores word 8 (read m.registers roles.pending_value)) ∷ [])
        (Enters p t next (seen_after (a.Sets local number next) m.seen) (with_word m.view word (read m.registers roles.pending_value)))

  pub record SetsPlain (m : Entrance) (word local : ℕ) (number : ℤ) (next : ℕ) : Type 0 where
    pub computes : Passing m (c.core m.node) (c.store m.node) (Mark ∷ []) (MayAssign p t m.node local number m.seen m.view)
    pub stores : (at : Entrance) → Meets c.program at.environment → at.node ≡ m.node → at.seen ≡ m.seen →
        MayAssign p t at.node local number at.seen at.view at.registers → StoresPlain at word local number next

  abbrev pub SetsIn : Home → Entrance → (local : ℕ) → (number : ℤ) → (next : ℕ) → Type 0
  SetsIn (InRegister register) m local number next =
      Passing m (c.core m.node) (c.entry next) (Mark ∷ []) (Enters p t next (seen_after (a.Sets local number next) m.seen) m.view)
  SetsIn (InFrame word) m local number next =
      (IsLogged p t m.node → SetsLogged m word local number next) × (¬ (IsLogged p t m.node) → SetsPlain m word local number next)

  -- what the code of a node does, where the node has this effect: it leads to the next node, or to its ECALL
  abbrev pub Performs : Entrance → a.Effect → Type 0
  Performs m (a.Sets local number next) = SetsIn (home_of t.locals local) m local number next
  Performs m (a.Owes store next) = Passing m (c.core m.node) (c.entry next) (Mark ∷ []) (Enters p t next (seen_after (a.Owes store next) m.seen) m.view)
  Performs m (a.Makes store next) = (k : Kind) → kind_at p.flat.variables store.variable ≡ Some k → Storing m k store ×
      Passing m (c.core m.node) (c.entry next) (pending_observations k store (read m.registers roles.pending_value) (c.cleans m.node))
      (Enters p t next (seen_after (a.Makes store next) m.seen) m.view)
  Performs m (a.Goes next) = Passing m (c.core m.node) (c.entry next) (Mark ∷ []) (Enters p t next m.seen m.view)
  Performs m (a.Takes mutex next) = Passing m (c.core m.node) (c.call m.node) [] (Asking takes mutex next m.seen m.view)
  Performs m (a.Gives mutex next) = Passing m (c.core m.node) (c.call m.node)
      (Mark ∷ boundary_observations (keeping false m.seen.locals next) m.view.side (c.after m.node) m.registers)
      (Asking gives mutex next m.seen (view_after (keeping false m.seen.locals next) m.view))
  Performs m a.Ends = Passing m (c.core m.node) (c.call m.node) (Mark ∷ []) (λ x. read x roles.call ≡ ends)

  -- after the ECALL of a lock stands a boundary, of an unlock nothing; from there the code leads to the next node, within the words that the call, and
  -- the two that set its registers, leave of the node's
  pub record GoesOnAfter (node next : ℕ) : Type 0 where
    pub on : (m : Entrance) → Meets c.program m.environment → m.node ≡ node → EntersAt m next →
        GoesThrough m.environment (record { registers = m.registers; from = c.after node; to = c.entry next; most = c.words m.node - 3 }) []
        (Enters p t next m.seen m.view)
