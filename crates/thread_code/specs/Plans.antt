-- What the code of threads is made of.
use Rattle.std.specs.Prelude.{◌≡◌, ◌≢◌, ◌⊎◌, ◌↔◌, ℕ, ◌+◌, ◌-◌, ◌<◌, ◌≤◌, List, [], ◌∷◌, map, length, slice_get}
use Rattle.std.specs.Prelude.{slice_index, slice_index_or, Contains, Some, None, Bool, true, ℤ, if◌then◌else◌}
use Rattle.log_schemes.specs.declared.log.Log.{Log}
use Rattle.log_schemes.specs.declared.keeping.Keeping.{Keeping}
use Rattle.log_schemes.specs.declared.keeping.Keeping.TheVariants.{Masked, Listed}
use Rattle.ido_base.specs.Layout.{variable_at}
use Rattle.ido_ints.specs.declared.kinds.Kind.{Kind}
use Rattle.c_tree.specs.Flats as f
use Rattle.c_tree.specs.WellFormed.{shape_of, ArePlain, IsWellFormed}
use Rattle.c_tree.specs.declared.language.Language.{Language}
use Rattle.c_tree.specs.declared.language.Language.TheVariants.{Plain, Full}
use Rattle.c_tree.specs.HoldPrices.{hold_prices, price_fault}
use Rattle.c_tree.specs.Exprs as e
use Rattle.c_tree.specs.Exprs.{LockName, ToLocal}
use Rattle.ido_base.specs.declared.place.Place.{Place}
use Rattle.c_tree.specs.LockNames.{Held, held_names, holds, lock_names}
use Rattle.c_tree.specs.Values.{lock_number}
use Rattle.c_tree.specs.LockDiscipline.{key_locals, numbers_below}
use Rattle.memory_layout.specs.declared.roles.TheConstants.{LOCALS}
use Rattle.memory_layout.specs.Roles.{pending_address, pending_value}
use Rattle.log_schemes.specs.Schemes.{HaveRoom, keeping_of, locals_of}
use Rattle.log_schemes.specs.declared.locals.Locals.{Locals}
use Rattle.log_schemes.specs.declared.locals.Locals.TheVariants.{Registers, Frame}
use Rattle.log_schemes.specs.Layout.{frame_at}
use Rattle.lock_discipline.specs.HeldSetsByStep.{AreAllSetsOf}
use Rattle.flow_graph.specs.declared.graph.Part.{Part}
use Rattle.flow_graph.specs.Nodes.{Eval, Graph, Node}
use Rattle.flow_graph.specs.IdempotentCuts.{Boundaries, HasBefore, IsLock, IsStoreNode, IsUnlock, Writes, AreCuts}
use Rattle.flow_graph.specs.LocalSets.{AreLive}
use Rattle.flow_graph.specs.Lowering.{lowered}
use Rattle.flow_graph.specs.Liveness.{NodeAt, Colouring, IsLive, AreAssignedFirst, AreRegisters, HasNoClash}
use Rattle.expr_code.specs.EvaluationCode.{Homes, home_of}
use Rattle.expr_code.specs.declared.home.Home.{Home}
use Rattle.expr_code.specs.declared.home.Home.TheVariants.{InRegister, InFrame}

-- a flat form and its graph, where it can be resumed, and where locals stand
pub record Plan : Type 0 where
  pub flat : f.Flat
  pub graph : Graph
  pub boundaries : Boundaries
  -- of each thread the mutexes that are held before each of its nodes
  pub held : List (List (List Bool))
  pub live : List (List ℕ)
  pub colours : Colouring
  -- how its threads log
  pub log : Log

-- the home of the locals of a thread that have this colour: the register of locals of that number, or that word of the frame in its log
abbrev pub home_at : Locals → Log → (thread colour : ℕ) → Home
home_at Registers log thread colour = InRegister (slice_index LOCALS colour)
home_at Frame log thread colour = InFrame (frame_at log thread colour)

abbrev pub home_of_colour : Log → (thread colour : ℕ) → Home
home_of_colour log thread colour = home_at (locals_of log) log thread colour

-- a thread of a plan
pub record Thread : Type 0 where
  pub number : ℕ
  pub part : Part
  pub kinds : List Kind
  -- where each local stands
  pub locals : List Home

-- the thread of that number
pub record IsThread (p : Plan) (t : Thread) : Type 0 where
  pub nodes : slice_get p.graph.threads t.number ≡ Some t.part
  pub text : f.Thread
  pub of_text : slice_get p.flat.threads t.number ≡ Some text
  pub kinds : t.kinds ≡ text.locals
  pub colours : List ℕ
  pub of_colours : slice_get p.colours t.number ≡ Some colours
  pub locals : t.locals ≡ map (home_of_colour p.log t.number) colours

-- the node is one of the thread's
pub record IsNodeOf (t : Thread) (node : ℕ) : Type 0 where
  pub from_first : t.part.first ≤ node
  pub below_end : node < t.part.end

-- where variables and the thread's locals are
abbrev pub homes : Plan → Thread → Homes
homes p t = record {
  addresses = map (λ (v : ℕ). variable_at (map shape_of p.flat.variables) v 0) (numbers_below (length p.flat.variables));
  locals = t.locals;
}

-- ---- Held locks

-- the numbers of the held locks, ascending, where the first of the set is lock `at`
abbrev pub locks_held_from : (at : ℕ) → Held → List ℕ
locks_held_from at [] = []
locks_held_from at (b ∷ held) = if b then at ∷ locks_held_from (at + 1) held else locks_held_from (at + 1) held

abbrev pub locks_held : Held → List ℕ
locks_held held = locks_held_from 0 held

-- the set held before a node of the thread
abbrev pub set_before : Plan → Thread → (node : ℕ) → Held
set_before p t node = slice_index_or (slice_index_or p.held t.number []) (node - t.part.first) []

-- the names that the thread's text locks
abbrev pub names_in : Plan → Thread → List LockName
names_in p t = slice_index_or (map (λ (text : f.Thread). lock_names p.flat text) p.flat.threads) t.number []

-- those held there
abbrev pub held_names_before : Plan → Thread → (node : ℕ) → List LockName
held_names_before p t node = held_names (names_in p t) (set_before p t node)

-- the numbers of the locks held there, where the thread's locals have these
abbrev pub locks_before : Plan → Thread → (locals : List ℤ) → (node : ℕ) → List ℕ
locks_before p t locals node = map (lock_number locals) (held_names_before p t node)

-- ---- What it costs to keep them

-- a log that lists its locks is one of programs with arrays of mutexes, where what is held has a price
abbrev pub language_kept : Keeping → Language
language_kept Masked = Plain
language_kept Listed = Full

abbrev pub language_of : Log → Language
language_of log = language_kept (keeping_of log)

-- how many words the code of these locks may have in a boundary: where the log has a mask, none
abbrev pub words_held : Keeping → List LockName → ℕ
words_held Masked names = 0
words_held Listed names = hold_prices names

abbrev pub hold_words : Log → List LockName → ℕ
hold_words log names = words_held (keeping_of log) names

-- ---- Registers to keep

-- a register that is live at the node's entry: the home of a live local, or before a store those of what it stores
pub data IsKept (p : Plan) (t : Thread) (node : ℕ) : (register : ℕ) → Type 0 where
  of_local : (local : ℕ) (k : Kind) (register : ℕ) → slice_get t.kinds local ≡ Some k → IsLive p.graph local node →
      home_of t.locals local ≡ InRegister register → IsKept p t node register
  of_address : IsStoreNode p.graph node → IsKept p t node pending_address
  of_value : IsStoreNode p.graph node → IsKept p t node pending_value

-- the registers are those that are live at the node's entry
abbrev pub AreKept : Plan → Thread → (node : ℕ) → List ℕ → Type 0
AreKept p t node registers = (register : ℕ) → Contains registers register ↔ IsKept p t node register

-- ---- Writes that have a record of their own

-- the node assigns the local
pub record Assigns (p : Plan) (node local : ℕ) : Type 0 where
  pub is : Node
  pub at : NodeAt p.graph node is
  pub place : Place
  pub kind : Kind
  pub assigned : e.Placed
  pub next : ℕ
  pub action : is.action ≡ Eval (ToLocal place local kind) assigned next

-- an assignment in a section of a local that stands in the log: a write, which is recorded before it is made
pub record IsLogged (p : Plan) (t : Thread) (node : ℕ) : Type 0 where
  pub local : ℕ
  pub assigns : Assigns p node local
  pub frame : locals_of p.log ≡ Frame
  pub holds : held_names_before p t node ≢ []

-- a register that the boundary before a node keeps: one that is live at its entry, or of a logged assignment those of what it stores
pub data IsKeptBefore (p : Plan) (t : Thread) (node : ℕ) : (register : ℕ) → Type 0 where
  of_entry : (register : ℕ) → IsKept p t node register → IsKeptBefore p t node register
  of_word : IsLogged p t node → IsKeptBefore p t node pending_address
  of_number : IsLogged p t node → IsKeptBefore p t node pending_value

abbrev pub AreKeptBefore : Plan → Thread → (node : ℕ) → List ℕ → Type 0
AreKeptBefore p t node registers = (register : ℕ) → Contains registers register ↔ IsKeptBefore p t node register

-- one of the plan's threads logs the assignment
pub record IsLoggedAt (p : Plan) (node : ℕ) : Type 0 where
  pub thread : Thread
  pub of : IsThread p thread
  pub own : IsNodeOf thread node
  pub logged : IsLogged p thread node

-- boundaries stand after locks, and before unlocks and writes alone, of which a logged assignment is one; where locals stand in the frame before each write
pub record AreAtRecords (p : Plan) : Type 0 where
  pub after : (node : ℕ) → slice_get p.boundaries.after_lock node ≡ Some true → IsLock p.graph node
  pub before : (node : ℕ) → HasBefore p.boundaries node → IsUnlock p.graph node ⊎ Writes p.graph node ⊎ IsLoggedAt p node
  pub stores : locals_of p.log ≡ Frame → (node : ℕ) → Writes p.graph node → HasBefore p.boundaries node
  pub assignments : (node : ℕ) → IsLoggedAt p node → HasBefore p.boundaries node
  pub before_count : length p.boundaries.before ≡ length p.graph.nodes
  pub after_count : length p.boundaries.after_lock ≡ length p.graph.nodes

-- ---- What is known of a plan

pub record IsPlan (p : Plan) : Type 0 where
  pub formed : IsWellFormed p.flat
  pub lowered : p.graph ≡ lowered p.flat
  pub cuts : AreCuts p.graph p.boundaries
  pub at_writes : AreAtRecords p
  -- the form keeps the lock discipline, and these are the sets that are held
  pub held : AreAllSetsOf p.flat p.held
  pub live : AreLive p.graph p.live
  -- a later life begins with the words of the frame as the one before it has left them
  pub assigned_first : locals_of p.log ≡ Frame → AreAssignedFirst p.graph
  -- at a node before which a lock is held the locals of its key are live
  pub keys_live : (t : Thread) (of : IsThread p t) (node : ℕ) → IsNodeOf t node → (name local : ℕ) (x : LockName) →
      slice_get (names_in p t) name ≡ Some x → holds (set_before p t node) name ≡ true → Contains (key_locals x) local → IsLive p.graph local node
  pub registers : AreRegisters p.graph p.colours
  pub apart : HasNoClash p.graph p.colours
  -- where threads log with masks no mutex is in an array
  pub plain : keeping_of p.log ≡ Masked → ArePlain p.flat.mutexes
  -- no thread's price is too high
  pub priced : price_fault (language_of p.log) p.flat ≡ None
  -- a bank of the threads' logs has room for the locks that are held before each node
  pub room : (t : Thread) (locals : List ℤ) (node : ℕ) → HaveRoom p.log (locks_before p t locals node)
