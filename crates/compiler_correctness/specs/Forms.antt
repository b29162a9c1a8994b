-- The form of compiled code: the code of each thread is that of its nodes, one after another, and boundaries stand where the graph is cut.
use Rattle.std.specs.Prelude.{◌≡◌, ◌⊎◌, ◌↔◌, ℕ, ℤ, pos, ◌+◌, ◌-◌, ◌*◌, ◌<◌, ◌≤◌, List, [], ◌∷◌, ◌++◌, length, slice_get, slice_index_or, Contains}
use Rattle.ido_base.specs.declared.place.Place.{Place}
use Rattle.c_tree.specs.Exprs.{LockName, Placed, ToLocal}
use Rattle.std.specs.Prelude.{Option, Some, None, Bool, true, false, not, map}
use Rattle.std.specs.List.{AllByRecursion, list_any}
use Rattle.std.specs.List.Sorted.{IsStrictlyIncreasing}
use Rattle.ido_ints.specs.declared.kinds.Kind.{Kind}
use Rattle.ido_ints.specs.Reduction.{reduced}
use Rattle.ido_ints.specs.TypedNumbers.{Typed, typed, register_form_of}
use Rattle.c_tree.specs.Flats as f
use Rattle.c_tree.specs.LockNames.{Held, held_names, lock_names}
use Rattle.c_tree.specs.Values.{lock_number}
use Rattle.c_tree.specs.HoldPrices.{full_price}
use Rattle.rv64_isa.specs.declared.instr.Instr.TheVariants.{Ecall}
use Rattle.rv64_isa.specs.Programs.{code_of, code_start}
use Rattle.rv64_isa.specs.Rows.{read}
use Rattle.rv64_link.specs.LinkedCode.{IsInstructionAt, AreInstructions}
use Rattle.c_tree.specs.WellFormed.{IsSingle, shape_of, initial_numbers}
use Rattle.memory_layout.specs.Roles.{pending_address, pending_value}
use Rattle.memory_layout.specs.Variables.{AreInitial}
use Rattle.boundary_code.specs.Boundaries.{Boundary, IsOnSide}
use Rattle.node_code.specs.Pieces.{boundary_observations, store_observations}
use Rattle.code_runs.specs.ComputingRuns.{config}
use Rattle.code_runs.specs.CodeTraces.{MarkedEnvironment, Meets, Mark, Observation, Trace}
use Rattle.lock_discipline.specs.HeldSetsByStep.{AreAllSetsOf}
use Rattle.flow_graph.specs.declared.graph.Part.{Part}
use Rattle.flow_graph.specs.Actions.{Seen, number_in}
use Rattle.flow_graph.specs.Nodes.{Eval, Lock, Unlock, Node}
use Rattle.flow_graph.specs.Liveness.{NodeAt, IsLive, Colouring, AreRegisters, HasNoClash}
use Rattle.flow_graph.specs.Lowering.{lowered}
use Rattle.region_cutter.specs.BoundaryPlaces.{AreBoundariesFor}
use Rattle.flow_graph.specs.IdempotentCuts.{IsLock, IsUnlock, IsStoreNode, IsChosen, AreCuts, AreAtWrites}
use Rattle.hart_runs.specs.Laws.{program_at}
use Rattle.thread_code.specs.NodeCodeEffects.{bytes_written}
use Rattle.thread_code.specs.Programs.{boundary_count, IsOn}
use Rattle.compiler_correctness.specs.Translations.{Translation, marks_of, resumes_of}
use Rattle.thread_code.specs.Plans.{home_of_colour, language_of}
use Rattle.expr_code.specs.declared.home.Home.{Home}
use Rattle.expr_code.specs.declared.home.Home.TheVariants.{InRegister, InFrame}
use Rattle.expr_code.specs.EvaluationCode.{AreLoaded, home_of, HomeCarries}
use Rattle.log_schemes.specs.declared.keeping.Keeping.TheVariants.{Masked}
use Rattle.log_schemes.specs.declared.locals.Locals.TheVariants.{Registers, Frame}
use Rattle.log_schemes.specs.declared.log.Log.{Log}
use Rattle.log_schemes.specs.Schemes.{keeping_of, locals_of}

-- ---- The code of a thread's nodes

-- where the code of a thread's nodes stands, by the nodes' numbers in the graph
pub record Sites : Type 0 where
  -- the address of a node's first word; that of the thread's last node is followed by the code's end
  pub start : (node : ℕ) → ℕ
  -- the address of a node's mark
  pub mark : (node : ℕ) → ℕ
  -- where a thread goes on that has taken a mutex, after the boundary, or has given one back
  pub after : (node : ℕ) → ℕ

-- the node is one of the part's
pub record IsAmong (part : Part) (node : ℕ) : Type 0 where
  pub from_first : part.first ≤ node
  pub below_end : node < part.end

module _ (c : Translation) (thread : ℕ) (part : Part) (s : Sites) where
  -- an ECALL stands at the address, in the node's code after its mark or at it
  pub record CallsAt (node address : ℕ) : Type 0 where
    pub stands : IsInstructionAt (code_start c.runs.program thread) (code_of c.runs.program thread) address Ecall
    pub from_mark : IsOn (s.mark node) address
    pub to_end : IsOn (address + 4) (s.start (node + 1))

  -- the code of a node of the thread
  pub record HasNodeForm (node : ℕ) : Type 0 where
    -- all words of a node are instructions; each boundary has two FENCEs, and no other FENCE is there
    pub words : AreInstructions (code_start c.runs.program thread) (code_of c.runs.program thread) (s.start node) (s.start (node + 1))
        (2 * boundary_count c.boundaries node)
    -- the node's one mark is the address of one of its words
    pub from_start : IsOn (s.start node) (s.mark node)
    pub to_end : IsOn (s.mark node + 4) (s.start (node + 1))
    pub marked : slice_get (marks_of c thread) (node - part.first) ≡ Some (s.mark node)
    -- a mutex is taken at the mark, and the thread goes on after that
    pub takes : IsLock (lowered c.flat) node → CallsAt node (s.mark node)
    pub goes_on : IsLock (lowered c.flat) node → IsOn (s.mark node + 4) (s.after node) × IsOn (s.after node) (s.start (node + 1))
    -- where a mutex has been given back, the thread goes on
    pub gives : IsUnlock (lowered c.flat) node → (call : ℕ) × CallsAt node call × (s.after node ≡ call + 4)

-- ---- What boundaries store

-- a mutex is held
abbrev pub holds_some : Held → Bool
holds_some held = list_any (λ h. h) held

-- from these registers and the one address the code leads to the other address, and that is seen on the way
abbrev pub Leads : MarkedEnvironment → (x : List ℕ) (from to : ℕ) → List Observation → Type 0
Leads s x from to seen = (steps : ℕ) × (y : List ℕ) × Trace s steps (config x from) seen (config y to)

-- registers have the address of a word and the value, in its register form
pub record HasWrite (word : ℕ) (v : Typed) (registers : List ℕ) : Type 0 where
  pub address : read registers pending_address ≡ word
  pub value : read registers pending_value ≡ register_form_of v

module _ (c : Translation) (thread : ℕ) (text : f.Thread) (part : Part) (held : List Held) (homes : List Home) where
  -- the mutexes that are held before a node
  abbrev pub held_before : (node : ℕ) → Held
  held_before node = slice_index_or held (node - part.first) []

  -- the node assigns a local that stands in the thread's log, and a mutex is held: that is a write of a section, which is logged
  pub record LogsAssignment (node : ℕ) : Type 0 where
    pub framed : locals_of c.runs.log ≡ Frame
    pub locked : holds_some (held_before node) ≡ true
    pub is : Node
    pub at : NodeAt (lowered c.flat) node is
    pub place : Place
    pub local : ℕ
    pub kind : Kind
    pub value : Placed
    pub next : ℕ
    pub assigns : is.action ≡ Eval (ToLocal place local kind) value next

  -- a register that is live at the entry of a node: the home of a live local, or before a store one of the two that have its address and its number
  pub data IsLiveRegister (node : ℕ) : (register : ℕ) → Type 0 where
    of_local : (local : ℕ) (k : Kind) (register : ℕ) → slice_get text.locals local ≡ Some k → IsLive (lowered c.flat) local node →
        home_of homes local ≡ InRegister register → IsLiveRegister node register
    of_address : IsStoreNode (lowered c.flat) node → IsLiveRegister node pending_address
    of_value : IsStoreNode (lowered c.flat) node → IsLiveRegister node pending_value

  -- what registers hold at the entry of a node, and loads give of the words in which locals stand, where the thread's locals have these numbers and its
  -- point names this side
  pub record HoldLocals (node side : ℕ) (locals : List ℤ) (loads : (address bytes : ℕ) → Option ℕ) (values : List ℕ) : Type 0 where
    pub at_side : IsOnSide c.runs.log side values
    pub count : length locals ≡ length text.locals
    pub live : (local : ℕ) (k : Kind) → slice_get text.locals local ≡ Some k → IsLive (lowered c.flat) local node →
        HomeCarries loads values (home_of homes local) (typed k (slice_index_or locals local (pos 0)))

  -- the boundary after which the thread is at a node, with the locks that are held there by these numbers of its locals: it keeps these registers, tells of
  -- the write of so many bytes that comes, and opens a section or doesn't
  abbrev pub boundary_at : (node : ℕ) (written : Option ℕ) (opens : Bool) (live : List ℕ) (locals : List ℤ) → Boundary
  boundary_at node written opens live locals = record {
    log = c.runs.log;
    thread = thread;
    locks = map (lock_number locals) (held_names (lock_names c.flat text) (held_before node));
    live = live;
    resume = pos 0;
    written = written;
    opens = opens;
  }

  abbrev pub MeetsCode : MarkedEnvironment → Type 0
  MeetsCode s = Meets (program_at c.runs.program thread (marks_of c thread) (resumes_of c thread)) s

  -- From the one address to the other stands the boundary after which the thread is at a node, where it may be resumed at an address. Whatever its locals are,
  -- the code leads from the one to the other, and what is seen of that is the boundary: the side that the point doesn't name gets the locks that are held
  -- before the node, by these locals, what is told of a write where each has a record, and the live registers, all is cleaned, and where a section is opened
  -- the words in which locals stand, a FENCE, the point gets the address and the number of that side and is cleaned, a FENCE. Where no lock is held the point
  -- gets 0, and neither side gets anything.
  pub record StandsBoundary (entered node from to resume : ℕ) (written : Option ℕ) (opens : Bool) (first : List Observation) : Type 0 where
    pub live : List ℕ
    pub are_live : (register : ℕ) → Contains live register ↔ IsLiveRegister node register
    pub leads : (s : MarkedEnvironment) → MeetsCode s → (side : ℕ) (locals : List ℤ) (x : List ℕ) → HoldLocals entered side locals s.around.loads x →
        Leads s x from to (first ++ boundary_observations (boundary_at node written opens live locals) side resume x)

  -- What is seen of a logged assignment from its node's start to the next node's, whatever its locals are, and the numbers of variables that it reads: first
  -- its boundary, whose record has the address of the local's word in the thread's log and the number that is assigned, and after which it may be resumed at
  -- the mark; then the mark, the store of that number into that word, and the clean of its line.
  pub record IsRecorded {node : ℕ} (a : LogsAssignment node) (from mark to : ℕ) : Type 0 where
    pub word : ℕ
    pub home : home_of homes a.local ≡ InFrame word
    pub live : List ℕ
    pub are_live : (register : ℕ) → Contains live register ↔ ((register ≡ pending_address) ⊎ (register ≡ pending_value))
    pub leads : (s : MarkedEnvironment) → MeetsCode s → (side : ℕ) (seen : Seen) (x : List ℕ) → HoldLocals node side seen.locals s.around.loads x →
        AreLoaded (record { variables = c.flat.variables; kinds = text.locals; locals = seen.locals; numbers = seen.variables }) s.around.loads a.value.expr →
        let v : Typed = typed a.kind (reduced a.kind (number_in seen a.value.expr)) in
        (b : List ℕ) × HasWrite word v b × Leads s x from to (boundary_observations (boundary_at node (Some 8) false live seen.locals) side mark b
        ++ store_observations word 8 (register_form_of v) true)

  -- the boundaries of a node
  pub record HasBoundaries (s : Sites) (node : ℕ) : Type 0 where
    -- one that is chosen stands before the node's mark, and there the thread may be resumed
    pub chosen : IsChosen (lowered c.flat) c.boundaries node → ¬ (LogsAssignment node) → (is : Node) → NodeAt (lowered c.flat) node is →
        StandsBoundary node node (s.start node) (s.mark node) (s.mark node) (bytes_written is.action) false []
    -- a logged assignment has one of its own, and is made after it
    pub logged : (a : LogsAssignment node) → IsRecorded a (s.start node) (s.mark node) (s.start a.next)
    -- where none is chosen the code begins with the mark, but for what asks for a mutex
    pub plain : ¬ (IsChosen (lowered c.flat) c.boundaries node) → ¬ (IsLock (lowered c.flat) node) → s.start node ≡ s.mark node
    -- that of a lock stands after its call, which is its mark, and opens a section where no mutex was held
    pub past_lock : (is : Node) (lock : LockName) (next : ℕ) → NodeAt (lowered c.flat) node is → is.action ≡ Lock lock next →
        StandsBoundary next next (s.mark node + 4) (s.after node) (s.after node) None (not (holds_some (held_before node))) []
    -- that of an unlock stands from its mark to its call
    pub before_unlock : (is : Node) (lock : LockName) (next call : ℕ) → NodeAt (lowered c.flat) node is → is.action ≡ Unlock lock next →
        s.after node ≡ call + 4 →
        StandsBoundary node next (s.mark node) call (s.after node) None false (Mark ∷ [])

-- ---- Where threads may be resumed

-- the thread may be resumed there: at the mark of a node before which a boundary stands by choice, and after locks and unlocks where it holds a mutex
pub data IsResume (c : Translation) (part : Part) (held : List Held) (s : Sites) : (address : ℕ) → Type 0 where
  at_chosen : (node : ℕ) → IsAmong part node → IsChosen (lowered c.flat) c.boundaries node → IsResume c part held s (s.mark node)
  past_lock : (node : ℕ) → IsAmong part node → IsLock (lowered c.flat) node → IsResume c part held s (s.after node)
  past_unlock : (node : ℕ) (lock : LockName) (next : ℕ) (is : Node) → IsAmong part node → NodeAt (lowered c.flat) node is → is.action ≡ Unlock lock next →
      holds_some (slice_index_or held (next - part.first) []) ≡ true → IsResume c part held s (s.after node)

-- ---- Threads

-- where each local of a thread stands, by its colour
abbrev pub homes_by : Log → Colouring → (thread : ℕ) → List Home
homes_by log colours thread = map (home_of_colour log thread) (slice_index_or colours thread [])

-- before each node of the thread these mutexes are held
pub record HasThreadForm (c : Translation) (held : List Held) (colours : Colouring) (thread : ℕ) (text : f.Thread) : Type 0 where
  -- the thread's nodes
  pub part : Part
  pub nodes : slice_get (lowered c.flat).threads thread ≡ Some part
  -- no more words than its price, with what is held where the log lists locks
  pub price : length (code_of c.runs.program thread) ≤ full_price (language_of c.runs.log) c.flat text
  -- the thread's code is that of its nodes, in their order
  pub sites : Sites
  pub begins : sites.start part.first ≡ code_start c.runs.program thread
  pub ends : sites.start part.end ≡ code_start c.runs.program thread + 4 * length (code_of c.runs.program thread)
  pub each : (node : ℕ) → IsAmong part node → HasNodeForm c thread part sites node
  -- where boundaries stand, and what they store
  pub boundaries : (node : ℕ) → IsAmong part node → HasBoundaries c thread text part held (homes_by c.runs.log colours thread) sites node
  -- each node has one mark, and so they ascend
  pub marks_count : length (marks_of c thread) ≡ part.end - part.first
  pub marks_ascend : IsStrictlyIncreasing (marks_of c thread)
  -- the addresses where recovery may resume are these, and no others, and they ascend
  pub resumes : (address : ℕ) → Contains (resumes_of c thread) address ↔ IsResume c part held sites address
  pub resumes_ascend : IsStrictlyIncreasing (resumes_of c thread)
  -- a boundary stands by choice only where a mutex is held
  pub locked : (node : ℕ) → IsAmong part node → IsChosen (lowered c.flat) c.boundaries node →
      holds_some (slice_index_or held (node - part.first) []) ≡ true

-- ---- Programs

pub record HasForm (c : Translation) : Type 0 where
  -- where threads log with masks no mutex of the source is in an array
  pub single : keeping_of c.runs.log ≡ Masked → AllByRecursion IsSingle c.flat.mutexes
  -- the initial bytes are the source's, and there is a lock for each mutex
  pub initial : AreInitial (map shape_of c.flat.variables) (map initial_numbers c.flat.variables) c.runs.initial
  pub mutexes : c.runs.mutexes ≡ length c.flat.mutexes
  pub count : length c.runs.program ≡ length c.flat.threads
  -- the mutexes that are held before each node of each thread
  pub held : List (List Held)
  pub sets : AreAllSetsOf c.flat held
  -- each local has a register, or a word of its thread's log, and two whose intervals share a node have different ones
  pub colours : Colouring
  pub registers : AreRegisters (lowered c.flat) colours
  pub apart : HasNoClash (lowered c.flat) colours
  pub threads : (thread : ℕ) (text : f.Thread) → slice_get c.flat.threads thread ≡ Some text →
      HasThreadForm c (slice_index_or held thread []) colours thread text
  -- boundaries are a cut set: they stand after locks, before unlocks, and by choice before writes, so that each region can be run again
  pub cuts : AreCuts (lowered c.flat) c.boundaries
  -- where locals stand in registers, by choice before stores alone; with any of those taken away a region could not be run again, and in each stretch of
  -- straight code no cut set has fewer. Where they stand in the log, before each store and each assignment that is logged
  pub at_writes : locals_of c.runs.log ≡ Registers → AreAtWrites (lowered c.flat) c.boundaries
  pub placed : AreBoundariesFor (locals_of c.runs.log) (lowered c.flat) held c.boundaries
