-- What durable words must have so that threads can be resumed by them, whoever left them: points, recorded locks, numbers and references, and no history.
use Rattle.std.specs.Prelude.{◌≡◌, ◌≢◌, ℕ, ◌<◌, List, length, map, slice_get, slice_index_or, Option, Some, true, ℤ, pos}
use Rattle.std.specs.List.{AllZip}
use Rattle.ido_base.specs.declared.location.Location.{Location}
use Rattle.ido_base.specs.Words.{Word, word_of}
use Rattle.log_schemes.specs.Layout.{word_count}
use Rattle.ido_base.specs.Locks.{has_lock}
use Rattle.ido_ints.specs.declared.kinds.Kind.{Kind}
use Rattle.ido_ints.specs.Kinds.{Holds}
use Rattle.ido_ints.specs.TypedNumbers.{typed}
use Rattle.c_tree.specs.NullReferences.{is_among}
use Rattle.c_tree.specs.Ranges.{elements_of}
use Rattle.c_tree.specs.References.{variable_refers}
use Rattle.c_ranges.specs.Laws.{IsNullOrReference}
use Rattle.rv64_isa.specs.Rows.{read}
use Rattle.machine_model.specs.Machine.{bank_of, durable_at, durable_point, resume_of, record_of, resumed_registers}
use Rattle.memory_layout.specs.Roles.{pending_address, pending_value}
use Rattle.flow_graph.specs.Nodes.{Node}
use Rattle.flow_graph.specs.Liveness.{NodeAt}
use Rattle.flow_graph.specs.Paths.{naming_of}
use Rattle.log_states.specs.Logs.{HasLog}
use Rattle.log_states.specs.BanksRead.{HasKept, HasTold}
use Rattle.thread_code.specs.Plans.{Plan, IsLogged, IsNodeOf, locks_before}
use Rattle.thread_code.specs.RegistersAtNodes.{LogView, frame_loads}
use Rattle.recovered_threads.specs.RecordDescriptions.{Code, Codes, ComesNext, CountsOn, NodePlace, ResumesAt, the_core, the_entry}
use Rattle.flat_compile.specs.ResumePlaces.{refers_in, knowns_before}
use Rattle.image_checks.specs.Logs.{AreOnce}
use Rattle.image_checks.specs.Checks.{IsElementOf, IsReferenceWord}
use Rattle.image_checks.specs.VariableReferences.{AreReferences}
use Rattle.expr_code.specs.EvaluationCode.{home_of, HomeCarries}
use Rattle.expr_code.specs.declared.home.Home.TheVariants.{InFrame}
use Rattle.operator_code.specs.ComputingCode.{Carries}

module _ (p : Plan) (code : Code p) (words : List Word) where
  -- the registers with which recovery resumes the thread
  abbrev pub resumed : List ℕ
  resumed = resumed_registers p.log words code.thread.number

  -- its log then: each word has what is durable of it
  abbrev pub resumed_view : LogView
  resumed_view = record { side = bank_of (durable_point p.log words code.thread.number); frame = λ address. durable_at words address }

  -- a number that is stored to the local: registers have the address of the local's word in the frame and the number, of its kind; where that is a reference,
  -- it is null, or one to its array
  pub record StoresAssigned (local : ℕ) : Type 0 where
    pub number : ℤ
    pub word : ℕ
    pub home : home_of code.thread.locals local ≡ InFrame word
    pub address : read resumed pending_address ≡ word
    pub value : (k : Kind) → slice_get code.thread.kinds local ≡ Some k → Carries resumed pending_value (typed k number)
    pub refer : (array : ℕ) → slice_get (refers_in p code.thread) local ≡ Some (Some array) → IsNullOrReference (elements_of p.flat.variables array) number

  -- past its boundary a logged assignment stores such a number, whatever its expression gives
  abbrev pub HasAssignment : (node : ℕ) → NodePlace → Type 0
  HasAssignment node the_entry = Unit {0}
  HasAssignment node the_core = (logged : IsLogged p code.thread node) → StoresAssigned logged.local

  -- the thread goes on at the node, there: it is resumed where a boundary does that, and finds what it needs
  pub record GoesOnAt (node : ℕ) (place : NodePlace) : Type 0 where
    pub own : IsNodeOf code.thread node
    pub resumes : ResumesAt p code node place (resume_of (durable_point p.log words code.thread.number))
    -- its locals have these numbers, of their kinds: each on which it counts has its number in its home, and of another one it may be any
    pub numbers : List ℤ
    pub held : AllZip Holds code.thread.kinds numbers
    pub locals : (local : ℕ) (k : Kind) → slice_get code.thread.kinds local ≡ Some k → CountsOn p code.thread node place local →
        HomeCarries (frame_loads resumed_view) resumed (home_of code.thread.locals local) (typed k (slice_index_or numbers local (pos 0)))
    -- each such reference is null, or one to its array
    pub refer : (local array : ℕ) → slice_get (refers_in p code.thread) local ≡ Some (Some array) → CountsOn p code.thread node place local →
        IsNullOrReference (elements_of p.flat.variables array) (slice_index_or numbers local (pos 0))
    -- each such reference that is known not to be null before the node is not null
    pub unnull : (local array : ℕ) → slice_get (refers_in p code.thread) local ≡ Some (Some array) → CountsOn p code.thread node place local →
        is_among (knowns_before p code.thread node) local ≡ true → slice_index_or numbers local (pos 0) ≢ pos 0
    -- the bank that its point names keeps the locks that it holds there, by these numbers, and no lock twice
    pub locks : HasKept p.log words code.thread.number (locks_before p code.thread numbers node)
    pub once : AreOnce (locks_before p code.thread numbers node)
    -- a pending store has the address of an element that the node may write
    pub pending : (is : Node) (location : Location) → NodeAt p.graph node is → is.writes ≡ Some location →
        IsElementOf p.flat.variables (naming_of p.flat code.of.text numbers) location (read resumed pending_address)
    -- of its number nothing is asked, unless it is a reference
    pub value : (is : Node) (location : Location) → NodeAt p.graph node is → is.writes ≡ Some location →
        IsReferenceWord p.flat.variables (variable_refers p.flat.variables location.variable) (read resumed pending_value)
    pub assigned : HasAssignment node place
    -- the bank is told of the write that comes
    pub told : (written : Option ℕ) → ComesNext p node place written → HasTold p.log words code.thread.number written

  -- the thread stands between two sections, or goes on at a node
  pub data HasThreadShape : Type 0 where
    idle : durable_point p.log words code.thread.number ≡ 0 → HasThreadShape
    resumes : (node : ℕ) (place : NodePlace) → durable_point p.log words code.thread.number ≢ 0 → GoesOnAt node place → HasThreadShape

-- as many words as the machine has, those of logs of 64 bits; what refers in variables is null or a reference to its array; each thread can be resumed; and no
-- two threads have recorded the same lock
pub record HasShape (p : Plan) (codes : Codes p) (words : List ℕ) : Type 0 where
  pub size : length words ≡ word_count p.log (length p.graph.threads)
  pub logs : (n : ℕ) → n < length p.graph.threads → HasLog p.log n (map word_of words)
  pub references : AreReferences p.flat words
  pub threads : (n : ℕ) (below : n < length p.graph.threads) → HasThreadShape p (codes.each n below) (map word_of words)
  pub apart : (g h lock : ℕ) → g < length p.graph.threads → h < length p.graph.threads → has_lock (record_of p.log (map word_of words) g) lock ≡ true →
      has_lock (record_of p.log (map word_of words) h) lock ≡ true → g ≡ h
