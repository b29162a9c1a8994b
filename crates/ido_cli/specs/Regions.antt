-- The listing of a graph: its nodes, the boundaries that are chosen among them, and how few they are in straight code.
use Rattle.std.specs.Prelude.{◌≡◌, ℕ, zero, suc, ◌+◌, ◌-◌, List, [], ◌∷◌, ◌++◌, codes, decimal, slice_index_or, Contains}
use Rattle.std.specs.Prelude.{slice_get, Option, Some, None, Bool, true, false, not, ◌&&◌, nat_eq, nat_le, nat_lt, if◌then◌else◌}
use Rattle.ido_base.specs.Places.{column_of, line_of}
use Rattle.c_tree.specs.Flats.{Flat, Thread}
use Rattle.c_tree.specs.LockNames.{Held, count_held}
use Rattle.lock_discipline.specs.HeldSetsByStep.{AreAllSetsOf}
use Rattle.flow_graph.specs.declared.graph.Part.{Part}
use Rattle.flow_graph.specs.IdempotentCuts.{Boundaries}
use Rattle.flow_graph.specs.Lowering.{lowered}
use Rattle.flow_graph.specs.Nodes.{Action, Eval, Store, Test, Lock, Unlock, End, Node, Graph}
use Rattle.region_cutter.specs.FewestCuts.{AreStretches, NoneHasFewer}
use Rattle.region_cutter.specs.declared.straight.Stretch.{Stretch}
use Rattle.run_scripts.specs.Reports.{line}

abbrev pub action_name : Action → List ℕ
action_name (Eval target value next) = codes "eval"
action_name (Store variable kind next) = codes "store"
action_name (Test condition holds fails) = codes "test"
action_name (Lock lock next) = codes "lock"
action_name (Unlock lock next) = codes "unlock"
action_name End = codes "end"

abbrev pub is_unlock : Action → Bool
is_unlock (Eval target value next) = false
is_unlock (Store variable kind next) = false
is_unlock (Test condition holds fails) = false
is_unlock (Lock lock next) = false
is_unlock (Unlock lock next) = true
is_unlock End = false

-- a boundary stands before the node by choice: it does before each unlock
abbrev pub is_chosen : Boundaries → (number : ℕ) → Node → Bool
is_chosen b number x = slice_index_or b.before number false && not (is_unlock x.action)

abbrev pub cut_mark : (chosen : Bool) → List ℕ
cut_mark true = codes " cut"
cut_mark false = []

-- `2 store 1:56 cut`
unfoldable pub node_line : (text : List ℕ) → (number : ℕ) → Node → (chosen : Bool) → List ℕ
node_line text number x chosen =
    line (decimal number ++ codes " " ++ action_name x.action ++ codes " " ++ decimal (line_of text x.place.0) ++ codes ":"
    ++ decimal (column_of text x.place.0) ++ cut_mark chosen)

abbrev pub line_at : (text : List ℕ) → Boundaries → (number : ℕ) → Option Node → List ℕ
line_at text b number None = []
line_at text b number (Some x) = node_line text number x (is_chosen b number x)

abbrev pub lines_from : (text : List ℕ) → Graph → Boundaries → (number count : ℕ) → List ℕ
lines_from text g b number zero = []
lines_from text g b number (suc count) = line_at text b number (slice_get g.nodes number) ++ lines_from text g b (number + 1) count

abbrev pub node_lines : (text : List ℕ) → Graph → Boundaries → Part → List ℕ
node_lines text g b part = lines_from text g b part.first (part.end - part.first)

-- `thread t`
unfoldable pub thread_line : Thread → List ℕ
thread_line t = line (codes "thread " ++ t.name.text)

-- ---- Straight code

-- how many boundaries stand before so many nodes from this one on
abbrev pub boundaries_among : Boundaries → (node count : ℕ) → ℕ
boundaries_among b node zero = 0
boundaries_among b node (suc count) = (if slice_index_or b.before node false then 1 else 0) + boundaries_among b (node + 1) count

-- how many stand inside a stretch: before its nodes but for the first
abbrev pub boundaries_inside : Boundaries → Stretch → ℕ
boundaries_inside b s = boundaries_among b (s.first + 1) (s.past - (s.first + 1))

-- `least 1 7 1`
unfoldable pub least_line : Boundaries → Stretch → List ℕ
least_line b s =
    line (codes "least " ++ decimal s.first ++ codes " " ++ decimal s.past ++ codes " " ++ decimal (boundaries_inside b s))

-- the stretches that are told, and of each thread the mutexes that are held before its steps
pub record Straight : Type 0 where
  pub stretches : List Stretch
  pub held : List (List Held)

-- how many locks are held before the node of a thread
abbrev pub count_before : (held : List (List Held)) → (thread : ℕ) → Part → (node : ℕ) → ℕ
count_before held thread part node = count_held (slice_index_or (slice_index_or held thread []) (node - part.first) [])

-- the node is one of the thread's, and some lock is held before it
abbrev pub is_in_section : (held : List (List Held)) → (thread : ℕ) → Part → (node : ℕ) → Bool
is_in_section held thread part node =
    nat_le part.first node && nat_lt node part.end && not (nat_eq (count_before held thread part node) 0)

-- the line of a stretch in a section of the thread
abbrev pub stretch_line : Boundaries → (held : List (List Held)) → (thread : ℕ) → Part → Stretch → List ℕ
stretch_line b held thread part s = if is_in_section held thread part s.first then least_line b s else []

abbrev pub least_lines : Boundaries → (held : List (List Held)) → (thread : ℕ) → Part → List Stretch → List ℕ
least_lines b held thread part [] = []
least_lines b held thread part (s ∷ ss) = stretch_line b held thread part s ++ least_lines b held thread part ss

-- ---- Threads

-- of each thread, from this number on, its name, its nodes, and its stretches
abbrev pub regions_of : (text : List ℕ) → Graph → Boundaries → Straight → (number : ℕ) → List Thread → List Part → List ℕ
regions_of text g b x number [] ps = []
regions_of text g b x number (t ∷ ts) [] = []
regions_of text g b x number (t ∷ ts) (p ∷ ps) =
    thread_line t ++ node_lines text g b p ++ least_lines b x.held number p x.stretches ++ regions_of text g b x (number + 1) ts ps

unfoldable pub regions : (text : List ℕ) → Graph → Boundaries → Straight → List Thread → List ℕ
regions text g b x threads = regions_of text g b x 0 threads g.threads

-- ---- The listing of a source

-- no stretch is told, or all of the graph are
abbrev pub AreTold : (least : Bool) → Graph → List Stretch → Type 0
AreTold false g stretches = stretches ≡ []
AreTold true g stretches = AreStretches g stretches

-- in none of these stretches a cut set has fewer boundaries than those
abbrev pub AreLeast : Graph → Boundaries → List Stretch → Type 0
AreLeast g b stretches = (s : Stretch) → Contains stretches s → NoneHasFewer g s.first s.past (boundaries_inside b s)

-- The nodes of the form's graph and the boundaries that are chosen among them; and, where that is asked, how many of them stand in each stretch of a section.
-- No cut set has fewer there.
pub record IsListing (least : Bool) (source : List ℕ) (flat : Flat) (b : Boundaries) (output : List ℕ) : Type 0 where
  pub straight : Straight
  pub held : AreAllSetsOf flat straight.held
  pub told : AreTold least (lowered flat) straight.stretches
  pub none_fewer : AreLeast (lowered flat) b straight.stretches
  pub is : output ≡ regions source (lowered flat) b straight flat.threads
