-- Places where a thread may be resumed, node after node.
use Rattle.std.specs.Prelude.{◌≡◌, ◌≢◌, ◌↔◌, ℕ, suc, ◌+◌, ◌*◌, ◌<◌, ◌≤◌, List, [], ◌∷◌, length, map, Bool, true, false}
use Rattle.std.specs.Prelude.{slice_get, slice_index_or, Contains, Option, None, Some, Vec}
use Rattle.std.specs.Global.{Global}
use Rattle.c_tree.specs.Flats as f
use Rattle.c_tree.specs.Exprs.{Lvalue, ToLocal, ToVariable, ToElement}
use Rattle.flow_graph.specs.declared.graph.Part.{Part}
use Rattle.flow_graph.specs.Nodes.{Action, Eval, Store, Test, Lock, Unlock, End}
use Rattle.flow_graph.specs.LocalSets.{HasAt}
use Rattle.thread_code.specs.Plans.{Plan, Thread, IsLogged, IsPlan, IsThread, IsNodeOf, home_of_colour}
use Rattle.c_ranges.specs.KnownAtSteps.{thread_knowns}
use Rattle.flat_compile.specs.declared.resumes.LiveLocal.{LiveLocal}
use Rattle.flat_compile.specs.declared.resumes.Resume.{Resume}
use Rattle.flat_compile.specs.declared.resumes.Assignment.{Assignment}
use Rattle.flat_compile.specs.declared.resumes.Counted.{Counted}
use Rattle.flat_compile.specs.declared.resumes.Stand.{Stand}
use Rattle.recovered_threads.specs.RecordDescriptions.{Codes, NodePlace, the_core, the_entry}
use Rattle.flat_compile.specs.ResumePlaces.{Spot, Before, After, is_known, IsSpot, IsFound, AreResumes, AreMarksOf, resumes_at}
use Rattle.flat_compile.specs.links.KnownLists.{known_lists}

-- ---- The thread of a number

abbrev pub thread_in : Plan → (number : ℕ) → Part → Thread
thread_in p number part = record {
  number = number;
  part = part;
  kinds = slice_index_or (map (λ (t : f.Thread). t.locals) p.flat.threads) number [];
  locals = map (home_of_colour p.log number) (slice_index_or p.colours number []);
}

pub record IsOwn (p : Plan) (number : ℕ) (part : Part) : Type 0 where
  pub plan : IsPlan p
  pub thread : IsThread p (thread_in p number part)

-- the node is one of its nodes
pub record IsOwnNode (p : Plan) (number : ℕ) (part : Part) (node : ℕ) : Type 0 where
  pub is : IsOwn p number part
  pub own : IsNodeOf (thread_in p number part) node

-- ---- Places

-- the rank of a place: places have the order of their ranks in the code
abbrev pub rank : Spot → ℕ
rank (Before node) = 2 * node
rank (After node next) = 2 * node + 1

-- where the thread goes on
abbrev pub stand_in : Spot → Stand
stand_in (Before node) = record { node = node; at_core = true }
stand_in (After node next) = record { node = next; at_core = false }

-- at that node, if there is one
abbrev pub stands_at : (at_core : Bool) → Option ℕ → List Stand
stands_at at_core None = []
stands_at at_core (Some node) = record { node = node; at_core = at_core } ∷ []

abbrev pub stand_of : Resume → Stand
stand_of r = record { node = r.node; at_core = r.at_core }

-- the numbers ascend, from `low` on
abbrev pub Ascends : (low : ℕ) → List ℕ → Type 0
Ascends low [] = Unit {0}
Ascends low (x ∷ xs) = (low ≤ x) × Ascends (suc x) xs

module _ (p : Plan) (t : Thread) where
  -- the answer is the node at which the thread is resumed after the ECALL of this one, or none where it isn't
  abbrev pub IsPastCall : (node : ℕ) → Option ℕ → Type 0
  IsPastCall node answer = (next : ℕ) → (answer ≡ Some next) ↔ IsSpot p t (After node next)

  -- the answer is the node where a boundary stands before it by choice, or else none
  abbrev pub IsBefore : (node : ℕ) → Option ℕ → Type 0
  IsBefore node answer = (n : ℕ) → (answer ≡ Some n) ↔ ((n ≡ node) × IsSpot p t (Before node))

  -- all whose rank is below the bound
  pub record AreSpotsBelow (bound : ℕ) (spots : List Spot) : Type 0 where
    pub each : (spot : Spot) → Contains spots spot → IsSpot p t spot × (rank spot < bound)
    pub all : (spot : Spot) → IsSpot p t spot → rank spot < bound → Contains spots spot
    pub ascend : Ascends 0 (map rank spots)

  -- where the thread goes on there
  pub record AreStandsBelow (bound : ℕ) (stands : List Stand) : Type 0 where
    pub spots : List Spot
    pub are : AreSpotsBelow bound spots
    pub goes_on : map stand_in spots ≡ stands

  -- the thread's resumes, where it goes on so, by these addresses
  pub record AreFoundAt (stands : List Stand) (addresses : List ℕ) (rs : List Resume) : Type 0 where
    pub stands_are : map stand_of rs ≡ stands
    pub addresses_are : map (λ (r : Resume). r.address) rs ≡ addresses
    pub each : (k : ℕ) (r : Resume) → slice_get rs k ≡ Some r → IsFound p t r

-- ---- Logged assignments

-- the local that the action assigns, and the node after it
abbrev pub assignment_to : Lvalue → (next : ℕ) → Option Assignment
assignment_to (ToLocal place local kind) next = Some (record { local = local; next = next })
assignment_to (ToVariable place variable kind) next = None
assignment_to (ToElement place variable kind index) next = None

abbrev pub assignment_in : Action → Option Assignment
assignment_in (Eval target value next) = assignment_to target next
assignment_in (Store variable kind next) = None
assignment_in (Test condition holds fails) = None
assignment_in (Lock lock next) = None
assignment_in (Unlock lock next) = None
assignment_in End = None

module _ (p : Plan) (t : Thread) (node : ℕ) where
  -- the node is that logged assignment
  pub record Logs (a : Assignment) : Type 0 where
    pub logged : IsLogged p t node
    pub local_is : logged.local ≡ a.local
    pub next_is : logged.assigns.next ≡ a.next

  -- from there the thread makes that assignment next
  abbrev pub LogsNext : NodePlace → Assignment → Type 0
  LogsNext the_entry a = ⊥
  LogsNext the_core a = Logs a

  -- the answer is that assignment, or none
  abbrev pub IsNext : NodePlace → Option Assignment → Type 0
  IsNext place answer = (a : Assignment) → (answer ≡ Some a) ↔ LogsNext place a

-- the locals on which a thread counts at the node, where it makes that assignment next: those that are live at its entry or, of an assignment, those that
-- are live after it, without the one that it assigns
abbrev pub counted_by : (node : ℕ) → Option Assignment → Counted
counted_by node None = record { node = node; without = None }
counted_by node (Some a) = record { node = a.next; without = Some a.local }

-- ---- Live locals

-- the local is live at the entry of that node, and isn't the one that is left out
pub record Counts (sets : List (List ℕ)) (counted : Counted) (local : ℕ) : Type 0 where
  pub live : HasAt sets counted.node local
  pub other : counted.without ≢ Some local

-- it is one of these, and has the colour
pub record IsLiveIn (colours : List ℕ) (sets : List (List ℕ)) (counted : Counted) (colour local : ℕ) : Type 0 where
  pub coloured : slice_get colours local ≡ Some colour
  pub counts : Counts sets counted local

-- the locals of the thread that are known not to be null before each of its steps
abbrev pub AreKnowns : Plan → Thread → List (Vec ℕ Global) → Type 0
AreKnowns p t knowns = known_lists knowns ≡ slice_index_or (map thread_knowns p.flat.threads) t.number []

-- all such locals of the text whose colours are below that one, in the order of these, where these are known
pub record AreLiveBelow (colours : List ℕ) (text : f.Thread) (known : List ℕ) (sets : List (List ℕ)) (counted : Counted) (count : ℕ) (found : List LiveLocal) :
    Type 0 where
  pub each : (l : LiveLocal) → Contains found l ↔ ((l.colour < count) × IsLiveIn colours sets counted l.colour l.local
      × (slice_get text.locals l.local ≡ Some l.kind) × (slice_get text.refers l.local ≡ Some l.refers) × (l.known ≡ is_known known l))
  pub ascend : Ascends 0 (map (λ (l : LiveLocal). l.colour) found)

-- the local that is assigned, of whose number nothing is known
pub record IsAssignedIn (colours : List ℕ) (text : f.Thread) (local : ℕ) (l : LiveLocal) : Type 0 where
  pub local_is : l.local ≡ local
  pub coloured : slice_get colours local ≡ Some l.colour
  pub kind_is : slice_get text.locals local ≡ Some l.kind
  pub refers_is : slice_get text.refers local ≡ Some l.refers
  pub known_is : l.known ≡ false

abbrev pub AreAssignedIn : (colours : List ℕ) → f.Thread → Option Assignment → Option LiveLocal → Type 0
AreAssignedIn colours text None None = Unit {0}
AreAssignedIn colours text None (Some l) = ⊥
AreAssignedIn colours text (Some a) None = ⊥
AreAssignedIn colours text (Some a) (Some l) = IsAssignedIn colours text a.local l

-- ---- Tables

-- of so many threads, by these addresses
pub record AreTabled (p : Plan) (marks : List (List ℕ)) (count : ℕ) (table : List (Vec Resume Global)) : Type 0 where
  pub long : length table ≡ count
  pub each : (codes : Codes p) → AreMarksOf p codes marks → (n : ℕ) (below : n < length p.graph.threads) → n < count →
      AreResumes p (codes.each n below).thread (codes.each n below).program (codes.each n below).is (resumes_at table n)
