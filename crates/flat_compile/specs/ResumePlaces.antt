-- Where recovery resumes threads, and what it finds there.
use Rattle.std.specs.Prelude.{◌≡◌, ◌≢◌, ◌↔◌, ℕ, ◌-◌, ◌<◌, List, [], length, map, slice_get, slice_index_or, Contains, Option, Some}
use Rattle.std.specs.Prelude.{Bool, true, false, ◌&&◌, is_some, Vec}
use Rattle.c_tree.specs.Exprs.{LockName}
use Rattle.c_tree.specs.Flats as f
use Rattle.c_tree.specs.NullReferences.{is_among}
use Rattle.c_ranges.specs.KnownAtSteps.{thread_knowns}
use Rattle.std.specs.Global.{Global}
use Rattle.std.specs.List.Sorted.{IsStrictlyIncreasing}
use Rattle.flow_graph.specs.Nodes.{Lock, Unlock, Node}
use Rattle.flow_graph.specs.IdempotentCuts.{IsChosen}
use Rattle.flow_graph.specs.Liveness.{NodeAt}
use Rattle.thread_code.specs.Plans.{Plan, Thread, IsLogged, IsNodeOf, held_names_before, locks_held, set_before}
use Rattle.thread_code.specs.NodeCodeEffects.{Places}
use Rattle.thread_code.specs.Programs.{IsThreadCode}
use Rattle.code_runs.specs.CodeTraces.{Program}
use Rattle.recovered_threads.specs.RecordDescriptions.{Codes, CountsOn, NodePlace, the_core, the_entry}
use Rattle.flat_compile.specs.declared.resumes.LiveLocal.{LiveLocal}
use Rattle.flat_compile.specs.declared.resumes.Resume.{Resume}

-- ---- Where

-- before a node where a boundary stands by choice, or after a node's ECALL, where the thread goes on at the next node
pub data Spot : Type 0 where
  Before : (node : ℕ) → Spot
  After : (node next : ℕ) → Spot

-- the node in whose code it is
abbrev pub node_in : Spot → ℕ
node_in (Before node) = node
node_in (After node next) = node

-- the node that the thread goes on at
abbrev pub goes_on_at : Spot → ℕ
goes_on_at (Before node) = node
goes_on_at (After node next) = next

-- past the boundary before it, or at its entry
abbrev pub place_in : Spot → NodePlace
place_in (Before node) = the_core
place_in (After node next) = the_entry

abbrev pub place_at : (at_core : Bool) → NodePlace
place_at true = the_core
place_at false = the_entry

abbrev pub address_in : Places → Spot → ℕ
address_in c (Before node) = c.core node
address_in c (After node next) = c.after node

-- ---- What is known of a thread's locals

-- their colours: the number of each one's home, of its register among those of locals, or of its word in the frame
abbrev pub colours_in : Plan → Thread → List ℕ
colours_in p t = slice_index_or p.colours t.number []

-- what they refer to
abbrev pub refers_in : Plan → Thread → List (Option ℕ)
refers_in p t = slice_index_or (map (λ (text : f.Thread). text.refers) p.flat.threads) t.number []

-- those known not to be null before the node
abbrev pub knowns_before : Plan → Thread → (node : ℕ) → List ℕ
knowns_before p t node = slice_index_or (slice_index_or (map thread_knowns p.flat.threads) t.number []) (node - t.part.first) []

-- a reference that isn't null; a number that was compared with 0 may be among those known, and is none
abbrev pub is_known : (known : List ℕ) → LiveLocal → Bool
is_known known l = is_some l.refers && is_among known l.local

module _ (p : Plan) (t : Thread) where
  -- the thread may be resumed there
  pub data IsSpot : Spot → Type 0 where
    at_chosen : (node : ℕ) → IsNodeOf t node → IsChosen p.graph p.boundaries node → IsSpot (Before node)
    past_lock : (node : ℕ) (lock : LockName) (next : ℕ) (is : Node) → IsNodeOf t node → NodeAt p.graph node is → is.action ≡ Lock lock next →
        IsSpot (After node next)
    past_unlock : (node : ℕ) (lock : LockName) (next : ℕ) (is : Node) → IsNodeOf t node → NodeAt p.graph node is → is.action ≡ Unlock lock next →
        held_names_before p t next ≢ [] → IsSpot (After node next)

  -- ---- What is found

  -- the thread counts on the local there, and this is its colour
  pub record IsLiveLocal (node : ℕ) (place : NodePlace) (l : LiveLocal) : Type 0 where
    pub kind_is : slice_get t.kinds l.local ≡ Some l.kind
    pub refers_is : slice_get (refers_in p t) l.local ≡ Some l.refers
    pub known_is : l.known ≡ is_known (knowns_before p t node) l
    pub counted : CountsOn p t node place l.local
    pub coloured : slice_get (colours_in p t) l.local ≡ Some l.colour

  -- the node is a logged assignment of the local, of whose number nothing is known
  pub record IsAssignedLocal (node : ℕ) (l : LiveLocal) : Type 0 where
    pub logged : IsLogged p t node
    pub local_is : l.local ≡ logged.local
    pub kind_is : slice_get t.kinds l.local ≡ Some l.kind
    pub refers_is : slice_get (refers_in p t) l.local ≡ Some l.refers
    pub known_is : l.known ≡ false
    pub coloured : slice_get (colours_in p t) l.local ≡ Some l.colour

  -- the thread makes that assignment next
  abbrev pub IsAssignedAt : (node : ℕ) → NodePlace → LiveLocal → Type 0
  IsAssignedAt node the_entry l = ⊥
  IsAssignedAt node the_core l = IsAssignedLocal node l

  -- what recovery finds that lets the thread go on at the node: the names whose locks it holds, the homes of its live locals, and what it writes next
  pub record IsFound (r : Resume) : Type 0 where
    pub own : IsNodeOf t r.node
    pub held_is : r.held.items ≡ locks_held (set_before p t r.node)
    pub live : (l : LiveLocal) → Contains r.live.items l ↔ IsLiveLocal r.node (place_at r.at_core) l
    pub ascend : IsStrictlyIncreasing (map (λ (l : LiveLocal). l.colour) r.live.items)
    -- no node but a store writes an element
    pub pending_is : (is : Node) → NodeAt p.graph r.node is → r.pending ≡ is.writes
    pub assigned_is : (l : LiveLocal) → (r.assigned ≡ Some l) ↔ IsAssignedAt r.node (place_at r.at_core) l

  -- the thread is resumed at the entry's address, and goes on at its node
  pub record IsResumeOf (c : Places) (r : Resume) : Type 0 where
    pub spot : Spot
    pub is : IsSpot spot
    pub at : address_in c spot ≡ r.address
    pub goes_on : goes_on_at spot ≡ r.node
    pub stands : place_in spot ≡ place_at r.at_core
    pub found : IsFound r

  -- the entries are all places where the thread may be resumed, in their order, each with an address of its own
  pub record AreResumes (program : Program) (code : IsThreadCode p t program) (rs : List Resume) : Type 0 where
    pub addresses : map (λ (r : Resume). r.address) rs ≡ program.resumes
    pub apart : (a b : Spot) → IsSpot a → IsSpot b → address_in code.places a ≡ address_in code.places b → a ≡ b
    pub each : (k : ℕ) (r : Resume) → slice_get rs k ≡ Some r → IsResumeOf code.places r

-- ---- Of all threads

-- the list of that number, or none
abbrev pub resumes_at : List (Vec Resume Global) → (n : ℕ) → List Resume
resumes_at table n = slice_index_or (map (λ (rs : Vec Resume Global). rs.items) table) n []

pub record IsResumeTable (p : Plan) (codes : Codes p) (table : List (Vec Resume Global)) : Type 0 where
  pub count : length table ≡ length p.graph.threads
  pub each : (n : ℕ) (below : n < length p.graph.threads) →
      AreResumes p (codes.each n below).thread (codes.each n below).program (codes.each n below).is (resumes_at table n)

-- in the code of the plan's threads each boundary before a core has room of its own
abbrev pub AreSpaced : (p : Plan) → Codes p → Type 0
AreSpaced p codes = (n : ℕ) (below : n < length p.graph.threads) (node : ℕ) → IsNodeOf (codes.each n below).thread node →
    IsChosen p.graph p.boundaries node → (codes.each n below).is.places.entry node < (codes.each n below).is.places.core node

-- the addresses are where such code may be resumed
pub record AreMarksOf (p : Plan) (codes : Codes p) (marks : List (List ℕ)) : Type 0 where
  pub count : length marks ≡ length p.graph.threads
  pub each : (n : ℕ) (below : n < length p.graph.threads) → (codes.each n below).program.resumes ≡ slice_index_or marks n []
  pub spaced : AreSpaced p codes

pub record AreMarked (p : Plan) (marks : List (List ℕ)) : Type 0 where
  pub codes : Codes p
  pub are : AreMarksOf p codes marks
