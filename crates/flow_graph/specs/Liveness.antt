-- Which locals are live where, and the intervals of nodes that they take.
use Rattle.std.specs.Prelude.{◌≡◌, ◌≢◌, ◌⊎◌, ◌↔◌, ◌≤◌, ◌<◌, ℕ, List, length, slice_get, Contains, Some}
use Rattle.ido_base.specs.declared.place.Place.{Place}
use Rattle.ido_base.specs.declared.limits.TheConstants.{LOCAL_REGISTERS}
use Rattle.flow_graph.specs.declared.graph.Part.{Part}
use Rattle.flow_graph.specs.Nodes.{Node, Graph, successors}

-- the node of that number
abbrev pub NodeAt : Graph → (number : ℕ) → Node → Type 0
NodeAt g n x = slice_get g.nodes n ≡ Some x

-- ---- Liveness

-- a path from the node reaches one that reads the local, and no node before that one assigns it
pub data IsLive (g : Graph) (local : ℕ) : (node : ℕ) → Type 0 where
  is_read : {n : ℕ} (x : Node) → NodeAt g n x → Contains x.uses local → IsLive g local n
  is_read_later : {n m : ℕ} (x : Node) → NodeAt g n x → x.assigns ≢ Some local → Contains (successors x.action) m → IsLive g local m → IsLive g local n

-- no local is live where a thread begins: on every path it is assigned before it is read
abbrev pub AreAssignedFirst : Graph → Type 0
AreAssignedFirst g = (thread : ℕ) (part : Part) → slice_get g.threads thread ≡ Some part → (local : ℕ) → ¬ (IsLive g local part.first)

-- ---- Intervals

pub record IsAssigned (g : Graph) (local node : ℕ) : Type 0 where
  pub is : Node
  pub at : NodeAt g node is
  pub assigns : is.assigns ≡ Some local

-- the thread's local is live at the entry of its node, or the node assigns it
pub record Touches (g : Graph) (part : Part) (local node : ℕ) : Type 0 where
  pub from_first : part.first ≤ node
  pub below_end : node < part.end
  pub is : IsLive g local node ⊎ IsAssigned g local node

-- the local's interval goes from the least of these nodes to the greatest one: it holds each node from one of them to another
pub record Spans (g : Graph) (part : Part) (local node : ℕ) : Type 0 where
  pub low : ℕ
  pub high : ℕ
  pub from_low : low ≤ node
  pub to_high : node ≤ high
  pub at_low : Touches g part local low
  pub at_high : Touches g part local high

-- the intervals of so many locals of the thread hold the node
pub record AreSpanning (g : Graph) (part : Part) (node wanted : ℕ) : Type 0 where
  pub locals : List ℕ
  pub each : (local : ℕ) → Contains locals local ↔ ((local < part.locals) × Spans g part local node)
  pub once : (i j local : ℕ) → slice_get locals i ≡ Some local → slice_get locals j ≡ Some local → i ≡ j
  pub count : length locals ≡ wanted

-- ---- Registers for locals

-- no node is held by more intervals than that
abbrev pub HasRoom : Graph → Type 0
HasRoom g = (part : Part) (node wanted : ℕ) → Contains g.threads part → AreSpanning g part node wanted → wanted ≤ LOCAL_REGISTERS

-- the first node that is has this place, and so many hold it
pub record IsFirstCrowded (g : Graph) (place : Place) (wanted : ℕ) : Type 0 where
  pub part : Part
  pub node : ℕ
  pub is : Node
  pub own : Contains g.threads part
  pub at : NodeAt g node is
  pub there : place ≡ is.place
  pub spanning : AreSpanning g part node wanted
  pub crowded : LOCAL_REGISTERS < wanted
  pub first : (other : Part) (earlier fewer : ℕ) → earlier < node → Contains g.threads other → AreSpanning g other earlier fewer → fewer ≤ LOCAL_REGISTERS

-- of each thread the registers of its locals, which are counted from 0
abbrev pub Colouring : Type 0
Colouring = List (List ℕ)

-- two locals of a thread have one register, and their intervals share the node
pub record Clash (g : Graph) (colours : Colouring) (node a b : ℕ) : Type 0 where
  pub thread : ℕ
  pub part : Part
  pub own : slice_get g.threads thread ≡ Some part
  pub registers : List ℕ
  pub register : ℕ
  pub of_thread : slice_get colours thread ≡ Some registers
  pub of_first : slice_get registers a ≡ Some register
  pub of_second : slice_get registers b ≡ Some register
  pub different : a < b
  pub first : Spans g part a node
  pub second : Spans g part b node

abbrev pub HasNoClash : Graph → Colouring → Type 0
HasNoClash g colours = (node a b : ℕ) → ¬ (Clash g colours node a b)

-- the least node at which locals clash, there the least one that has a greater one to clash with, and the least one of these
pub record IsFirstClash (g : Graph) (colours : Colouring) (node a b : ℕ) : Type 0 where
  pub is : Clash g colours node a b
  pub first : (other c d : ℕ) → Clash g colours other c d → node ≤ other
  pub least : (c d : ℕ) → Clash g colours node c d → a ≤ c
  pub second : (d : ℕ) → Clash g colours node a d → b ≤ d

-- each local of each thread has one of the registers
pub record AreRegisters (g : Graph) (colours : Colouring) : Type 0 where
  pub threads : length colours ≡ length g.threads
  pub locals : (thread : ℕ) (part : Part) (own : List ℕ) → slice_get g.threads thread ≡ Some part → slice_get colours thread ≡ Some own →
      length own ≡ part.locals
  pub exist : (thread register : ℕ) (own : List ℕ) → slice_get colours thread ≡ Some own → Contains own register → register < LOCAL_REGISTERS
