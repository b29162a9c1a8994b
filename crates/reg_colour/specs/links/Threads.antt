-- Registers of a thread's locals, and of those of the first threads.
use Rattle.std.specs.Prelude.{◌≡◌, ◌⊎◌, ◌<◌, ◌≤◌, ℕ, List, length, slice_get, Contains, Option, Some, None, map, Vec}
use Rattle.std.specs.Global.{Global}
use Rattle.ido_base.specs.declared.limits.TheConstants.{LOCAL_REGISTERS}
use Rattle.flow_graph.specs.declared.graph.Part.{Part}
use Rattle.flow_graph.specs.Nodes.{Graph}
use Rattle.flow_graph.specs.Liveness.{Spans, AreSpanning, Colouring}
use Rattle.reg_colour.specs.declared.scan.Crowd.{Crowd}
use Rattle.reg_colour.specs.declared.scan.Outcome.{Outcome}
use Rattle.reg_colour.specs.declared.scan.Outcome.TheVariants.{Coloured, Crowded}

-- registers for the thread's locals
pub record IsColoured (g : Graph) (part : Part) (given : List ℕ) : Type 0 where
  pub count : length given ≡ part.locals
  pub exist : (register : ℕ) → Contains given register → register < LOCAL_REGISTERS
  pub apart : (node a b register : ℕ) → slice_get given a ≡ Some register → slice_get given b ≡ Some register → a < b → Spans g part a node →
      Spans g part b node → ⊥
  pub room : (node wanted : ℕ) → AreSpanning g part node wanted → wanted ≤ LOCAL_REGISTERS

-- the thread's first node that too many intervals hold
pub record IsCrowdOf (g : Graph) (part : Part) (crowd : Crowd) : Type 0 where
  pub spanning : AreSpanning g part crowd.node crowd.wanted
  pub crowded : LOCAL_REGISTERS < crowd.wanted
  pub first : (earlier fewer : ℕ) → earlier < crowd.node → AreSpanning g part earlier fewer → fewer ≤ LOCAL_REGISTERS

abbrev pub IsThread : Graph → Part → Outcome → Type 0
IsThread g part (Coloured given) = IsColoured g part given.items
IsThread g part (Crowded crowd) = IsCrowdOf g part crowd

-- ---- The first threads

pub record AreColoured (g : Graph) (threads : ℕ) (given : Colouring) : Type 0 where
  pub count : length given ≡ threads
  pub each : (thread : ℕ) (part : Part) (own : List ℕ) → slice_get g.threads thread ≡ Some part → slice_get given thread ≡ Some own → IsColoured g part own

-- none of the first threads has a crowded node before this one
abbrev pub HaveRoomBefore : Graph → (threads node : ℕ) → Type 0
HaveRoomBefore g threads node = (thread : ℕ) (other : Part) (earlier fewer : ℕ) → thread < threads → slice_get g.threads thread ≡ Some other →
    earlier < node → AreSpanning g other earlier fewer → fewer ≤ LOCAL_REGISTERS

-- the crowd is one of these threads' and at the first crowded node
pub record IsLeastCrowd (g : Graph) (threads : ℕ) (crowd : Crowd) : Type 0 where
  pub part : Part
  pub own : Contains g.threads part
  pub spanning : AreSpanning g part crowd.node crowd.wanted
  pub crowded : LOCAL_REGISTERS < crowd.wanted
  pub first : HaveRoomBefore g threads crowd.node

-- where a crowd was found, the registers that were given count for nothing
abbrev pub ColouredTo : Graph → (threads : ℕ) → Colouring → Option Crowd → Type 0
ColouredTo g threads given None = AreColoured g threads given
ColouredTo g threads given (Some crowd) = IsLeastCrowd g threads crowd

-- of two crowds the one at the earlier node
abbrev pub IsEarlier : Option Crowd → Crowd → Crowd → Type 0
IsEarlier None crowd x = x ≡ crowd
IsEarlier (Some found) crowd x = ((x ≡ found) × (found.node ≤ crowd.node)) ⊎ ((x ≡ crowd) × (crowd.node < found.node))

abbrev pub lists_of : List (Vec ℕ Global) → Colouring
lists_of xs = map (λ (v : Vec ℕ Global). v.items) xs
