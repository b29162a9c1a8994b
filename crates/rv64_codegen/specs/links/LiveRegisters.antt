-- Registers that are live at a node's entry.
use Rattle.std.specs.Prelude.{◌≡◌, ◌⊎◌, ◌↔◌, ℕ, ◌+◌, ◌-◌, ◌<◌, ◌≤◌, List, [], ◌∷◌, ◌++◌, length, slice_get, slice_index, Contains, Some, Bool, true, false}
use Rattle.std.specs.Prelude.{IsTrue, Vec, if◌then◌else◌}
use Rattle.std.specs.Global.{Global}
use Rattle.std.specs.List.{list_all}
use Rattle.ido_base.specs.declared.limits.TheConstants.{LOCAL_REGISTERS}
use Rattle.memory_layout.specs.declared.roles.TheConstants.{LOCALS}
use Rattle.memory_layout.specs.Roles.{is_kept, pending_address, pending_value}
use Rattle.flow_graph.specs.Nodes.{Action, Eval, Store, Test, Lock, Unlock, End, Graph}
use Rattle.flow_graph.specs.LocalSets.{HasAt}
use Rattle.flow_graph.specs.IdempotentCuts.{IsStoreNode}
use Rattle.expr_code.specs.declared.home.Home.{Home}
use Rattle.expr_code.specs.declared.home.Home.TheVariants.{InRegister}

-- a local that is live there has the home
pub record HasLive (homes : List Home) (sets : List (List ℕ)) (node : ℕ) (home : Home) : Type 0 where
  pub local : ℕ
  pub has : slice_get homes local ≡ Some home
  pub live : HasAt sets node local

-- the register is one of the first registers of locals, and a live local stands in it
pub record IsLiveAmong (homes : List Home) (sets : List (List ℕ)) (node count register : ℕ) : Type 0 where
  pub number : ℕ
  pub below : number < count
  pub is : slice_index LOCALS number ≡ register
  pub live : HasLive homes sets node (InRegister register)

-- the registers found are those of live locals, among the first registers of locals
pub record AreLiveLocals (homes : List Home) (sets : List (List ℕ)) (node count : ℕ) (found : List ℕ) : Type 0 where
  pub few : length found ≤ count
  pub kept : IsTrue (list_all is_kept found)
  pub each : (register : ℕ) → Contains found register ↔ IsLiveAmong homes sets node count register

abbrev pub is_store : Action → Bool
is_store (Eval target value next) = false
is_store (Store variable kind next) = true
is_store (Test condition holds fails) = false
is_store (Lock lock next) = false
is_store (Unlock lock next) = false
is_store End = false

-- before a store the registers of what it stores are there too
abbrev pub AreWithPending : (found : List ℕ) → (is_store : Bool) → (all : List ℕ) → Type 0
AreWithPending found is_store all = all ≡ (if is_store then found ++ (pending_address ∷ pending_value ∷ []) else found)

-- a live local's register, or one of what is stored
abbrev pub IsLiveRegister : Graph → (homes : List Home) → (sets : List (List ℕ)) → (node register : ℕ) → Type 0
IsLiveRegister g homes sets node register =
    IsLiveAmong homes sets node LOCAL_REGISTERS register ⊎ (IsStoreNode g node × ((register ≡ pending_address) ⊎ (register ≡ pending_value)))

pub record AreLiveRegisters (g : Graph) (homes : List Home) (sets : List (List ℕ)) (node : ℕ) (found : List ℕ) : Type 0 where
  pub few : length found ≤ 20
  pub kept : IsTrue (list_all is_kept found)
  pub each : (register : ℕ) → Contains found register ↔ IsLiveRegister g homes sets node register

-- the live registers of each node, from the first on
pub record AreLists (g : Graph) (homes : List Home) (sets : List (List ℕ)) (first to : ℕ) (lists : List (Vec ℕ Global)) : Type 0 where
  pub count : length lists ≡ to - first
  pub each : (i : ℕ) (list : Vec ℕ Global) → slice_get lists i ≡ Some list → AreLiveRegisters g homes sets (first + i) list.items
