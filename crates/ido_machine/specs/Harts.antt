-- What the harts in the code represent.
use Rattle.std.specs.Prelude.{◌≡◌, ℕ, List, [], length, slice_get, Some, replicate}
use Rattle.ido_base.specs.Words.{Word}
use Rattle.line_memory.specs.links.Queues.{RepresentsQueue}
use Rattle.rv64_isa.specs.declared.object.Slot.{Slot}
use Rattle.rv64_isa.specs.Programs.{code_start}
use Rattle.machine_model.specs.Machine.{Hart as HartModel}
use Rattle.hart_core.specs.declared.hart.Hart.{Hart}
use Rattle.hart_core.specs.declared.local.LocalState.{LocalState}
use Rattle.hart_core.specs.links.Harts.{RepresentsHart}

-- as many harts, and each represents the one of its number
pub record HartsStand (harts : List Hart) (models : List HartModel) (words : List Word) : Type 0 where
  pub count : length models ≡ length harts
  pub each : (number : ℕ) (it : Hart) (model : HartModel) → slice_get harts number ≡ Some it → slice_get models number ≡ Some model →
      RepresentsHart it model words

-- a hart that has done nothing yet
pub record IsFresh (program : List (List Slot)) (thread : ℕ) (it : Hart) : Type 0 where
  pub registers : it.registers ≡ replicate 32 0
  pub pc : it.pc ≡ code_start program thread
  pub queue : (words : List Word) → RepresentsQueue it.queue [] words

-- harts that have done nothing yet, `count` of them
pub record AreFresh (program : List (List Slot)) (harts : List Hart) (count : ℕ) : Type 0 where
  pub size : length harts ≡ count
  pub each : (thread : ℕ) (it : Hart) → slice_get harts thread ≡ Some it → IsFresh program thread it

-- the hart is at the first word of its code again, with what it had queued
pub record IsAnew (program : List (List Slot)) (thread : ℕ) (was it : Hart) : Type 0 where
  pub registers : it.registers ≡ replicate 32 0
  pub pc : it.pc ≡ code_start program thread
  pub queue : it.queue ≡ was.queue

-- each of as many harts is
pub record AreAnew (program : List (List Slot)) (old new : List Hart) : Type 0 where
  pub size : length new ≡ length old
  pub each : (thread : ℕ) (was it : Hart) → slice_get old thread ≡ Some was → slice_get new thread ≡ Some it → IsAnew program thread was it

-- what local steps change of a hart
abbrev pub local_state_of : HartModel → LocalState
local_state_of model = record { registers = model.registers; pc = model.pc }

abbrev pub with_local_state : HartModel → LocalState → HartModel
with_local_state model s = record model { registers = s.registers; pc = s.pc }
