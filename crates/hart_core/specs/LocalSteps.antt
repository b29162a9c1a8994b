-- Steps of a hart that touch nothing but its registers and its pc.
use Rattle.std.specs.Prelude.{ℕ, zero, suc, ◌-◌, ◌/◌, ◌%◌, List, slice_get, nat_le, ◌==◌, ◌&&◌, if◌then◌else◌, Option, Some, None}
use Rattle.rv64_isa.specs.declared.object.Slot.{Slot}
use Rattle.rv64_isa.specs.declared.object.Slot.TheVariants.{Row, NoRow}
use Rattle.rv64_isa.specs.Rows.{Effect, Continues, Loads, Stores, Cleans, Fences, Calls, row, written}
use Rattle.rv64_isa.specs.Programs.{code_of, code_start}
use Rattle.hart_core.specs.declared.local.LocalState.{LocalState}
use Rattle.hart_core.specs.declared.local.LocalWrite.{LocalWrite}

-- the code of one thread, and the address of its first word
pub record PlacedCode : Type 0 where
  pub slots : List Slot
  pub start : ℕ

abbrev pub placed_code : List (List Slot) → (thread : ℕ) → PlacedCode
placed_code program thread = record { slots = code_of program thread; start = code_start program thread }

-- what stands there at a pc; none where it has no word
abbrev pub fetched_in : PlacedCode → (pc : ℕ) → Option Slot
fetched_in code pc = if nat_le code.start pc && (pc % 4 == 0) then slice_get code.slots ((pc - code.start) / 4) else None

-- what an effect makes of registers and pc, where it is local: it touches neither memory nor the queue nor locks
abbrev pub continued : Effect → Option LocalState
continued (Continues registers pc) = Some (record { registers = registers; pc = pc })
continued (Loads address bytes signed register) = None
continued (Stores address bytes value) = None
continued (Cleans address) = None
continued Fences = None
continued Calls = None

-- what that which stands at the pc makes of them, where it is an instruction whose effect is local
abbrev pub executed_locally : Option Slot → LocalState → Option LocalState
executed_locally None s = None
executed_locally (Some (NoRow word)) s = None
executed_locally (Some (Row instr)) s = continued (row instr s.registers s.pc)

-- the next instruction, where it is local
abbrev pub local_step : PlacedCode → LocalState → Option LocalState
local_step code s = executed_locally (fetched_in code s.pc) s

-- a hart with these registers after what a local step writes
abbrev pub after_write : LocalWrite → (registers : List ℕ) → LocalState
after_write write registers = record { registers = written registers write.register write.value; pc = write.pc }

-- one more of them
abbrev pub then_locally : PlacedCode → Option LocalState → Option LocalState
then_locally code None = None
then_locally code (Some s) = local_step code s

-- so many instructions, where all of them are local
abbrev pub local_run : PlacedCode → LocalState → ℕ → Option LocalState
local_run code s zero = Some s
local_run code s (suc n) = then_locally code (local_run code s n)
