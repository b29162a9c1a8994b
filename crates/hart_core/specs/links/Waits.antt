-- Steps that wait for a lock.
use Rattle.std.specs.Prelude.{ℕ, List, slice_get, Option, Some, None, Bool, true, false, ◌==◌, ◌&&◌}
use Rattle.rv64_isa.specs.declared.instr.Instr.TheVariants.{Ecall}
use Rattle.rv64_isa.specs.declared.object.Slot.{Slot}
use Rattle.rv64_isa.specs.declared.object.Slot.TheVariants.{Row}
use Rattle.rv64_isa.specs.Rows.{read}
use Rattle.rv64_isa.specs.Programs.{fetched}

-- the lock exists and has a holder
abbrev pub is_held : Option (Option ℕ) → Bool
is_held None = false
is_held (Some None) = false
is_held (Some (Some holder)) = true

-- the call of this number asks for a lock that has a holder
abbrev pub asks_held : List (Option ℕ) → (number lock : ℕ) → Bool
asks_held holders number lock = (number == 1) && is_held (slice_get holders lock)

-- what stands there is a call that does, by the registers
abbrev pub waits_at : List (Option ℕ) → (registers : List ℕ) → Option Slot → Bool
waits_at holders registers slot = elim slot [
  | Some (Row Ecall) ↦ asks_held holders (read registers 17) (read registers 10)
  | _ ↦ false
]

-- a step of hart h, which executes instructions, would wait
abbrev pub would_wait : List (List Slot) → (h : ℕ) → (registers : List ℕ) → (pc : ℕ) → List (Option ℕ) → Bool
would_wait program h registers pc holders = waits_at holders registers (fetched program h pc)
