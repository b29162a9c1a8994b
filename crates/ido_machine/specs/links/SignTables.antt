-- Tables of code words and their signs.
use Rattle.std.specs.Prelude.{◌≡◌, ℕ, ◌-◌, ◌/◌, ◌%◌, ◌<◌, List, [], length, map, slice_get, slice_index_or, Option, Some, None}
use Rattle.std.specs.Prelude.{Bool, true, false, not, nat_le, ◌==◌, ◌&&◌, ◌||◌, if◌then◌else◌}
use Rattle.std.specs.List.{list_any}
use Rattle.rv64_isa.specs.declared.instr.Instr.TheVariants.{Fence, Store}
use Rattle.rv64_isa.specs.declared.object.Slot.{Slot}
use Rattle.rv64_isa.specs.declared.object.Slot.TheVariants.{NoRow, Row}
use Rattle.rv64_isa.specs.Programs.{slot_of, code_of, code_start}
use Rattle.hart_core.specs.LocalSteps.{PlacedCode}
use Rattle.ido_machine.specs.declared.signs.Entry.{Entry}
use Rattle.ido_machine.specs.declared.signs.Sign.{Sign}
use Rattle.ido_machine.specs.declared.signs.SignTable.{SignTable}

-- the address is that of the k-th code word from the start on
abbrev pub is_word_at : (start k address : ℕ) → Bool
is_word_at start k address = nat_le start address && (address % 4 == 0) && ((address - start) / 4 == k)

-- a fence stands there
abbrev pub is_fence_slot : Slot → Bool
is_fence_slot slot = elim slot [
  | Row Fence ↦ true
  | _ ↦ false
]

-- what stands there stores
abbrev pub is_store_slot : Slot → Bool
is_store_slot slot = elim slot [
  | Row (Store kind rs2 rs1 offset) ↦ true
  | _ ↦ false
]

-- the sign of what stands there, where it isn't a mark
abbrev pub plain_sign : Slot → Sign
plain_sign slot = record {
  mark = false;
  fence = is_fence_slot slot;
  store = is_store_slot slot;
  plain = not (is_fence_slot slot || is_store_slot slot);
}

-- a word that isn't a mark
abbrev pub plain_entry : (word : ℕ) → Entry
plain_entry word = record { slot = slot_of word; sign = plain_sign (slot_of word) }

-- nothing is to be accounted for
abbrev pub is_plain : Sign → Bool
is_plain sign = not (sign.mark || sign.fence || sign.store)

abbrev pub no_sign : Sign
no_sign = record { mark = false; fence = false; store = false; plain = true }

abbrev pub no_entry : Entry
no_entry = record { slot = NoRow 0; sign = no_sign }

-- what the k-th word decodes to, and its sign
abbrev pub slot_in : List Entry → (k : ℕ) → Slot
slot_in entries k = (slice_index_or entries k no_entry).slot

abbrev pub sign_in : List Entry → (k : ℕ) → Sign
sign_in entries k = (slice_index_or entries k no_entry).sign

-- the word at an address; none where there is none
abbrev pub entry_at : SignTable → (pc : ℕ) → Option Entry
entry_at table pc = if nat_le table.start pc && (pc % 4 == 0) then slice_get table.entries.items ((pc - table.start) / 4) else None

-- what it decodes to
abbrev pub slot_at : Option Entry → Option Slot
slot_at None = None
slot_at (Some entry) = Some entry.slot

-- the sign of a word, where there is one
abbrev pub sign_of : Option Entry → Sign
sign_of None = no_sign
sign_of (Some entry) = entry.sign

-- the sign of the word at an address
abbrev pub sign_at : SignTable → (pc : ℕ) → Sign
sign_at table pc = sign_of (entry_at table pc)

-- the code of a table
abbrev pub slots_in : List Entry → List Slot
slots_in entries = map (λ entry. entry.slot) entries

abbrev pub placed_in : SignTable → PlacedCode
placed_in table = record { slots = slots_in table.entries.items; start = table.start }

-- the table of this code, whose words at these addresses are marks
pub record IsTableOf (table : SignTable) (start : ℕ) (code : List Slot) (addresses : List ℕ) : Type 0 where
  pub starts : table.start ≡ start
  pub slots : slots_in table.entries.items ≡ code
  pub marks : (k : ℕ) → k < length code → (sign_in table.entries.items k).mark ≡ list_any (is_word_at start k) addresses
  pub fences : (k : ℕ) (slot : Slot) → slice_get code k ≡ Some slot → (sign_in table.entries.items k).fence ≡ is_fence_slot slot
  pub stores : (k : ℕ) (slot : Slot) → slice_get code k ≡ Some slot → (sign_in table.entries.items k).store ≡ is_store_slot slot
  pub plains : (k : ℕ) → (sign_in table.entries.items k).plain ≡ is_plain (sign_in table.entries.items k)

-- a table for each thread of the program, with its marks
pub record AreTables (tables : List SignTable) (program : List (List Slot)) (marks : List (List ℕ)) : Type 0 where
  pub count : length tables ≡ length program
  pub each : (thread : ℕ) (table : SignTable) → slice_get tables thread ≡ Some table →
      IsTableOf table (code_start program thread) (code_of program thread) (slice_index_or marks thread [])
