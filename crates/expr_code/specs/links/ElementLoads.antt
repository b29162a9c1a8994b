-- Loads of elements: an address in two parts, of which the first is in x31.
use Rattle.std.specs.Prelude.{◌≡◌, ℕ, ◌+◌, ◌*◌, ◌/◌, ◌^◌, ◌<◌, List, pos}
use Rattle.ido_ints.specs.declared.kinds.Kind.{Kind}
use Rattle.ido_ints.specs.declared.kinds.Kind.TheVariants.{Char, UnsignedChar, SignedChar, Short, UnsignedShort, Int, UnsignedInt, Long, UnsignedLong}
use Rattle.ido_ints.specs.TypedNumbers.{Typed}
use Rattle.rv64_isa.specs.declared.instr.LoadKind.{LoadKind}
use Rattle.rv64_isa.specs.declared.instr.LoadKind.TheVariants.{Lb, Lh, Lw, Ld, Lbu, Lhu}
use Rattle.rv64_isa.specs.Rows.{read}

-- the load that leaves an element of the kind in its register form
abbrev pub loaded_by : Kind → LoadKind
loaded_by Char = Lbu
loaded_by UnsignedChar = Lbu
loaded_by SignedChar = Lb
loaded_by Short = Lh
loaded_by UnsignedShort = Lhu
loaded_by Int = Lw
loaded_by UnsignedInt = Lw
loaded_by Long = Ld
loaded_by UnsignedLong = Ld

-- by how many places an index is shifted to count bytes
abbrev pub places_of : Kind → ℕ
places_of Char = 0
places_of UnsignedChar = 0
places_of SignedChar = 0
places_of Short = 1
places_of UnsignedShort = 1
places_of Int = 2
places_of UnsignedInt = 2
places_of Long = 3
places_of UnsignedLong = 3

-- the multiple of 4096 that is nearest to an address
abbrev pub upper_part : (address : ℕ) → ℕ
upper_part address = (address + 2048) / 4096 * 4096

-- x31 has the upper part, and so many bytes for each index
abbrev pub HasUpper : (address bytes : ℕ) → Typed → (y : List ℕ) → Type 0
HasUpper address bytes v y = (n : ℕ) → v.number ≡ pos n → n < 2 ^ 31 → read y 31 ≡ upper_part address + bytes * n
