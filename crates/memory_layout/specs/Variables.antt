-- Shapes of variables that have a place, where they stand, and the bytes that they begin with.
use Rattle.std.specs.Prelude.{◌≡◌, ◌⊎◌, ℕ, zero, suc, ◌+◌, ◌-◌, ◌<◌, ◌≤◌, ◌^◌, List, [], ◌∷◌, length, Bool, ◌==◌, ◌||◌, slice_get, slice_index, Some, ℤ, pos}
use Rattle.std.specs.Prelude.{unsigned_abs}
use Rattle.std.specs.Int.{int_rem_euclid}
use Rattle.std.specs.List.{list_all}
use Rattle.ido_base.specs.declared.location.Shape.{Shape}
use Rattle.ido_base.specs.declared.limits.TheConstants.{MOST_VARIABLE_BYTES}
use Rattle.ido_base.specs.Words.{part}
use Rattle.ido_base.specs.Layout.{variables_base, variable_at, end_from, aligned_up}

-- an element has 1, 2, 4 or 8 bytes
abbrev pub is_size : (bytes : ℕ) → Bool
is_size bytes = bytes == 1 || bytes == 2 || bytes == 4 || bytes == 8

-- and so has each variable's
abbrev pub are_sizes : List Shape → Bool
are_sizes shapes = list_all (λ shape. is_size shape.bytes) shapes

-- how many elements a variable has
abbrev pub elements_of : List Shape → (variable : ℕ) → ℕ
elements_of [] variable = 0
elements_of (shape ∷ shapes) zero = shape.length
elements_of (shape ∷ shapes) (suc variable) = elements_of shapes variable

-- there is room for all variables
abbrev pub HaveRoom : List Shape → Type 0
HaveRoom shapes = end_from 0 shapes ≤ MOST_VARIABLE_BYTES

-- of each variable the address of its first element
pub record AreAddresses (shapes : List Shape) (addresses : List ℕ) : Type 0 where
  pub count : length addresses ≡ length shapes
  pub each : (variable : ℕ) → variable < length shapes → slice_index addresses variable ≡ variable_at shapes variable 0

-- ---- What they begin with: of each variable the numbers of its elements

-- each variable has a number for each element
abbrev pub AreCounted : List Shape → (numbers : List (List ℤ)) → Type 0
AreCounted [] [] = Unit {0}
AreCounted [] (own ∷ numbers) = ⊥
AreCounted (shape ∷ shapes) [] = ⊥
AreCounted (shape ∷ shapes) (own ∷ numbers) = (length own ≡ shape.length) × AreCounted shapes numbers

-- a number's 64 bits in two's complement
abbrev pub bits_of : ℤ → ℕ
bits_of number = unsigned_abs (int_rem_euclid number (pos (2 ^ 64)))

-- how far an element lies from where the first variable begins
abbrev pub offset_of : List Shape → (variable element : ℕ) → ℕ
offset_of shapes variable element = variable_at shapes variable element - variables_base

-- a byte of an element lies so far from where the first variable begins, and it has this value at the start: the numbers are in two's
-- complement, the lowest byte first
pub record IsElementByte (shapes : List Shape) (numbers : List (List ℤ)) (offset value : ℕ) : Type 0 where
  pub variable : ℕ
  pub shape : Shape
  pub shaped : slice_get shapes variable ≡ Some shape
  pub own : List ℤ
  pub there : slice_get numbers variable ≡ Some own
  pub element : ℕ
  pub number : ℤ
  pub begins : slice_get own element ≡ Some number
  pub byte : ℕ
  pub within : byte < shape.bytes
  pub offset_is : offset ≡ offset_of shapes variable element + byte
  pub value_is : value ≡ part (bits_of number) byte 1

-- each byte of each element is at its place, and all others are 0, up to the next multiple of 8
-- Numbers stand there in two's complement (C11 6.2.6.2).
pub record AreInitial (shapes : List Shape) (numbers : List (List ℤ)) (bytes : List ℕ) : Type 0 where
  pub size : length bytes ≡ aligned_up (end_from 0 shapes) 8
  pub elements : (offset value : ℕ) → IsElementByte shapes numbers offset value → slice_index bytes offset ≡ value
  pub others : (offset : ℕ) → IsElementByte shapes numbers offset (slice_index bytes offset) ⊎ (slice_index bytes offset ≡ 0)
