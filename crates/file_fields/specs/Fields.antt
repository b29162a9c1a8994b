-- Fields read in the order of the bytes, with the first fault and its place. `total` is how many bytes there are in all.
use Rattle.std.specs.Prelude.{ℕ, zero, suc, ◌-◌, List, [], ◌∷◌, length, take, drop, Result, Ok}
use Rattle.std.specs.Prelude.{Err, Bool, nat_lt, nat_le, nat_eq, ◌==◌, ◌&&◌, if◌then◌else◌}
use Rattle.std.specs.Cmp.Lexicographic.{pointwise}
use Rattle.std.specs.Int.{w32, w64, from_le_bytes}

pub data Fault : Type 0 where
  -- the bytes begin otherwise than those of an image
  Magic : Fault
  -- another version stands at byte 8
  Version : Fault
  -- a field isn't whole; the place is where the bytes end
  Cut : (place : ℕ) → Fault
  -- the field there is none that its format allows
  Field : (place : ℕ) → Fault
  -- the first byte too many
  Rest : (place : ℕ) → Fault

infixl 10 ◌>>=◌
abbrev pub ◌>>=◌ : {A B : Type 0} → Result A Fault → (A → Result B Fault) → Result B Fault
(Ok x) >>= f = f x
(Err e) >>= f = Err e

-- a field is read as a value and the bytes after it
abbrev pub Reads : Type 0 → Type 0
Reads A = Result (A × List ℕ) Fault

-- ---- Bytes, numbers and words

abbrev pub bytes_at : (total count : ℕ) → List ℕ → Reads (List ℕ)
bytes_at total count bytes = if nat_lt (length bytes) count then Err (Cut total) else Ok (take count bytes, drop count bytes)

unfoldable pub number_at : (total : ℕ) → List ℕ → Reads ℕ
number_at total bytes = do
  field ← bytes_at total 4 bytes
  Ok (from_le_bytes w32 field.0, field.1)

unfoldable pub word_at : (total : ℕ) → List ℕ → Reads ℕ
word_at total bytes = do
  field ← bytes_at total 8 bytes
  Ok (from_le_bytes w64 field.0, field.1)

-- ---- Limits

-- a field that stands where these bytes begin is good, or else it is the fault
abbrev pub kept : {A : Type 0} → (total : ℕ) → (good : Bool) → List ℕ → A → Result A Fault
kept total good bytes x = if good then Ok x else Err (Field (total - length bytes))

unfoldable pub number_within : (total least most : ℕ) → List ℕ → Reads ℕ
number_within total least most bytes = do
  n ← number_at total bytes
  kept total (nat_le least n.0 && nat_le n.0 most) bytes n

-- ---- So many, and the two ends of a file

unfoldable pub repeated : {A : Type 0} → (List ℕ → Reads A) → (count : ℕ) → List ℕ → Reads (List A)
repeated read zero bytes = Ok ([], bytes)
repeated read (suc count) bytes = do
  first ← read bytes
  others ← repeated read count first.1
  Ok (first.0 ∷ others.0, others.1)

-- what stands first, and the bytes after it
unfoldable pub magic_at : (total : ℕ) → (magic : List ℕ) → List ℕ → Result (List ℕ) Fault
magic_at total magic bytes = do
  field ← bytes_at total (length magic) bytes
  if pointwise nat_eq field.0 magic then Ok field.1 else Err Magic

unfoldable pub version_at : (total version : ℕ) → List ℕ → Result (List ℕ) Fault
version_at total version bytes = do
  n ← number_at total bytes
  if n.0 == version then Ok n.1 else Err Version

-- nothing stands after what was read
abbrev pub ended : {A : Type 0} → (total : ℕ) → List ℕ → A → Result A Fault
ended total rest x = if length rest == 0 then Ok x else Err (Rest (total - length rest))
