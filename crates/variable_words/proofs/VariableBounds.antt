-- Where the variables of a program begin and end, one after another.
use Rattle.std.proofs.Common.{◌≡◌, ℕ, zero, suc, ◌+◌, ◌*◌, ◌<◌, ◌≤◌, List, [], ◌∷◌, length, map, take, get_or, sym, ◌∙◌, ap, arith, Some, refl, true}
use Rattle.std.specs.Prelude.{slice_get}
use Rattle.std.specs.List.{AllByRecursion}
use Rattle.std.proofs.lemmas.List.{get_or-map, length-map}
use Rattle.ido_ints.specs.declared.kinds.Kind.{Kind}
use Rattle.ido_ints.specs.declared.kinds.Kind.TheVariants.{Char, UnsignedChar, SignedChar, Short, UnsignedShort, Int, UnsignedInt, Long, UnsignedLong}
use Rattle.ido_ints.specs.Kinds.{bytes_of}
use Rattle.ido_base.specs.declared.location.Shape.{Shape}
use Rattle.ido_base.specs.Layout.{aligned_up, start_from, end_from, variable_at, variables_base}
use Rattle.c_tree.specs.declared.program.Variable as variable
use Rattle.c_tree.specs.Programs.{Mutex, Variable, variable_of}
use Rattle.c_tree.specs.WellFormed.{shape_of, initial_numbers, elements_in, AreShared, IsVariable}
use Rattle.memory_layout.specs.Variables.{AreCounted, is_size, are_sizes}
use Rattle.variable_words.specs.VariablesInWords.{ArePlaced}

-- ---- Sizes

-- what holds of 1, 2, 4 and 8 holds of each size
pub by_size : (P : ℕ → Type 0) → P 1 → P 2 → P 4 → P 8 → (k : Kind) → P (bytes_of k)
by_size P one two four eight Char = one
by_size P one two four eight UnsignedChar = one
by_size P one two four eight SignedChar = one
by_size P one two four eight Short = two
by_size P one two four eight UnsignedShort = two
by_size P one two four eight Int = four
by_size P one two four eight UnsignedInt = four
by_size P one two four eight Long = eight
by_size P one two four eight UnsignedLong = eight

pub some_bytes : (k : Kind) → 0 < bytes_of k
some_bytes k = by_size (λ b. 0 < b) (omega arith) (omega arith) (omega arith) (omega arith) k

pub up_from : (k : Kind) (n : ℕ) → n ≤ aligned_up n (bytes_of k)
up_from k n = by_size (λ b. n ≤ aligned_up n b) (omega arith) (omega arith) (omega arith) (omega arith) k

pub have_sizes : (vs : List Variable) → are_sizes (map shape_of vs) ≡ true
have_sizes [] = refl
have_sizes (v ∷ vs) = rw (by_size (λ b. is_size b ≡ true) refl refl refl refl v.kind) (have_sizes vs)

-- ---- Ends

abbrev pub shapes : List Variable → List Shape
shapes vs = map shape_of vs

-- where a variable ends, where those before it end at n
abbrev pub after : (n : ℕ) → Variable → ℕ
after n v = aligned_up n (bytes_of v.kind) + bytes_of v.kind * elements_in v.length

pub from_after : (n : ℕ) (v : Variable) → n ≤ after n v
from_after n v = omega (arith, up_from v.kind n)

pub end_grows : (n : ℕ) (vs : List Variable) → n ≤ end_from n (shapes vs)
end_grows n [] = omega arith
end_grows n (v ∷ vs) = omega (arith, from_after n v, end_grows (after n v) vs)

-- ---- Starts

pub start_is : (n : ℕ) (vs : List Variable) (v : ℕ) (is : Variable) → slice_get vs v ≡ Some is →
    start_from n (shapes vs) v ≡ aligned_up (end_from n (shapes (take v vs))) (bytes_of is.kind)
start_is n [] v is h = cc
start_is n (x ∷ vs) zero is h = let e : x ≡ is = cc in ap (λ (y : Variable). aligned_up n (bytes_of y.kind)) e
start_is n (x ∷ vs) (suc v) is h = start_is (after n x) vs v is h

pub address_is : (vs : List Variable) (v e : ℕ) (is : Variable) → slice_get vs v ≡ Some is →
    variable_at (shapes vs) v e ≡ variables_base + start_from 0 (shapes vs) v + bytes_of is.kind * e
address_is [] v e is h = cc
address_is (x ∷ vs) zero e is h = let s : x ≡ is = cc in ap (λ (y : Variable). variables_base + aligned_up 0 (bytes_of x.kind) + bytes_of y.kind * e) s
address_is (x ∷ vs) (suc v) e is h = let more = address_is vs v e is h in omega (arith, more)

pub starts_from : (n : ℕ) (vs : List Variable) (v : ℕ) (is : Variable) → slice_get vs v ≡ Some is → n ≤ start_from n (shapes vs) v
starts_from n vs v is h =
    let a = start_is n vs v is h in
    omega (arith, a, up_from is.kind (end_from n (shapes (take v vs))), end_grows n (take v vs))

-- ---- What well-formedness gives

counted : (mutexes : List Mutex) (vs : List Variable) → AllByRecursion (IsVariable mutexes) vs → AreCounted (map shape_of vs) (map initial_numbers vs)
counted mutexes [] h = tt
counted mutexes (v ∷ vs) h = (h.0.count, counted mutexes vs h.1)

pub shared_placed : (mutexes : List Mutex) (threads : ℕ) (vs : List Variable) → AreShared mutexes threads vs → ArePlaced vs
shared_placed mutexes threads vs h = record { room = h.bytes; counted = counted mutexes vs h.variables }

-- ---- Variables of the code

pub length-variables : (xs : List variable.Variable) → length (map variable_of xs) ≡ length xs
length-variables xs = length-map xs variable_of

pub length-shapes : (xs : List variable.Variable) → length (shapes (map variable_of xs)) ≡ length xs
length-shapes xs = length-map (map variable_of xs) shape_of ∙ length-variables xs

pub variable_at_index : (xs : List variable.Variable) (i : ℕ) (x : variable.Variable) → i < length xs → x ≡ get_or xs i x →
    variable_of x ≡ get_or (map variable_of xs) i (variable_of x)
variable_at_index xs i x l is = ap variable_of is ∙ sym (get_or-map variable_of xs i x (variable_of x) l)
