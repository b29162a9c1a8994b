-- The shapes of variables, and the numbers that they begin with.
use Rattle.std.proofs.Common.{◌≡◌, refl, ℕ, ◌<◌, List, [], ◌∷◌, length, map, get_or, true, IsTrue, sym, ◌∙◌, ap, arith}
use Rattle.std.proofs.lemmas.List.{get_or-map, length-map}
use Rattle.ido_ints.specs.declared.kinds.Kind.{Kind}
use Rattle.ido_ints.specs.declared.kinds.Kind.TheVariants.{Char, UnsignedChar, SignedChar, Short, UnsignedShort, Int, UnsignedInt, Long, UnsignedLong}
use Rattle.ido_ints.specs.Kinds.{bytes_of}
use Rattle.c_tree.specs.declared.program.Variable as code
use Rattle.c_tree.specs.Programs as p
use Rattle.c_tree.specs.Programs.{variable_of}
use Rattle.c_tree.specs.WellFormed.{shape_of, initial_numbers}
use Rattle.memory_layout.specs.Variables.{is_size, are_sizes}
use Rattle.memory_layout.proofs.Public as ends
use Rattle.memory_layout.proofs.Public.{AreSizes}

pub size_test : (k : Kind) → is_size (bytes_of k) ≡ true
size_test Char = refl
size_test UnsignedChar = refl
size_test SignedChar = refl
size_test Short = refl
size_test UnsignedShort = refl
size_test Int = refl
size_test UnsignedInt = refl
size_test Long = refl
size_test UnsignedLong = refl

pub sizes : (vs : List p.Variable) → are_sizes (map shape_of vs) ≡ true
sizes [] = refl
sizes (v ∷ vs) = rw (size_test v.kind) (sizes vs)

pub shaped : (vs : List p.Variable) → AreSizes (map shape_of vs)
shaped vs = ends.sizes (map shape_of vs) (sizes vs)

pub is_size_of : (k : Kind) (bytes : ℕ) → bytes ≡ bytes_of k → IsTrue (is_size bytes)
is_size_of k bytes is = ap is_size is ∙ size_test k

-- ---- Variables of the code

length-variables : (xs : List code.Variable) → length (map variable_of xs) ≡ length xs
length-variables xs = length-map xs variable_of

pub long_shapes : (xs : List code.Variable) → length (map shape_of (map variable_of xs)) ≡ length xs
long_shapes xs = length-map (map variable_of xs) shape_of ∙ length-variables xs

pub long_numbers : (xs : List code.Variable) → length (map initial_numbers (map variable_of xs)) ≡ length xs
long_numbers xs = length-map (map variable_of xs) initial_numbers ∙ length-variables xs

variable_at_index : (xs : List code.Variable) (i : ℕ) (x : code.Variable) → i < length xs → x ≡ get_or xs i x →
    variable_of x ≡ get_or (map variable_of xs) i (variable_of x)
variable_at_index xs i x l is = ap variable_of is ∙ sym (get_or-map variable_of xs i x (variable_of x) l)

pub shape_at : (xs : List code.Variable) (i : ℕ) (x : code.Variable) → i < length xs → x ≡ get_or xs i x →
    shape_of (variable_of x) ≡ get_or (map shape_of (map variable_of xs)) i (shape_of (variable_of x))
shape_at xs i x l is = ap shape_of (variable_at_index xs i x l is)
    ∙ sym (get_or-map shape_of (map variable_of xs) i (variable_of x) (shape_of (variable_of x)) (below xs i l))
  where
    below : (xs : List code.Variable) (i : ℕ) → i < length xs → i < length (map variable_of xs)
    below xs i l = omega (arith, l, length-variables xs)

pub numbers_at : (xs : List code.Variable) (i : ℕ) (x : code.Variable) → i < length xs → x ≡ get_or xs i x →
    initial_numbers (variable_of x) ≡ get_or (map initial_numbers (map variable_of xs)) i (initial_numbers (variable_of x))
numbers_at xs i x l is = ap initial_numbers (variable_at_index xs i x l is)
    ∙ sym (get_or-map initial_numbers (map variable_of xs) i (variable_of x) (initial_numbers (variable_of x)) (below xs i l))
  where
    below : (xs : List code.Variable) (i : ℕ) → i < length xs → i < length (map variable_of xs)
    below xs i l = omega (arith, l, length-variables xs)
