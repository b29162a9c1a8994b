-- Worked rows: ranges of indexes.
use Rattle.std.proofs.Common.{◌≡◌, ℕ, List, [], ◌∷◌, map, Bool, true, false, refl}
use Rattle.std.specs.Prelude.{pos, negsuc}
use Rattle.ido_ints.specs.declared.kinds.Kind.TheVariants as kind
use Rattle.ido_ints.specs.declared.operators.Unary.TheVariants as u
use Rattle.ido_ints.specs.declared.operators.Binary.TheVariants as b
use Rattle.ido_ints.specs.TypedNumbers.{typed}
use Rattle.c_tree.specs.Trees as t
use Rattle.c_tree.specs.Exprs as e
use Rattle.c_tree.specs.Elaboration.{typed_program}
use Rattle.c_tree.specs.Ranges.{Index, interval, full, range_of, program_indexes, index_fits}
use Rattle.c_tree.proofs.Samples.{int, bytes, index_of_nine, index_modulo_int, index_masked, index_modulo_long}

abbrev i : e.Expr
i = e.Local 0 kind.Long

abbrev byte : e.Expr
byte = e.Local 1 kind.Char

abbrev unsigned : ℕ → e.Expr
unsigned n = e.Constant (typed kind.UnsignedInt (pos n))

abbrev unsigned_long : ℕ → e.Expr
unsigned_long n = e.Constant (typed kind.UnsignedLong (pos n))

abbrev number : ℕ → e.Expr
number n = e.Constant (int n)

nine : range_of (number 9) ≡ interval (pos 9) (pos 9)
nine = refl

local : range_of i ≡ full kind.Long
local = refl

-- the `8u` becomes a `long`
modulo_int : range_of (e.Binary b.Rem i (unsigned 8)) ≡ interval (negsuc 6) (pos 7)
modulo_int = refl

modulo_long : range_of (e.Binary b.Rem i (unsigned_long 8)) ≡ interval (pos 0) (pos 7)
modulo_long = refl

masked : range_of (e.Binary b.And i (number 7)) ≡ interval (pos 0) (pos 7)
masked = refl

halved : range_of (e.Binary b.Div byte (number 2)) ≡ interval (pos 0) (pos 127)
halved = refl

-- the count is taken modulo 32
shifted : range_of (e.Binary b.ShiftRight byte (number 36)) ≡ interval (pos 0) (pos 15)
shifted = refl

added : range_of (e.Binary b.Sub byte (number 1)) ≡ interval (negsuc 0) (pos 254)
added = refl

wraps : range_of (e.Binary b.Sub byte (unsigned 1)) ≡ full kind.UnsignedInt
wraps = refl

negated : range_of (e.Unary u.Minus byte) ≡ interval (negsuc 254) (pos 0)
negated = refl

multiplied : range_of (e.Binary b.Mul byte (e.Unary u.Minus (number 2))) ≡ interval (negsuc 509) (pos 0)
multiplied = refl

chosen : range_of (e.Conditional kind.Int byte (number 3) (number 5)) ≡ interval (pos 3) (pos 5)
chosen = refl

compared : range_of (e.Binary b.Less i byte) ≡ interval (pos 0) (pos 1)
compared = refl

cast : range_of (e.Cast kind.SignedChar byte) ≡ full kind.SignedChar
cast = refl

-- ---- Programs

-- where the indexes stand, and whether each fits
abbrev places : List t.Item → List ℕ
places xs = map (λ (x : Index). x.place.0) (program_indexes (typed_program xs))

abbrev fits : List t.Item → List Bool
fits xs = let q = typed_program xs in map (index_fits q.variables q.mutexes) (program_indexes q)

place_of_nine : places index_of_nine ≡ 68 ∷ []
unfolding typed_program
place_of_nine = refl

fits_nine : fits index_of_nine ≡ false ∷ []
unfolding typed_program
fits_nine = refl

fits_modulo_int : fits index_modulo_int ≡ false ∷ []
unfolding typed_program
fits_modulo_int = refl

fits_masked : fits index_masked ≡ true ∷ []
unfolding typed_program
fits_masked = refl

fits_modulo_long : fits index_modulo_long ≡ true ∷ []
unfolding typed_program
fits_modulo_long = refl

fits_bytes : fits bytes ≡ true ∷ true ∷ true ∷ []
unfolding typed_program
fits_bytes = refl
