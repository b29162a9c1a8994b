-- Worked rows: values, nodes, temporaries and prices.
use Rattle.std.proofs.Common.{◌≡◌, ℕ, List, [], ◌∷◌, map, Some, None, refl}
use Rattle.std.specs.Prelude.{pos, negsuc, ℤ}
use Rattle.ido_ints.specs.declared.kinds.Kind.TheVariants as kind
use Rattle.ido_ints.specs.declared.operators.Unary.TheVariants as u
use Rattle.ido_ints.specs.declared.operators.Binary.TheVariants as b
use Rattle.ido_ints.specs.TypedNumbers.{Typed, typed}
use Rattle.ido_ints.specs.Reduction as reduction
use Rattle.c_tree.specs.Trees as t
use Rattle.c_tree.specs.Exprs as e
use Rattle.c_tree.specs.Values.{value, lock_number}
use Rattle.c_tree.specs.Prices.{nodes_of, need_of, thread_price}
use Rattle.c_tree.specs.Elaboration.{typed_program, conditional}
use Rattle.c_tree.specs.Inlining.{flat_form}
use Rattle.c_tree.specs.declared.language.Language.TheVariants.{Plain}
use Rattle.c_tree.specs.HoldPrices.{price_fault}
use Rattle.c_tree.specs.Temporaries.{temporaries_fault}
use Rattle.c_tree.proofs.Samples.{at, int, operators, bytes, calls}

abbrev number : ℕ → e.Expr
number n = e.Constant (int n)

abbrev unsigned : ℕ → e.Expr
unsigned n = e.Constant (typed kind.UnsignedInt (pos n))

abbrev minus : e.Expr → e.Expr
minus x = e.Unary u.Minus x

-- ---- Values

-- the local 0 is an `int`, -5; the variable 0 an array of `unsigned char`, 10 20 30
abbrev value_of : e.Expr → Typed
value_of x = value (negsuc 4 ∷ []) ((pos 10 ∷ pos 20 ∷ pos 30 ∷ []) ∷ []) x

local : value_of (e.Local 0 kind.Int) ≡ typed kind.Int (negsuc 4)
local = refl

element : value_of (e.Element (at 0) 0 kind.UnsignedChar (at 2) (e.Binary b.Add (e.Local 0 kind.Int) (number 7))) ≡ typed kind.UnsignedChar (pos 30)
unfolding reduction.from_least_on
element = refl

-- -1 is converted to `unsigned int`
compared : value_of (e.Binary b.Less (minus (number 1)) (unsigned 1)) ≡ typed kind.Int (pos 0)
unfolding reduction.from_least_on
compared = refl

divided : value_of (e.Binary b.Div (e.Local 0 kind.Int) (number 2)) ≡ typed kind.Int (negsuc 1)
unfolding reduction.from_least_on
divided = refl

-- a conditional has the common kind of both parts, whichever is chosen
chosen : value_of (conditional (number 1) (minus (number 1)) (unsigned 1)) ≡ typed kind.UnsignedInt (pos 4294967295)
unfolding reduction.from_least_on
chosen = refl

cast : value_of (e.Cast kind.SignedChar (number 200)) ≡ typed kind.SignedChar (negsuc 55)
unfolding reduction.from_least_on
cast = refl

logical : value_of (e.Binary b.LogicalAnd (number 0) (e.Binary b.Div (number 1) (number 0))) ≡ typed kind.Int (pos 0)
unfolding reduction.from_least_on
logical = refl

-- ---- Nodes and temporaries

abbrev balanced : ℕ → e.Expr
balanced ℕ.zero = number 1
balanced (ℕ.suc n) = e.Binary b.Add (balanced n) (balanced n)

sixteen_nodes : nodes_of (balanced 4) ≡ 31
sixteen_nodes = refl

sixteen_need : need_of (balanced 4) ≡ 5
sixteen_need = refl

half_need : need_of (balanced 3) ≡ 4
half_need = refl

-- a sum from left to right needs two
row_need : need_of (e.Binary b.Add (e.Binary b.Add (e.Binary b.Add (number 1) (number 2)) (number 3)) (number 4)) ≡ 2
row_need = refl

-- the right operand of `&&` is held alone, and a conversion is no node
logical_need : need_of (e.Binary b.LogicalAnd (number 1) (number 2)) ≡ 1
logical_need = refl

converted_nodes : nodes_of (e.Converted kind.Long (e.Cast kind.Int (number 1))) ≡ 2
converted_nodes = refl

-- ---- Prices

abbrev prices : List t.Item → List ℕ
prices xs = map thread_price (flat_form (typed_program xs)).threads

operators_price : prices operators ≡ 1536 ∷ []
unfolding typed_program flat_form
operators_price = refl

bytes_price : prices bytes ≡ 784 ∷ []
unfolding typed_program flat_form
bytes_price = refl

few_temporaries : temporaries_fault (flat_form (typed_program operators)) ≡ None
unfolding typed_program flat_form temporaries_fault
few_temporaries = refl

cheap : price_fault Plain (flat_form (typed_program calls)) ≡ None
unfolding typed_program flat_form price_fault
cheap = refl

-- ---- Locks

-- a name without key has its mutex's number, whatever locals are
plain_lock : (ls : List ℤ) (mutex : ℕ) → lock_number ls (record { mutex = mutex; key = None }) ≡ mutex
plain_lock ls mutex = refl

-- of an array whose first mutex is 5 the one that the local 0 names, which is 2
third_lock : lock_number (pos 2 ∷ []) (record { mutex = 5; key = Some (record { place = at 0; expr = e.Local 0 kind.Int }) }) ≡ 7
third_lock = refl
