-- Worked rows: references to elements of an array, in expressions.
use Rattle.std.proofs.Common.{◌≡◌, ℕ, [], ◌∷◌, map, true, false, refl}
use Rattle.std.specs.Prelude.{pos}
use Rattle.ido_ints.specs.declared.kinds.Kind.TheVariants as kind
use Rattle.ido_ints.specs.declared.operators.Binary.TheVariants as b
use Rattle.ido_ints.specs.Reduction as reduction
use Rattle.ido_ints.specs.TypedNumbers.{Typed, typed}
use Rattle.c_tree.specs.Exprs as e
use Rattle.c_tree.specs.Values.{value}
use Rattle.c_tree.specs.Prices.{nodes_of, need_of}
use Rattle.c_tree.specs.Ranges.{Index, interval, is_below, range_of, expr_indexes}
use Rattle.c_tree.specs.LockDiscipline.{Use, expr_uses, expr_locals}
use Rattle.c_tree.specs.LockNames.{same_expr}
use Rattle.c_tree.specs.Inlining.{shifted}
use Rattle.c_tree.proofs.Samples.{at, int}

-- the local 0 refers to the third element of the variable 0, 10 20 30 40, and the local 1 is null
abbrev value_of : e.Expr → Typed
value_of x = value (pos 3 ∷ pos 0 ∷ []) ((pos 10 ∷ pos 20 ∷ pos 30 ∷ pos 40 ∷ []) ∷ []) x

-- `&a[2]`, whose index begins at 3
abbrev third : e.Expr
third = e.Address 0 (at 3) (e.Constant (int 2))

-- `*p`, at that place
abbrev through : (place local : ℕ) → e.Expr
through place local = e.Element (at place) 0 kind.Long (at place) (e.Referent (at place) 3 local)

third_is : value_of third ≡ typed kind.UnsignedLong (pos 3)
unfolding reduction.from_least_on
third_is = refl

-- `p == &a[2]`
compared : value_of (e.Binary b.Equal (e.Local 0 kind.UnsignedLong) third) ≡ typed kind.Int (pos 1)
unfolding reduction.from_least_on
compared = refl

-- `p != null`
null_is : value_of (e.Binary b.NotEqual (e.Local 1 kind.UnsignedLong) (e.Constant (typed kind.UnsignedLong (pos 0)))) ≡ typed kind.Int (pos 0)
unfolding reduction.from_least_on
null_is = refl

read : value_of (through 7 0) ≡ typed kind.Long (pos 30)
unfolding reduction.from_least_on
read = refl

-- both cost as an element read
address_nodes : nodes_of third ≡ 2
address_nodes = refl

read_nodes : nodes_of (through 7 0) ≡ 2
read_nodes = refl

read_need : need_of (through 7 0) ≡ 1
read_need = refl

-- the index of an address is one of its array, and needs no lock
address_indexes : map (λ (x : Index). x.place.0) (expr_indexes third) ≡ 3 ∷ []
address_indexes = refl

address_uses : expr_uses third ≡ []
address_uses = refl

-- all elements of the array, and none past them
read_range : range_of (e.Referent (at 7) 3 0) ≡ interval (pos 0) (pos 3)
read_range = refl

read_fits : is_below (e.Referent (at 7) 3 0) 4 ≡ true
read_fits = refl

read_elsewhere : is_below (e.Referent (at 7) 3 0) 3 ≡ false
read_elsewhere = refl

-- a read through a reference uses the array, at `*`, and the local
read_uses : map (λ (x : Use). x.place.0) (expr_uses (through 7 0)) ≡ 7 ∷ []
read_uses = refl

read_locals : expr_locals (through 7 0) ≡ 0 ∷ []
read_locals = refl

-- in a call the local is one of those of the function
renumbered : shifted 5 (through 7 0) ≡ through 7 5
renumbered = refl

-- in keys, where they are spelled the same
one_address : same_expr third (e.Address 0 (at 20) (e.Constant (int 2))) ≡ true
one_address = refl

other_array : same_expr third (e.Address 1 (at 3) (e.Constant (int 2))) ≡ false
other_array = refl
