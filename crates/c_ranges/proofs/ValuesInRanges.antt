-- Values lie in their ranges, by induction on the expression.
use Rattle.std.proofs.Common.{◌≡◌, refl, sym, ap, ap₂, ◌∙◌, subst, ℕ, ◌<◌, List, Bool, true, false, cond, arith}
use Rattle.std.specs.Prelude.{ℤ, pos, ◌-ℤ◌, neg_ℤ, ◌≤ℤ◌, Contains, unsigned_abs}
use Rattle.std.proofs.lemmas.Int.{ints}
use Rattle.ido_ints.specs.declared.kinds.Kind.{Kind}
use Rattle.ido_ints.specs.declared.kinds.Kind.TheVariants.{UnsignedLong}
use Rattle.ido_ints.specs.declared.operators.Unary.{Unary}
use Rattle.ido_ints.specs.declared.operators.Unary.TheVariants as un
use Rattle.ido_ints.specs.declared.operators.Binary.{Binary}
use Rattle.ido_ints.specs.declared.operators.Binary.TheVariants as bin
use Rattle.ido_ints.specs.Kinds.{promoted, common_of, Holds}
use Rattle.ido_ints.specs.Operators.{is_zero, unary_kind, unary_number, binary_kind, binary_number}
use Rattle.ido_ints.specs.Reduction.{reduced}
use Rattle.ido_ints.specs.TypedNumbers.{Typed}
use Rattle.ido_ints.proofs.Public.{reduced-neg, reduced_held}
use Rattle.c_tree.specs.Exprs as e
use Rattle.c_tree.specs.Programs as p
use Rattle.c_tree.specs.Values.{value, referent}
use Rattle.c_tree.specs.Elaboration.{kind_of}
use Rattle.c_tree.specs.Ranges.{Interval, interval, Within, full, fitted, hull, sum, difference, product, unary_range}
use Rattle.c_tree.specs.Ranges.{binary_range, range_of, Index, indexed, program_indexes, AllFit, is_below, lies_in}
use Rattle.c_ranges.specs.Laws.{IsReference, AllHeld, IsForeseen, NamesElement}
use Rattle.c_ranges.proofs.Multiples.{Within_product}
use Rattle.c_ranges.proofs.Operations.{Within_sum, Within_difference, Within_negative, Within_quotient, Within_remainder, Within_and, Within_shifted}
use Rattle.c_ranges.proofs.Reductions.{Within_full, Within_fitted, Within_truth, Inside_fitted}
use Rattle.c_ranges.proofs.IntervalHulls.{le_trans, Within_only, Within_hull_left, Within_hull_right}

-- ---- Operators

unary_within : (op : Unary) (k : Kind) (i : Interval) (a : ℤ) → Within i a → Within (unary_range op k i) (unary_number op k a)
unary_within un.Plus k i a h = Within_fitted (promoted k) i a h
unary_within un.Minus k i a h =
    let c = promoted k in
    let j = fitted c i in
    let negative = Within_fitted c (interval (neg_ℤ j.hi) (neg_ℤ j.lo)) (neg_ℤ (reduced c a)) (Within_negative j (reduced c a) (Within_fitted c i a h)) in
    let P : ℤ → Type 0 = Within (fitted c (interval (neg_ℤ j.hi) (neg_ℤ j.lo))) in
    subst P (reduced-neg c a) negative
unary_within un.Complement k i a h = Within_full (promoted k) _
unary_within un.Not k i a h = Within_truth _

module _ (j k : Kind) (left right : Interval) (a b : ℤ) (h : Within left a) (g : Within right b) where
  abbrev c : Kind
  c = common_of j k

  x : Within (fitted c left) (reduced c a)
  x = Within_fitted c left a h

  y : Within (fitted c right) (reduced c b)
  y = Within_fitted c right b g

  mul_within : Within (binary_range bin.Mul j left k right) (binary_number bin.Mul j a k b)
  mul_within = Within_fitted c (product (fitted c left) (fitted c right)) _ (Within_product _ _ _ _ x y)

  div_within : Within (binary_range bin.Div j left k right) (binary_number bin.Div j a k b)
  div_within = Within_quotient c _ _ _ _ (Inside_fitted c left) x y

  rem_within : Within (binary_range bin.Rem j left k right) (binary_number bin.Rem j a k b)
  rem_within = Within_remainder c _ _ _ _ (Inside_fitted c left) (Inside_fitted c right) x y

  add_within : Within (binary_range bin.Add j left k right) (binary_number bin.Add j a k b)
  add_within = Within_fitted c (sum (fitted c left) (fitted c right)) _ (Within_sum _ _ _ _ x y)

  sub_within : Within (binary_range bin.Sub j left k right) (binary_number bin.Sub j a k b)
  sub_within = Within_fitted c (difference (fitted c left) (fitted c right)) _ (Within_difference _ _ _ _ x y)

  shift_right_within : Within (binary_range bin.ShiftRight j left k right) (binary_number bin.ShiftRight j a k b)
  shift_right_within =
      Within_shifted (promoted j) (fitted (promoted j) left) right (reduced (promoted j) a) b (Inside_fitted (promoted j) left)
      (Within_fitted (promoted j) left a h) g

  and_within : Within (binary_range bin.And j left k right) (binary_number bin.And j a k b)
  and_within = Within_and c _ _ _ _ (Inside_fitted c left) (Inside_fitted c right) x y

binary_within : (op : Binary) (j k : Kind) (left right : Interval) (a b : ℤ) → Within left a → Within right b →
    Within (binary_range op j left k right) (binary_number op j a k b)
binary_within bin.Mul j k l r a b h g = mul_within j k l r a b h g
binary_within bin.Div j k l r a b h g = div_within j k l r a b h g
binary_within bin.Rem j k l r a b h g = rem_within j k l r a b h g
binary_within bin.Add j k l r a b h g = add_within j k l r a b h g
binary_within bin.Sub j k l r a b h g = sub_within j k l r a b h g
binary_within bin.ShiftLeft j k l r a b h g = Within_full (promoted j) _
binary_within bin.ShiftRight j k l r a b h g = shift_right_within j k l r a b h g
binary_within bin.Less j k l r a b h g = Within_truth _
binary_within bin.Greater j k l r a b h g = Within_truth _
binary_within bin.LessEqual j k l r a b h g = Within_truth _
binary_within bin.GreaterEqual j k l r a b h g = Within_truth _
binary_within bin.Equal j k l r a b h g = Within_truth _
binary_within bin.NotEqual j k l r a b h g = Within_truth _
binary_within bin.And j k l r a b h g = and_within j k l r a b h g
binary_within bin.Xor j k l r a b h g = Within_full (common_of j k) _
binary_within bin.Or j k l r a b h g = Within_full (common_of j k) _
binary_within bin.LogicalAnd j k l r a b h g = Within_truth _
binary_within bin.LogicalOr j k l r a b h g = Within_truth _

-- ---- Expressions

held_within : (k : Kind) (z : ℤ) → Holds k z → Within (full k) z
held_within k z h = record { from_low = h.from_least; to_high = h.to_greatest }

-- the one that was chosen
either_within : (k : Kind) (i j : Interval) (zero : Bool) (x y : Typed) → Within i x.number → Within j y.number →
    Within (hull (fitted k i) (fitted k j)) (reduced k (cond zero y x).number)
either_within k i j false x y h g = Within_hull_left (fitted k i) (fitted k j) _ (Within_fitted k i x.number h)
either_within k i j true x y h g = Within_hull_right (fitted k i) (fitted k j) _ (Within_fitted k j y.number g)

-- of a reference that isn't null the number of its element
referent_within : (last : ℕ) (z : ℤ) → IsReference last z → Within (interval (pos 0) (pos last)) (referent z).number
referent_within last z h =
    let k = UnsignedLong in
    let low = h.names.from_low in
    let high = h.names.to_high in
    let most = h.held.to_greatest in
    let one : reduced k (pos 1) ≡ pos 1 = reduced_held k (pos 1) (record { from_least = omega (arith, ints); to_greatest = omega (arith, ints) }) in
    let own : reduced k z ≡ z = reduced_held k z h.held in
    let less : reduced k (z -ℤ pos 1) ≡ z -ℤ pos 1 =
    reduced_held k (z -ℤ pos 1) (record { from_least = omega (arith, ints, low); to_greatest = omega (arith, ints, most) }) in
    let is : (referent z).number ≡ z -ℤ pos 1 = (λ i. reduced k (own i -ℤ one i)) ∙ less in
    subst (Within (interval (pos 0) (pos last))) (sym is)
    (record { from_low = omega (arith, ints, low); to_high = omega (arith, ints, high) })

pub foreseen : (ls : List ℤ) (vs : List (List ℤ)) (x : e.Expr) → AllHeld ls vs x → IsForeseen ls vs x
foreseen ls vs (e.Constant x) h = record { kind = refl; within = Within_only x.number }
foreseen ls vs (e.Local local kind) h = record { kind = refl; within = held_within kind _ h }
foreseen ls vs (e.Variable place variable kind) h = record { kind = refl; within = held_within kind _ h }
foreseen ls vs (e.Element place variable kind index_place index) h = record { kind = refl; within = held_within kind _ h.0 }
foreseen ls vs (e.Address variable index_place index) h = record { kind = refl; within = Within_full UnsignedLong _ }
foreseen ls vs (e.Referent place last local) h = record { kind = refl; within = referent_within last _ h }
foreseen ls vs (e.Unary op operand) h =
    let f = foreseen ls vs operand h in
    let i = range_of operand in
    let a = (value ls vs operand).number in
    record {
      kind = ap (unary_kind op) f.kind;
      within =
          subst (λ (k : Kind). Within (unary_range op (kind_of operand) i) (unary_number op k a)) (sym f.kind) (unary_within op (kind_of operand) i a f.within);
    }
foreseen ls vs (e.Cast kind operand) h = record { kind = refl; within = Within_fitted kind (range_of operand) _ (foreseen ls vs operand h).within }
foreseen ls vs (e.Converted kind operand) h = record { kind = refl; within = Within_fitted kind (range_of operand) _ (foreseen ls vs operand h).within }
foreseen ls vs (e.Binary op left right) h =
    let f = foreseen ls vs left h.0 in
    let g = foreseen ls vs right h.1 in
    let a = (value ls vs left).number in
    let b = (value ls vs right).number in
    let r = binary_range op (kind_of left) (range_of left) (kind_of right) (range_of right) in
    let here = binary_within op (kind_of left) (kind_of right) (range_of left) (range_of right) a b f.within g.within in
    let there = subst (λ (j : Kind). Within r (binary_number op j a (kind_of right) b)) (sym f.kind) here in
    record {
      kind = ap₂ (binary_kind op) f.kind g.kind;
      within = subst (λ (k : Kind). Within r (binary_number op (value ls vs left).kind a k b)) (sym g.kind) there;
    }
foreseen ls vs (e.Conditional kind condition chosen otherwise) h = record {
  kind = refl;
  within =
      either_within kind (range_of chosen) (range_of otherwise) (is_zero (value ls vs condition).number) (value ls vs chosen) (value ls vs otherwise)
      (foreseen ls vs chosen h.1).within (foreseen ls vs otherwise h.2).within;
}

-- ---- Indexes

record Between (i j : Interval) : Type 0 where
  low : j.lo ≤ℤ i.lo
  high : i.hi ≤ℤ j.hi

lies_in-true : (i j : Interval) → lies_in i j ≡ true → Between i j
lies_in-true i j h = record { low = grind (arith, ints); high = grind (arith, ints) }

element_below : (z : ℤ) (n : ℕ) → pos 0 ≤ℤ z → z ≤ℤ (pos n -ℤ pos 1) → unsigned_abs z < n
element_below z n h k = omega (arith, ints)

-- an index that fits among so many elements
pub fits_element : (n : ℕ) (x : e.Expr) → is_below x n ≡ true → (ls : List ℤ) (ns : List (List ℤ)) → AllHeld ls ns x → NamesElement n ls ns x
fits_element n x fit ls ns h =
    let r = range_of x in
    let z = (value ls ns x).number in
    let b = lies_in-true r (interval (pos 0) (pos n -ℤ pos 1)) fit in
    let w = (foreseen ls ns x h).within in
    let low = le_trans (pos 0) r.lo z b.low w.from_low in
    record { from_zero = low; below = element_below z n low (le_trans z r.hi _ w.to_high b.high) }

pub names_element : (x : p.Program) → AllFit x → (i : Index) → Contains (program_indexes x) i → (ls : List ℤ) (vs : List (List ℤ)) → AllHeld ls vs i.expr →
    NamesElement (indexed x.variables x.mutexes i.of) ls vs i.expr
names_element x fit i c ls vs h = fits_element (indexed x.variables x.mutexes i.of) i.expr (fit i c) ls vs h
