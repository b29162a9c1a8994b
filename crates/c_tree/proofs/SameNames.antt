-- Names of locks: two spellings of one name have one number in every state, and one that no assignment touches keeps its own.
use Rattle.std.proofs.Common.{◌≡◌, ◌<◌, ◌==◌, ℕ, zero, suc, ◌+◌, List, [], ◌∷◌, ◌++◌, length, slice_set, Option, Some, None, Bool, true, false}
use Rattle.std.proofs.Common.{cond, ◌&&◌, find, refl, sym, ap, ap₂, ◌∙◌, arith}
use Rattle.std.specs.Prelude.{slice_get, slice_index_or, ℤ, pos, if◌then◌else◌}
use Rattle.std.specs.List.{list_any}
use Rattle.std.specs.Ordering.{int_eq}
use Rattle.std.proofs.lemmas.Bool.{eqb-true, or_parts}
use Rattle.std.proofs.lemmas.Bool.Decides.{nat_tests, Decides-int_eq}
use Rattle.std.proofs.lemmas.List.{get_or-set_other}
use Rattle.std.proofs.lemmas.List.Folds.{list_any-append}
use Rattle.ido_ints.specs.declared.kinds.Kind.{Kind}
use Rattle.ido_ints.specs.declared.kinds.Kind.TheVariants as kind
use Rattle.ido_ints.specs.declared.operators.Unary.{Unary}
use Rattle.ido_ints.specs.declared.operators.Unary.TheVariants as u
use Rattle.ido_ints.specs.declared.operators.Binary.{Binary}
use Rattle.ido_ints.specs.declared.operators.Binary.TheVariants as b
use Rattle.ido_ints.specs.TypedNumbers.{Typed, typed, converted}
use Rattle.ido_ints.specs.Operators.{is_zero, unary_of, binary_of}
use Rattle.c_tree.specs.Exprs as e
use Rattle.c_tree.specs.Values.{value, reference_to, referent, element_at, element_number, lock_number}
use Rattle.c_tree.specs.LockNames.{kind_number, unary_number, binary_number, same_kind, same_typed, same_expr, same_key, same_lock, number_in}
use Rattle.c_tree.specs.LockNames.{Held, holds, held_names, plain_names}
use Rattle.c_tree.proofs.PlainNames.{length-plain_names, plain_at}
use Rattle.c_tree.specs.LockDiscipline.{expr_locals, key_locals, freezing}

and_true : (a b : Bool) → (a && b) ≡ true → (a ≡ true) × (b ≡ true)
and_true true b h = (refl, h)
and_true false b h = cc

-- ---- One typed tree has one value

kinds : List Kind
kinds = kind.Char ∷ kind.UnsignedChar ∷ kind.SignedChar ∷ kind.Short ∷ kind.UnsignedShort ∷ kind.Int ∷ kind.UnsignedInt ∷ kind.Long ∷ kind.UnsignedLong ∷ []

kind_back : (x : Kind) → slice_index_or kinds (kind_number x) kind.Char ≡ x
unfolding kinds
kind_back kind.Char = refl
kind_back kind.UnsignedChar = refl
kind_back kind.SignedChar = refl
kind_back kind.Short = refl
kind_back kind.UnsignedShort = refl
kind_back kind.Int = refl
kind_back kind.UnsignedInt = refl
kind_back kind.Long = refl
kind_back kind.UnsignedLong = refl

one_kind : (x y : Kind) → kind_number x ≡ kind_number y → x ≡ y
one_kind x y h = sym (kind_back x) ∙ (ap (λ (n : ℕ). slice_index_or kinds n kind.Char) h ∙ kind_back y)

unarys : List Unary
unarys = u.Plus ∷ u.Minus ∷ u.Complement ∷ u.Not ∷ []

unary_back : (x : Unary) → slice_index_or unarys (unary_number x) u.Plus ≡ x
unfolding unarys
unary_back u.Plus = refl
unary_back u.Minus = refl
unary_back u.Complement = refl
unary_back u.Not = refl

one_unary : (x y : Unary) → unary_number x ≡ unary_number y → x ≡ y
one_unary x y h = sym (unary_back x) ∙ (ap (λ (n : ℕ). slice_index_or unarys n u.Plus) h ∙ unary_back y)

binarys : List Binary
binarys =
    b.LogicalOr ∷ b.LogicalAnd ∷ b.Or ∷ b.Xor ∷ b.And ∷ b.Equal ∷ b.NotEqual ∷ b.Less ∷ b.Greater ∷ b.LessEqual ∷ b.GreaterEqual ∷ b.ShiftLeft ∷ b.ShiftRight ∷
    b.Add ∷ b.Sub ∷ b.Mul ∷ b.Div ∷ b.Rem ∷ []

binary_back : (x : Binary) → slice_index_or binarys (binary_number x) b.LogicalOr ≡ x
unfolding binarys
binary_back b.LogicalOr = refl
binary_back b.LogicalAnd = refl
binary_back b.Or = refl
binary_back b.Xor = refl
binary_back b.And = refl
binary_back b.Equal = refl
binary_back b.NotEqual = refl
binary_back b.Less = refl
binary_back b.Greater = refl
binary_back b.LessEqual = refl
binary_back b.GreaterEqual = refl
binary_back b.ShiftLeft = refl
binary_back b.ShiftRight = refl
binary_back b.Add = refl
binary_back b.Sub = refl
binary_back b.Mul = refl
binary_back b.Div = refl
binary_back b.Rem = refl

one_binary : (x y : Binary) → binary_number x ≡ binary_number y → x ≡ y
one_binary x y h = sym (binary_back x) ∙ (ap (λ (n : ℕ). slice_index_or binarys n b.LogicalOr) h ∙ binary_back y)

same_kind_is : (x y : Kind) → same_kind x y ≡ true → x ≡ y
same_kind_is x y h = one_kind x y (eqb-true (kind_number x) (kind_number y) h)

pub same_typed_is : (x y : Typed) → same_typed x y ≡ true → x ≡ y
same_typed_is x y h =
    let p = and_true (same_kind x.kind y.kind) (int_eq x.number y.number) h in
    ap₂ (λ (k : Kind) (n : ℤ). let t : Typed = record { kind = k; number = n } in t) (same_kind_is x.kind y.kind p.0) ((Decides-int_eq x.number y.number).0 p.1)

-- whatever numbers variables have: such a tree reads none
module _ (ls : List ℤ) (vs ws : List (List ℤ)) where
  pub same_value : (x y : e.Expr) → same_expr x y ≡ true → value ls vs x ≡ value ls ws y
  same_value (e.Constant x) (e.Constant y) h = same_typed_is x y h
  same_value (e.Constant x1) (e.Local number2 j2) h = cc
  same_value (e.Constant x1) (e.Variable place22 variable22 j2) h = cc
  same_value (e.Constant x1) (e.Element place22 variable22 j2 index_place22 index22) h = cc
  same_value (e.Constant x1) (e.Address variable22 index_place22 y2) h = cc
  same_value (e.Constant x1) (e.Referent place22 last22 number2) h = cc
  same_value (e.Constant x1) (e.Unary o2 y2) h = cc
  same_value (e.Constant x1) (e.Cast j2 y2) h = cc
  same_value (e.Constant x1) (e.Converted j2 y2) h = cc
  same_value (e.Constant x1) (e.Binary o2 v2 w2) h = cc
  same_value (e.Constant x1) (e.Conditional j2 u2 v2 w2) h = cc
  same_value (e.Local local1 k1) (e.Constant y2) h = cc
  same_value (e.Local local k) (e.Local number j) h =
      let p = and_true (local == number) (same_kind k j) h in
      ap₂ (λ (i : ℕ) (c : Kind). typed c (slice_index_or ls i (pos 0))) (eqb-true local number p.0) (same_kind_is k j p.1)
  same_value (e.Local local1 k1) (e.Variable place22 variable22 j2) h = cc
  same_value (e.Local local1 k1) (e.Element place22 variable22 j2 index_place22 index22) h = cc
  same_value (e.Local local1 k1) (e.Address variable22 index_place22 y2) h = cc
  same_value (e.Local local1 k1) (e.Referent place22 last22 number2) h = cc
  same_value (e.Local local1 k1) (e.Unary o2 y2) h = cc
  same_value (e.Local local1 k1) (e.Cast j2 y2) h = cc
  same_value (e.Local local1 k1) (e.Converted j2 y2) h = cc
  same_value (e.Local local1 k1) (e.Binary o2 v2 w2) h = cc
  same_value (e.Local local1 k1) (e.Conditional j2 u2 v2 w2) h = cc
  same_value (e.Variable place1 variable1 k1) (e.Constant y2) h = cc
  same_value (e.Variable place1 variable1 k1) (e.Local number2 j2) h = cc
  same_value (e.Variable place variable k) (e.Variable place2 variable2 j) h = cc
  same_value (e.Variable place1 variable1 k1) (e.Element place22 variable22 j2 index_place22 index22) h = cc
  same_value (e.Variable place1 variable1 k1) (e.Address variable22 index_place22 y2) h = cc
  same_value (e.Variable place1 variable1 k1) (e.Referent place22 last22 number2) h = cc
  same_value (e.Variable place1 variable1 k1) (e.Unary o2 y2) h = cc
  same_value (e.Variable place1 variable1 k1) (e.Cast j2 y2) h = cc
  same_value (e.Variable place1 variable1 k1) (e.Converted j2 y2) h = cc
  same_value (e.Variable place1 variable1 k1) (e.Binary o2 v2 w2) h = cc
  same_value (e.Variable place1 variable1 k1) (e.Conditional j2 u2 v2 w2) h = cc
  same_value (e.Element place1 variable1 k1 index_place1 index1) (e.Constant y2) h = cc
  same_value (e.Element place1 variable1 k1 index_place1 index1) (e.Local number2 j2) h = cc
  same_value (e.Element place1 variable1 k1 index_place1 index1) (e.Variable place22 variable22 j2) h = cc
  same_value (e.Element place variable k index_place index) (e.Element place2 variable2 j index_place2 index2) h = cc
  same_value (e.Element place1 variable1 k1 index_place1 index1) (e.Address variable22 index_place22 y2) h = cc
  same_value (e.Element place1 variable1 k1 index_place1 index1) (e.Referent place22 last22 number2) h = cc
  same_value (e.Element place1 variable1 k1 index_place1 index1) (e.Unary o2 y2) h = cc
  same_value (e.Element place1 variable1 k1 index_place1 index1) (e.Cast j2 y2) h = cc
  same_value (e.Element place1 variable1 k1 index_place1 index1) (e.Converted j2 y2) h = cc
  same_value (e.Element place1 variable1 k1 index_place1 index1) (e.Binary o2 v2 w2) h = cc
  same_value (e.Element place1 variable1 k1 index_place1 index1) (e.Conditional j2 u2 v2 w2) h = cc
  same_value (e.Address variable1 index_place1 x1) (e.Constant y2) h = cc
  same_value (e.Address variable1 index_place1 x1) (e.Local number2 j2) h = cc
  same_value (e.Address variable1 index_place1 x1) (e.Variable place22 variable22 j2) h = cc
  same_value (e.Address variable1 index_place1 x1) (e.Element place22 variable22 j2 index_place22 index22) h = cc
  same_value (e.Address variable index_place x) (e.Address number at y) h =
      let p = and_true (variable == number) (same_expr x y) h in
      ap reference_to (same_value x y p.1)
  same_value (e.Address variable1 index_place1 x1) (e.Referent place22 last22 number2) h = cc
  same_value (e.Address variable1 index_place1 x1) (e.Unary o2 y2) h = cc
  same_value (e.Address variable1 index_place1 x1) (e.Cast j2 y2) h = cc
  same_value (e.Address variable1 index_place1 x1) (e.Converted j2 y2) h = cc
  same_value (e.Address variable1 index_place1 x1) (e.Binary o2 v2 w2) h = cc
  same_value (e.Address variable1 index_place1 x1) (e.Conditional j2 u2 v2 w2) h = cc
  same_value (e.Referent place1 last1 local1) (e.Constant y2) h = cc
  same_value (e.Referent place1 last1 local1) (e.Local number2 j2) h = cc
  same_value (e.Referent place1 last1 local1) (e.Variable place22 variable22 j2) h = cc
  same_value (e.Referent place1 last1 local1) (e.Element place22 variable22 j2 index_place22 index22) h = cc
  same_value (e.Referent place1 last1 local1) (e.Address variable22 index_place22 y2) h = cc
  same_value (e.Referent place last local) (e.Referent at end number) h =
      let p = and_true (last == end) (local == number) h in
      ap (λ (i : ℕ). referent (slice_index_or ls i (pos 0))) (eqb-true local number p.1)
  same_value (e.Referent place1 last1 local1) (e.Unary o2 y2) h = cc
  same_value (e.Referent place1 last1 local1) (e.Cast j2 y2) h = cc
  same_value (e.Referent place1 last1 local1) (e.Converted j2 y2) h = cc
  same_value (e.Referent place1 last1 local1) (e.Binary o2 v2 w2) h = cc
  same_value (e.Referent place1 last1 local1) (e.Conditional j2 u2 v2 w2) h = cc
  same_value (e.Unary operator1 x1) (e.Constant y2) h = cc
  same_value (e.Unary operator1 x1) (e.Local number2 j2) h = cc
  same_value (e.Unary operator1 x1) (e.Variable place22 variable22 j2) h = cc
  same_value (e.Unary operator1 x1) (e.Element place22 variable22 j2 index_place22 index22) h = cc
  same_value (e.Unary operator1 x1) (e.Address variable22 index_place22 y2) h = cc
  same_value (e.Unary operator1 x1) (e.Referent place22 last22 number2) h = cc
  same_value (e.Unary operator x) (e.Unary o y) h =
      let p = and_true (unary_number operator == unary_number o) (same_expr x y) h in
      ap₂ unary_of (one_unary operator o (eqb-true (unary_number operator) (unary_number o) p.0)) (same_value x y p.1)
  same_value (e.Unary operator1 x1) (e.Cast j2 y2) h = cc
  same_value (e.Unary operator1 x1) (e.Converted j2 y2) h = cc
  same_value (e.Unary operator1 x1) (e.Binary o2 v2 w2) h = cc
  same_value (e.Unary operator1 x1) (e.Conditional j2 u2 v2 w2) h = cc
  same_value (e.Cast k1 x1) (e.Constant y2) h = cc
  same_value (e.Cast k1 x1) (e.Local number2 j2) h = cc
  same_value (e.Cast k1 x1) (e.Variable place22 variable22 j2) h = cc
  same_value (e.Cast k1 x1) (e.Element place22 variable22 j2 index_place22 index22) h = cc
  same_value (e.Cast k1 x1) (e.Address variable22 index_place22 y2) h = cc
  same_value (e.Cast k1 x1) (e.Referent place22 last22 number2) h = cc
  same_value (e.Cast k1 x1) (e.Unary o2 y2) h = cc
  same_value (e.Cast k x) (e.Cast j y) h =
      let p = and_true (same_kind k j) (same_expr x y) h in
      ap₂ (λ (v : Typed) (c : Kind). converted v c) (same_value x y p.1) (same_kind_is k j p.0)
  same_value (e.Cast k1 x1) (e.Converted j2 y2) h = cc
  same_value (e.Cast k1 x1) (e.Binary o2 v2 w2) h = cc
  same_value (e.Cast k1 x1) (e.Conditional j2 u2 v2 w2) h = cc
  same_value (e.Converted k1 x1) (e.Constant y2) h = cc
  same_value (e.Converted k1 x1) (e.Local number2 j2) h = cc
  same_value (e.Converted k1 x1) (e.Variable place22 variable22 j2) h = cc
  same_value (e.Converted k1 x1) (e.Element place22 variable22 j2 index_place22 index22) h = cc
  same_value (e.Converted k1 x1) (e.Address variable22 index_place22 y2) h = cc
  same_value (e.Converted k1 x1) (e.Referent place22 last22 number2) h = cc
  same_value (e.Converted k1 x1) (e.Unary o2 y2) h = cc
  same_value (e.Converted k1 x1) (e.Cast j2 y2) h = cc
  same_value (e.Converted k x) (e.Converted j y) h =
      let p = and_true (same_kind k j) (same_expr x y) h in
      ap₂ (λ (v : Typed) (c : Kind). converted v c) (same_value x y p.1) (same_kind_is k j p.0)
  same_value (e.Converted k1 x1) (e.Binary o2 v2 w2) h = cc
  same_value (e.Converted k1 x1) (e.Conditional j2 u2 v2 w2) h = cc
  same_value (e.Binary operator1 x1 y1) (e.Constant y2) h = cc
  same_value (e.Binary operator1 x1 y1) (e.Local number2 j2) h = cc
  same_value (e.Binary operator1 x1 y1) (e.Variable place22 variable22 j2) h = cc
  same_value (e.Binary operator1 x1 y1) (e.Element place22 variable22 j2 index_place22 index22) h = cc
  same_value (e.Binary operator1 x1 y1) (e.Address variable22 index_place22 y2) h = cc
  same_value (e.Binary operator1 x1 y1) (e.Referent place22 last22 number2) h = cc
  same_value (e.Binary operator1 x1 y1) (e.Unary o2 y2) h = cc
  same_value (e.Binary operator1 x1 y1) (e.Cast j2 y2) h = cc
  same_value (e.Binary operator1 x1 y1) (e.Converted j2 y2) h = cc
  same_value (e.Binary operator x y) (e.Binary o v w) h =
      let p = and_true (binary_number operator == binary_number o) (same_expr x v && same_expr y w) h in
      let q = and_true (same_expr x v) (same_expr y w) p.1 in
      ap (λ (b : Binary). binary_of b (value ls vs x) (value ls vs y)) (one_binary operator o (eqb-true (binary_number operator) (binary_number o) p.0))
      ∙ ap₂ (binary_of o) (same_value x v q.0) (same_value y w q.1)
  same_value (e.Binary operator1 x1 y1) (e.Conditional j2 u2 v2 w2) h = cc
  same_value (e.Conditional k1 x1 y1 z1) (e.Constant y2) h = cc
  same_value (e.Conditional k1 x1 y1 z1) (e.Local number2 j2) h = cc
  same_value (e.Conditional k1 x1 y1 z1) (e.Variable place22 variable22 j2) h = cc
  same_value (e.Conditional k1 x1 y1 z1) (e.Element place22 variable22 j2 index_place22 index22) h = cc
  same_value (e.Conditional k1 x1 y1 z1) (e.Address variable22 index_place22 y2) h = cc
  same_value (e.Conditional k1 x1 y1 z1) (e.Referent place22 last22 number2) h = cc
  same_value (e.Conditional k1 x1 y1 z1) (e.Unary o2 y2) h = cc
  same_value (e.Conditional k1 x1 y1 z1) (e.Cast j2 y2) h = cc
  same_value (e.Conditional k1 x1 y1 z1) (e.Converted j2 y2) h = cc
  same_value (e.Conditional k1 x1 y1 z1) (e.Binary o2 v2 w2) h = cc
  same_value (e.Conditional k x y z) (e.Conditional j u v w) h =
      let p = and_true (same_kind k j) (same_expr x u && (same_expr y v && same_expr z w)) h in
      let q = and_true (same_expr x u) (same_expr y v && same_expr z w) p.1 in
      let r = and_true (same_expr y v) (same_expr z w) q.1 in
      let pick : Typed → Typed → Typed → Kind → Typed = λ c a b to. converted (if is_zero c.number then b else a) to in
      ap (λ (c : Typed). pick c (value ls vs y) (value ls vs z) k) (same_value x u q.0)
      ∙ (ap₂ (λ (a b : Typed). pick (value ls ws u) a b k) (same_value y v r.0) (same_value z w r.1)
      ∙ ap (pick (value ls ws u) (value ls ws v) (value ls ws w)) (same_kind_is k j p.0))

same_by : (ls : List ℤ) (m n : ℕ) (x y : Option e.Placed) → ((m == n) && same_key x y) ≡ true →
    lock_number ls (record { mutex = m; key = x }) ≡ lock_number ls (record { mutex = n; key = y })
same_by ls m n None None h = eqb-true m n (and_true (m == n) true h).0
same_by ls m n None (Some y) h = let p = and_true (m == n) false h in cc
same_by ls m n (Some x) None h = let p = and_true (m == n) false h in cc
same_by ls m n (Some x) (Some y) h =
    let p = and_true (m == n) (same_expr x.expr y.expr) h in
    ap₂ (λ (i : ℕ) (v : Typed). let r : ℕ = i + element_at v in r) (eqb-true m n p.0) (same_value ls [] [] x.expr y.expr p.1)

-- two spellings of one name have one lock
pub same_number : (ls : List ℤ) (x y : e.LockName) → same_lock x y ≡ true → lock_number ls x ≡ lock_number ls y
same_number ls x y h = same_by ls x.mutex y.mutex x.key y.key h

-- the element that an index names, of a variable without one its only one
abbrev pub index_element : (ls : List ℤ) (vs : List (List ℤ)) → Option e.Placed → ℕ
index_element ls vs None = 0
index_element ls vs (Some index) = element_at (value ls vs index.expr)

indexed_by : (ls : List ℤ) (vs : List (List ℤ)) (m n : ℕ) (x y : Option e.Placed) → ((m == n) && same_key x y) ≡ true →
    m + index_element ls vs x ≡ lock_number ls (record { mutex = n; key = y })
indexed_by ls vs m n None None h =
    let same = eqb-true m n (and_true (m == n) true h).0 in
    omega (arith, same)
indexed_by ls vs m n None (Some y) h = let p = and_true (m == n) false h in cc
indexed_by ls vs m n (Some x) None h = let p = and_true (m == n) false h in cc
indexed_by ls vs m n (Some x) (Some y) h =
    let p = and_true (m == n) (same_expr x.expr y.expr) h in
    ap₂ (λ (i : ℕ) (v : Typed). let r : ℕ = i + element_at v in r) (eqb-true m n p.0) (same_value ls vs [] x.expr y.expr p.1)

-- a name whose key is an index has the lock of the element that the index names
pub same_index : (ls : List ℤ) (vs : List (List ℤ)) (first : ℕ) (index : Option e.Placed) (x : e.LockName) →
    same_lock (record { mutex = first; key = index }) x ≡ true → first + index_element ls vs index ≡ lock_number ls x
same_index ls vs first index x h = indexed_by ls vs first x.mutex index x.key h

-- ---- A name in a table

-- the name of this number is the name, or another spelling of it
pub record IsNumberOf (names : List e.LockName) (x : e.LockName) (number : ℕ) : Type 0 where
  pub name : e.LockName
  pub there : slice_get names number ≡ Some name
  pub same : same_lock x name ≡ true

found_by : (test : Bool) (x y : e.LockName) (xs : List e.LockName) → same_lock y x ≡ test → (number_in xs y < length xs → IsNumberOf xs y (number_in xs y)) →
    cond test 0 (suc (number_in xs y)) < suc (length xs) → IsNumberOf (x ∷ xs) y (cond test 0 (suc (number_in xs y)))
found_by true x y xs e more l = record { name = x; there = refl; same = e }
found_by false x y xs e more l = let r = more (omega (arith, l)) in record { name = r.name; there = r.there; same = r.same }

pub number_found : (names : List e.LockName) (x : e.LockName) → number_in names x < length names → IsNumberOf names x (number_in names x)
number_found [] x l = absurd (omega (arith, l))
number_found (y ∷ ys) x l = found_by (same_lock x y) y x ys refl (number_found ys x) l

-- ---- Where no mutex is in an array

no_key : (key : Option e.Placed) → same_key key None ≡ true → key ≡ None
no_key None h = refl
no_key (Some y) h = cc

-- a name in the table has its mutex for its number, and no key
pub plain_known : (count : ℕ) (x : e.LockName) → number_in (plain_names count) x < count → (number_in (plain_names count) x ≡ x.mutex) × (x.key ≡ None)
plain_known count x low =
    let k = number_in (plain_names count) x in
    let r = number_found (plain_names count) x (omega (arith, low, length-plain_names count)) in
    let at : e.LockName = record { mutex = k; key = None } in
    let name : r.name ≡ at = (let both : Some r.name ≡ Some at = sym r.there ∙ plain_at count k low in cc) in
    let same : same_lock x at ≡ true = ap (same_lock x) (sym name) ∙ r.same in
    let both = and_true (x.mutex == k) (same_key x.key None) same in
    (sym (eqb-true x.mutex k both.0), no_key x.key both.1)

-- ---- What an assignment of a local leaves

module _ (ls : List ℤ) (local : ℕ) (n : ℤ) (vs : List (List ℤ)) where
  abbrev names_it : ℕ → Bool
  names_it other = other == local

  left_free : (xs ys : List ℕ) → list_any names_it (xs ++ ys) ≡ false → (list_any names_it xs ≡ false) × (list_any names_it ys ≡ false)
  left_free xs ys h = or_parts (list_any names_it xs) (list_any names_it ys) (sym (list_any-append names_it xs ys) ∙ h)

  unequal : (a : ℕ) → (a == local) ≡ false → a ≡ local → ⊥
  unequal a h = grind (arith, nat_tests, h)

  -- an expression that doesn't read the local has the value that it had
  pub value_unread : (x : e.Expr) → list_any names_it (expr_locals x) ≡ false → value (slice_set ls local n) vs x ≡ value ls vs x
  value_unread (e.Constant x) h = refl
  value_unread (e.Local other k) h =
      ap (typed k) (get_or-set_other ls local other n (pos 0) (unequal other (or_parts (other == local) false h).0))
  value_unread (e.Variable place v k) h = refl
  value_unread (e.Element place v k index_place index) h = ap (λ (i : Typed). typed k (element_number vs v (element_at i))) (value_unread index h)
  value_unread (e.Address v index_place x) h = ap reference_to (value_unread x h)
  value_unread (e.Referent place last other) h =
      ap referent (get_or-set_other ls local other n (pos 0) (unequal other (or_parts (other == local) false h).0))
  value_unread (e.Unary operator x) h = ap (unary_of operator) (value_unread x h)
  value_unread (e.Cast k x) h = ap (λ (y : Typed). converted y k) (value_unread x h)
  value_unread (e.Converted k x) h = ap (λ (y : Typed). converted y k) (value_unread x h)
  value_unread (e.Binary operator x y) h =
      let p = left_free (expr_locals x) (expr_locals y) h in
      ap₂ (binary_of operator) (value_unread x p.0) (value_unread y p.1)
  value_unread (e.Conditional k x y z) h =
      let p = left_free (expr_locals x ++ expr_locals y) (expr_locals z) h in
      let q = left_free (expr_locals x) (expr_locals y) p.0 in
      let pick : Typed → Typed → Typed → Typed = λ c a b. converted (if is_zero c.number then b else a) k in
      ap (λ (c : Typed). pick c (value (slice_set ls local n) vs y) (value (slice_set ls local n) vs z)) (value_unread x q.0)
      ∙ ap₂ (pick (value ls vs x)) (value_unread y q.1) (value_unread z p.1)

number_by : (ls : List ℤ) (local : ℕ) (n : ℤ) (m : ℕ) (key : Option e.Placed) →
    list_any (λ (other : ℕ). other == local) (key_locals (record { mutex = m; key = key })) ≡ false →
    lock_number (slice_set ls local n) (record { mutex = m; key = key }) ≡ lock_number ls (record { mutex = m; key = key })
number_by ls local n m None h = refl
number_by ls local n m (Some key) h = ap (λ (v : Typed). let r : ℕ = m + element_at v in r) (value_unread ls local n [] key.expr h)

-- a name whose key doesn't read the local has the lock that it had
pub number_unread : (ls : List ℤ) (local : ℕ) (n : ℤ) (x : e.LockName) → list_any (λ (other : ℕ). other == local) (key_locals x) ≡ false →
    lock_number (slice_set ls local n) x ≡ lock_number ls x
number_unread ls local n x h = number_by ls local n x.mutex x.key h

none_of : {X : Type 0} (test : Bool) (x : X) (o : Option X) → cond test (Some x) o ≡ None → (test ≡ false) × (o ≡ None)
none_of true x o h = cc
none_of false x o h = (refl, h)

-- what no held name passes, none of a number that is held does
unpassed : (p : e.LockName → Bool) (names : List e.LockName) (h : Held) (k : ℕ) (x : e.LockName) → find p (held_names names h) ≡ None →
    slice_get names k ≡ Some x → holds h k ≡ true → p x ≡ false
unpassed p [] h k x f g t = cc
unpassed p (y ∷ ys) [] k x f g t = cc
unpassed p (y ∷ ys) (true ∷ h) zero x f g t =
    let is : y ≡ x = cc in
    ap p (sym is) ∙ (none_of (p y) y (find p (held_names ys h)) f).0
unpassed p (y ∷ ys) (false ∷ h) zero x f g t = cc
unpassed p (y ∷ ys) (true ∷ h) (suc k) x f g t = unpassed p ys h k x (none_of (p y) y (find p (held_names ys h)) f).1 g t
unpassed p (y ∷ ys) (false ∷ h) (suc k) x f g t = unpassed p ys h k x f g t

-- the local that is assigned is in no held key: each held name has the lock that it had
pub held_number_stays : (names : List e.LockName) (h : Held) (ls : List ℤ) (local : ℕ) (n : ℤ) (k : ℕ) (x : e.LockName) → freezing names h local ≡ None →
    slice_get names k ≡ Some x → holds h k ≡ true → lock_number (slice_set ls local n) x ≡ lock_number ls x
held_number_stays names h ls local n k x f g t =
    number_unread ls local n x (unpassed (λ (y : e.LockName). list_any (λ (other : ℕ). other == local) (key_locals y)) names h k x f g t)
