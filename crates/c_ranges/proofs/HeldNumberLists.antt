-- What a run keeps: lists whose parts are held by their kinds, and statements that are left.
use Rattle.std.proofs.Common.{◌≡◌, refl, sym, ap, subst, ℕ, zero, suc, ◌<◌, List, [], ◌∷◌, ◌++◌, length}
use Rattle.std.proofs.Common.{Bool, true, false, Option, Some, None, arith, slice_index_or, slice_set}
use Rattle.std.specs.Prelude.{ℤ, pos, slice_get, replicate, map, if◌then◌else◌, is_some}
use Rattle.std.specs.List.{AllByRecursion, AllZip}
use Rattle.std.proofs.lemmas.Option.{none-some, same_Some}
use Rattle.ido_base.specs.declared.place.Place.{Place}
use Rattle.ido_ints.specs.declared.kinds.Kind.{Kind}
use Rattle.ido_ints.specs.Kinds.{Holds}
use Rattle.ido_ints.proofs.Public.{Holds-zero}
use Rattle.c_tree.specs.Exprs as e
use Rattle.c_tree.specs.Programs.{Variable}
use Rattle.c_tree.specs.Flats as f
use Rattle.c_tree.specs.Ranges.{elements_of}
use Rattle.c_tree.specs.Source.{opened, opened_all, tested}
use Rattle.c_tree.specs.Values.{value, element_number, element_at}
use Rattle.c_tree.specs.WellFormed.{elements_in, IsDeclared, IsExpr, IsFlatStatement, AreFlatStatements, AreFlatArms}
use Rattle.c_ranges.specs.Laws.{AllHeld, AreFollowed}
use Rattle.c_ranges.specs.RunInvariants.{AreNumbersOf, IsStatementLeft}

-- ---- Two lists, one against the other

module _ {A B : Type 0} (R : A → B → Type 0) where
  pub zip_at : (xs : List A) (ys : List B) (k : ℕ) (x : A) (d : B) → AllZip R xs ys → slice_get xs k ≡ Some x → R x (slice_index_or ys k d)
  zip_at [] ys k x d h g = absurd (none-some x g)
  zip_at (z ∷ xs) [] k x d h g = absurd h
  zip_at (z ∷ xs) (y ∷ ys) zero x d h g = subst (λ (w : A). R w y) (same_Some z x g) h.0
  zip_at (z ∷ xs) (y ∷ ys) (suc k) x d h g = zip_at xs ys k x d h.1 g

  pub zip_set : (xs : List A) (ys : List B) (k : ℕ) (x : A) (y : B) → AllZip R xs ys → slice_get xs k ≡ Some x → R x y → AllZip R xs (slice_set ys k y)
  zip_set [] ys k x y h g r = absurd (none-some x g)
  zip_set (z ∷ xs) [] k x y h g r = absurd h
  zip_set (z ∷ xs) (w ∷ ys) zero x y h g r = (subst (λ (v : A). R v y) (sym (same_Some z x g)) r, h.1)
  zip_set (z ∷ xs) (w ∷ ys) (suc k) x y h g r = (h.0, zip_set xs ys k x y h.1 g r)

  -- the first of a pair
  pub record Pair (xs : List A) (k : ℕ) (y : B) : Type 0 where
    pub it : A
    pub found : slice_get xs k ≡ Some it
    pub related : R it y

  pub zip_found : (xs : List A) (ys : List B) (k : ℕ) (y : B) → AllZip R xs ys → slice_get ys k ≡ Some y → Pair xs k y
  zip_found [] [] k y h g = absurd (none-some y g)
  zip_found [] (w ∷ ys) k y h g = absurd h
  zip_found (z ∷ xs) [] k y h g = absurd h
  zip_found (z ∷ xs) (w ∷ ys) zero y h g = record { it = z; found = refl; related = subst (R z) (same_Some w y g) h.0 }
  zip_found (z ∷ xs) (w ∷ ys) (suc k) y h g = let p = zip_found xs ys k y h.1 g in record { it = p.it; found = p.found; related = p.related }

  pub zip_map : (g : A → B) (P : A → Type 0) → ((x : A) → P x → R x (g x)) → (xs : List A) → AllByRecursion P xs → AllZip R xs (map g xs)
  zip_map g P k [] h = tt
  zip_map g P k (x ∷ xs) h = (k x h.0, zip_map g P k xs h.1)

pub all_append : {A : Type 0} (P : A → Type 0) (xs ys : List A) → AllByRecursion P xs → AllByRecursion P ys → AllByRecursion P (xs ++ ys)
all_append P [] ys h k = k
all_append P (x ∷ xs) ys h k = (h.0, all_append P xs ys h.1 k)

-- ---- Numbers of a kind

pub held_at : (k : Kind) (ns : List ℤ) (i : ℕ) → AllByRecursion (Holds k) ns → Holds k (slice_index_or ns i (pos 0))
held_at k [] i h = Holds-zero k
held_at k (n ∷ ns) zero h = h.0
held_at k (n ∷ ns) (suc i) h = held_at k ns i h.1

pub held_set : (k : Kind) (ns : List ℤ) (i : ℕ) (n : ℤ) → AllByRecursion (Holds k) ns → Holds k n → AllByRecursion (Holds k) (slice_set ns i n)
held_set k [] i n h g = tt
held_set k (z ∷ ns) zero n h g = (g, h.1)
held_set k (z ∷ ns) (suc i) n h g = (h.0, held_set k ns i n h.1 g)

pub zeros_held : (ks : List Kind) → AllZip Holds ks (replicate (length ks) (pos 0))
zeros_held [] = tt
zeros_held (k ∷ ks) = (Holds-zero k, zeros_held ks)

-- ---- Expressions

module _ (vs : List Variable) (ks : List Kind) (ls : List ℤ) (ns : List (List ℤ)) (locals : AllZip Holds ks ls) (variables : AllZip AreNumbersOf vs ns) where
  element_held : (variable i : ℕ) (kind : Kind) (is_array : Bool) → IsDeclared vs variable kind is_array → Holds kind (element_number ns variable i)
  element_held variable i kind is_array d =
      subst (λ (k : Kind). Holds k (element_number ns variable i)) d.kind
      (held_at d.it.kind (slice_index_or ns variable []) i (zip_at AreNumbersOf vs ns variable d.it [] variables d.found).held)

  -- whatever it names is of its kind, where what it follows refers to elements
  pub all_held : (x : e.Expr) → IsExpr vs ks x → AreFollowed ls x → AllHeld ls ns x
  all_held (e.Constant x) h g = tt
  all_held (e.Local local kind) h g = zip_at Holds ks ls local kind (pos 0) locals h
  all_held (e.Variable place variable kind) h g = element_held variable 0 kind false h
  all_held (e.Element place variable kind index_place index) h g =
      (element_held variable (element_at (value ls ns index)) kind true h.0, all_held index h.1 g)
  all_held (e.Address variable index_place index) h g = all_held index h.1 g
  all_held (e.Referent place last local) h g = g
  all_held (e.Unary op operand) h g = all_held operand h g
  all_held (e.Cast kind operand) h g = all_held operand h g
  all_held (e.Converted kind operand) h g = all_held operand h g
  all_held (e.Binary op left right) h g = (all_held left h.0 g.0, all_held right h.1 g.1)
  all_held (e.Conditional kind condition chosen otherwise) h g = (all_held condition h.0 g.0, all_held chosen h.1 g.1, all_held otherwise h.2 g.2)

-- ---- How many elements there are

pub one_element : (n : Option ℕ) → is_some n ≡ false → 0 < elements_in n
one_element None h = omega arith
one_element (Some n) h = cc

elements_some : (n : Option ℕ) → is_some n ≡ true → ◌≡◌ {A = ℕ} (elim n [ Some k ↦ k | None ↦ 0 ]) (elements_in n)
elements_some None h = cc
elements_some (Some n) h = refl

pub elements_is : (vs : List Variable) (variable : ℕ) (it : Variable) → slice_get vs variable ≡ Some it → is_some it.length ≡ true →
    elements_of vs variable ≡ elements_in it.length
elements_is vs variable it found array =
    let at : elements_of vs variable ≡ (elim it.length [ Some k ↦ k | None ↦ 0 ]) = ap
    (λ (o : Option Variable). elim o as (λ _. ℕ) [ Some v ↦ elim v.length as (λ _. ℕ) [ Some n ↦ n | None ↦ 0 ] | None ↦ 0 ]) found in
    subst (λ (n : ℕ). elements_of vs variable ≡ n) (elements_some it.length array) at

-- ---- Statements

module _ (x : f.Flat) (ks : List Kind) where
  mutual
    left_opened : (y : f.Statement) → IsFlatStatement x ks y → AllByRecursion (IsStatementLeft x ks) (opened y)
    left_opened (f.Assign place target value) h = ((tt, h), tt)
    left_opened (f.If place arms otherwise) h = ((tt, h), tt)
    left_opened (f.While place condition body) h = ((tt, h), tt)
    left_opened (f.Do place body condition) h =
        all_append (IsStatementLeft x ks) (opened_all body) (f.While place condition body ∷ []) (left_opened_all body h.0)
        ((tt, (h.1, h.0)), tt)
    left_opened (f.Lock place name) h = ((tt, h), tt)
    left_opened (f.Unlock place name) h = ((tt, h), tt)

    pub left_opened_all : (ys : f.Statements) → AreFlatStatements x ks ys → AllByRecursion (IsStatementLeft x ks) (opened_all ys)
    left_opened_all f.no_statement h = tt
    left_opened_all (f.statement_and y rest) h = all_append (IsStatementLeft x ks) (opened y) (opened_all rest) (left_opened y h.0) (left_opened_all rest h.1)

  -- after the first test of an `if`
  pub left_tested : (b : Bool) (place : Place) (body : f.Statements) (arms : f.Arms) (otherwise : f.Statements) → AreFlatStatements x ks body →
      AreFlatArms x ks arms → AreFlatStatements x ks otherwise →
      AllByRecursion (IsStatementLeft x ks) (tested b (opened_all body) (f.If place arms otherwise ∷ []) (opened_all otherwise) arms)
  left_tested true place body arms otherwise h k l = left_opened_all body h
  left_tested false place body f.no_arm otherwise h k l = left_opened_all otherwise l
  left_tested false place body (f.arm_and condition next rest) otherwise h k l = ((tt, (tt, k, l)), tt)

  -- after the test of a `while`
  pub left_while : (b : Bool) (place : Place) (condition : e.Placed) (body : f.Statements) (rest : List f.Statement) →
      AllByRecursion (IsStatementLeft x ks) (f.While place condition body ∷ rest) →
      AllByRecursion (IsStatementLeft x ks) (if b then opened_all body ++ (f.While place condition body ∷ rest) else rest)
  left_while true place condition body rest h = all_append (IsStatementLeft x ks) (opened_all body) (f.While place condition body ∷ rest)
      (left_opened_all body h.0.1.1) h
  left_while false place condition body rest h = h.1
