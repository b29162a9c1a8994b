-- What references hold: what is given to one is null or refers to its array, and one that is followed refers to an element.
use Rattle.std.proofs.Common.{◌≡◌, ◌≢◌, refl, sym, ◌∙◌, ap, subst, ℕ, zero, suc, ◌+◌, ◌<◌, ◌≤◌, List, [], ◌∷◌, ◌++◌, Bool, true, false, Option, Some, None}
use Rattle.std.proofs.Common.{arith, slice_index_or, slice_set}
use Rattle.std.specs.Prelude.{ℤ, pos, negsuc, ◌+ℤ◌, ◌≤ℤ◌, slice_get, if◌then◌else◌, unsigned_abs, replicate, length}
use Rattle.std.specs.List.{AllByRecursion, AllZip}
use Rattle.std.proofs.lemmas.Int.{ints}
use Rattle.std.proofs.lemmas.Option.{none-some, same_Some}
use Rattle.ido_base.specs.declared.place.Place.{Place}
use Rattle.ido_base.specs.declared.limits.TheConstants.{MOST_ELEMENTS}
use Rattle.ido_ints.specs.declared.kinds.Kind.{Kind}
use Rattle.ido_ints.specs.declared.kinds.Kind.TheVariants.{UnsignedLong}
use Rattle.ido_ints.specs.Kinds.{Holds}
use Rattle.ido_ints.specs.Reduction.{reduced}
use Rattle.ido_ints.specs.TypedNumbers.{Typed}
use Rattle.ido_ints.proofs.Public.{Holds-zero, reduced_held}
use Rattle.c_tree.specs.Exprs as e
use Rattle.c_tree.specs.Programs.{Mutex, Variable}
use Rattle.c_tree.specs.NullReferences.{is_among, expr_nulls}
use Rattle.c_tree.specs.Ranges.{elements_of}
use Rattle.c_tree.specs.References.{Follows, RefersTo, IsGiven, IsLocalReferring, variable_refers, HasNulls}
use Rattle.c_tree.specs.Values.{value, element_number, element_at, reference_to}
use Rattle.c_tree.specs.WellFormed.{elements_in, IsExpr, Fits, IsVariable}
use Rattle.c_tree.proofs.Public.{left_empty, right_empty}
use Rattle.c_ranges.specs.Laws.{AreFollowed, IsNullOrReference, IsReference}
use Rattle.c_ranges.specs.RunInvariants.{AreNumbersOf, RefersSo, AreElementsReferring}
use Rattle.c_ranges.proofs.HeldNumberLists.{all_held, zip_at}
use Rattle.c_ranges.proofs.ValuesInRanges.{fits_element}

-- ---- Null

null_number : (elements : ℕ) → IsNullOrReference elements (pos 0)
null_number elements = record { held = Holds-zero UnsignedLong; names = record { from_low = omega (arith, ints); to_high = omega (arith, ints) } }

pub zero_refers : (vs : List Variable) (refers : Option ℕ) → RefersSo vs refers (pos 0)
zero_refers vs None = tt
zero_refers vs (Some array) = null_number (elements_of vs array)

pub zeros_refer : (vs : List Variable) (rs : List (Option ℕ)) (ks : List Kind) → AllZip IsLocalReferring ks rs →
    AllZip (RefersSo vs) rs (replicate (length ks) (pos 0))
zeros_refer vs [] [] h = tt
zeros_refer vs (r ∷ rs) [] h = absurd h
zeros_refer vs [] (k ∷ ks) h = absurd h
zeros_refer vs (r ∷ rs) (k ∷ ks) h = (zero_refers vs r, zeros_refer vs rs ks h.1)

nulls_refer : (vs : List Variable) (array : ℕ) (ns : List ℤ) → AllByRecursion (λ (n : ℤ). n ≡ pos 0) ns → AllByRecursion (RefersSo vs (Some array)) ns
nulls_refer vs array [] h = tt
nulls_refer vs array (n ∷ ns) h = (subst (RefersSo vs (Some array)) (sym h.0) (zero_refers vs (Some array)), nulls_refer vs array ns h.1)

numbers_refer : (vs : List Variable) (ns : List ℤ) → AllByRecursion (RefersSo vs None) ns
numbers_refer vs [] = tt
numbers_refer vs (n ∷ ns) = (tt, numbers_refer vs ns)

-- the elements of a variable begin so
pub initial_refer : (vs : List Variable) (v : Variable) (refers : Option ℕ) → HasNulls refers v → AllByRecursion (RefersSo vs refers) v.initial
initial_refer vs v None h = numbers_refer vs v.initial
initial_refer vs v (Some array) h = nulls_refer vs array v.initial h.1

-- ---- Lists

refers_at : (vs : List Variable) (refers : Option ℕ) (ns : List ℤ) (i : ℕ) → AllByRecursion (RefersSo vs refers) ns →
    RefersSo vs refers (slice_index_or ns i (pos 0))
refers_at vs refers [] i h = zero_refers vs refers
refers_at vs refers (n ∷ ns) zero h = h.0
refers_at vs refers (n ∷ ns) (suc i) h = refers_at vs refers ns i h.1

pub refers_set : (vs : List Variable) (refers : Option ℕ) (ns : List ℤ) (i : ℕ) (n : ℤ) → AllByRecursion (RefersSo vs refers) ns → RefersSo vs refers n →
    AllByRecursion (RefersSo vs refers) (slice_set ns i n)
refers_set vs refers [] i n h g = tt
refers_set vs refers (z ∷ ns) zero n h g = (g, h.1)
refers_set vs refers (z ∷ ns) (suc i) n h g = (h.0, refers_set vs refers ns i n h.1 g)

-- what a local refers to, and its number
local_number : (vs : List Variable) (rs : List (Option ℕ)) (ls : List ℤ) (local : ℕ) → AllZip (RefersSo vs) rs ls →
    RefersSo vs (slice_index_or rs local None) (slice_index_or ls local (pos 0))
local_number vs [] [] local h = tt
local_number vs [] (n ∷ ls) local h = absurd h
local_number vs (r ∷ rs) [] local h = absurd h
local_number vs (r ∷ rs) (n ∷ ls) zero h = h.0
local_number vs (r ∷ rs) (n ∷ ls) (suc local) h = local_number vs rs ls local h.1

-- of a local of a kind what it refers to
pub record IsReferringLocal (rs : List (Option ℕ)) (local : ℕ) (kind : Kind) : Type 0 where
  pub refers : Option ℕ
  pub found : slice_get rs local ≡ Some refers
  pub right : IsLocalReferring kind refers

pub local_refers_right : (ks : List Kind) (rs : List (Option ℕ)) (local : ℕ) (kind : Kind) → AllZip IsLocalReferring ks rs → slice_get ks local ≡ Some kind →
    IsReferringLocal rs local kind
local_refers_right [] rs local kind h e = absurd (none-some kind e)
local_refers_right (k ∷ ks) [] local kind h e = absurd h
local_refers_right (k ∷ ks) (r ∷ rs) zero kind h e =
    record { refers = r; found = refl; right = subst (λ (j : Kind). IsLocalReferring j r) (same_Some k kind e) h.0 }
local_refers_right (k ∷ ks) (r ∷ rs) (suc local) kind h e =
    let it = local_refers_right ks rs local kind h.1 e in record { refers = it.refers; found = it.found; right = it.right }

pub refers_found : (rs : List (Option ℕ)) (local : ℕ) (r : Option ℕ) → slice_get rs local ≡ Some r → slice_index_or rs local None ≡ r
refers_found [] local r e = absurd (none-some r e)
refers_found (s ∷ rs) zero r e = same_Some s r e
refers_found (s ∷ rs) (suc local) r e = refers_found rs local r e

-- ---- Elements

-- the numbers of a variable, by what it refers to
element_by : (ws us : List Variable) (ms : List (List ℤ)) (variable i : ℕ) → AllZip (AreElementsReferring ws) us ms →
    RefersSo ws (variable_refers us variable) (element_number ms variable i)
element_by ws [] [] variable i h = tt
element_by ws [] (m ∷ ms) variable i h = absurd h
element_by ws (u ∷ us) [] variable i h = absurd h
element_by ws (u ∷ us) (m ∷ ms) zero i h = refers_at ws u.refers m i h.0
element_by ws (u ∷ us) (m ∷ ms) (suc variable) i h = element_by ws us ms variable i h.1

-- ---- Numbers of references

-- a number that is null or a reference is the same as an `unsigned long`
pub reference_same : (elements : ℕ) (n : ℤ) → IsNullOrReference elements n → IsNullOrReference elements (reduced UnsignedLong n)
reference_same elements n h = subst (IsNullOrReference elements) (sym (reduced_held UnsignedLong n h.held)) h

-- the reference to the element of an index among so many
address_number : (elements : ℕ) (index : Typed) → pos 0 ≤ℤ index.number → element_at index < elements → elements ≤ MOST_ELEMENTS →
    IsNullOrReference elements (reference_to index).number
address_number elements index low below most = by index.number refl low below
  where
    one : reduced UnsignedLong (pos 1) ≡ pos 1
    one = reduced_held UnsignedLong (pos 1) (record { from_least = omega (arith, ints); to_greatest = omega (arith, ints) })

    by : (z : ℤ) → index.number ≡ z → pos 0 ≤ℤ z → unsigned_abs z < elements → IsNullOrReference elements (reference_to index).number
    by (negsuc k) is l b = absurd (omega (arith, ints))
    by (pos k) is l b =
        let own : reduced UnsignedLong (pos k) ≡ pos k =
        reduced_held UnsignedLong (pos k) (record { from_least = omega (arith, ints); to_greatest = omega (arith, ints, b, most) }) in
        let twice : reduced UnsignedLong (reduced UnsignedLong (pos k)) ≡ pos k = ap (λ (n : ℤ). reduced UnsignedLong n) own ∙ own in
        let sum : k + 1 ≡ suc k = omega arith in
        let more : reduced UnsignedLong (pos k +ℤ pos 1) ≡ pos (suc k) =
        ap (λ (n : ℕ). reduced UnsignedLong (pos n)) sum
        ∙ reduced_held UnsignedLong (pos (suc k)) (record { from_least = omega (arith, ints); to_greatest = omega (arith, ints, b, most) }) in
        let given : reduced UnsignedLong (reduced UnsignedLong (reduced UnsignedLong (pos k)) +ℤ reduced UnsignedLong (pos 1)) ≡
        reduced UnsignedLong (pos k +ℤ pos 1) =
        λ i. reduced UnsignedLong (twice i +ℤ one i) in
        let whole : (reference_to index).number ≡ pos (suc k) =
        ap (λ (n : ℤ). reduced UnsignedLong (reduced UnsignedLong (reduced UnsignedLong n) +ℤ reduced UnsignedLong (pos 1))) is ∙ (given ∙ more) in
        subst (IsNullOrReference elements) (sym whole) (record {
          held = record { from_least = omega (arith, ints); to_greatest = omega (arith, ints, b, most) };
          names = record { from_low = omega (arith, ints); to_high = omega (arith, ints, b) };
        })

-- arrays are no longer than they may be
short_array : (o : Option ℕ) → elements_in o ≤ MOST_ELEMENTS → ◌≤◌ (elim o as (λ _. ℕ) [ Some n ↦ n | None ↦ 0 ]) MOST_ELEMENTS
short_array None h = omega arith
short_array (Some n) h = h

pub few_elements : (ms : List Mutex) (vs : List Variable) (variable : ℕ) → AllByRecursion (IsVariable ms) vs → elements_of vs variable ≤ MOST_ELEMENTS
few_elements ms [] variable h = omega arith
few_elements ms (v ∷ vs) zero h = short_array v.length h.0.not_too_long
few_elements ms (v ∷ vs) (suc variable) h = few_elements ms vs variable h.1

-- ---- Expressions

module _ (ms : List Mutex) (vs : List Variable) (ks : List Kind) (rs : List (Option ℕ)) (ls : List ℤ) (ns : List (List ℤ))
    (formed : AllByRecursion (IsVariable ms) vs) (locals : AllZip Holds ks ls) (variables : AllZip AreNumbersOf vs ns)
    (own : AllZip (RefersSo vs) rs ls) (elements : AllZip (AreElementsReferring vs) vs ns) where
  -- what is given to a reference
  pub given_number : (array : ℕ) (x : e.Expr) → IsExpr vs ks x → Fits vs x → AreFollowed ls x → RefersTo vs rs array x →
      IsNullOrReference (elements_of vs array) (value ls ns x).number
  given_number array (e.Constant z) f g k h = subst (IsNullOrReference (elements_of vs array)) (sym h) (null_number (elements_of vs array))
  given_number array (e.Local local kind) f g k h =
      subst (λ (o : Option ℕ). RefersSo vs o (slice_index_or ls local (pos 0))) h (local_number vs rs ls local own)
  given_number array (e.Variable place variable kind) f g k h =
      subst (λ (o : Option ℕ). RefersSo vs o (element_number ns variable 0)) h (element_by vs vs ns variable 0 elements)
  given_number array (e.Element place variable kind index_place index) f g k h =
      let i = element_at (value ls ns index) in
      subst (λ (o : Option ℕ). RefersSo vs o (element_number ns variable i)) h (element_by vs vs ns variable i elements)
  given_number array (e.Address variable index_place index) f g k h =
      let named = fits_element (elements_of vs variable) index g.0 ls ns (all_held vs ks ls ns locals variables index f.1 k) in
      subst (λ (a : ℕ). IsNullOrReference (elements_of vs a) (reference_to (value ls ns index)).number) h
      (address_number (elements_of vs variable) (value ls ns index) named.from_zero named.below (few_elements ms vs variable formed))
  given_number array (e.Referent place last local) f g k h = absurd h
  given_number array (e.Unary operator operand) f g k h = absurd h
  given_number array (e.Cast kind operand) f g k h = absurd h
  given_number array (e.Converted kind operand) f g k h =
      subst (λ (j : Kind). IsNullOrReference (elements_of vs array) (reduced j (value ls ns operand).number)) (sym h.0)
      (reference_same (elements_of vs array) (value ls ns operand).number (given_number array operand f g k h.1))
  given_number array (e.Binary operator left right) f g k h = absurd h
  given_number array (e.Conditional kind condition chosen otherwise) f g k h = absurd h

  -- a number that a target gets which refers so
  pub given_refers : (refers : Option ℕ) (kind : Kind) (x : e.Expr) → IsLocalReferring kind refers → IsExpr vs ks x → Fits vs x → AreFollowed ls x →
      IsGiven vs rs refers x → RefersSo vs refers (reduced kind (value ls ns x).number)
  given_refers None kind x right f g k h = tt
  given_refers (Some array) kind x right f g k h =
      subst (λ (j : Kind). IsNullOrReference (elements_of vs array) (reduced j (value ls ns x).number)) (sym right)
      (reference_same (elements_of vs array) (value ls ns x).number (given_number array x f g k h))

-- ---- What is followed

not_null : (elements : ℕ) (n : ℤ) → IsNullOrReference elements n → n ≢ pos 0 → (last : ℕ) → elements ≡ suc last → IsReference last n
not_null elements n h some last long = by n h some
  where
    by : (z : ℤ) → IsNullOrReference elements z → z ≢ pos 0 → IsReference last z
    by (pos zero) k other = absurd (other refl)
    by (pos (suc i)) k other =
        let high = k.names.to_high in
        record { held = k.held; names = record { from_low = omega (arith, ints); to_high = omega (arith, ints, high, long) } }
    by (negsuc i) k other = let low = k.names.from_low in absurd (omega (arith, ints, low))

module _ (vs : List Variable) (rs : List (Option ℕ)) (ls : List ℤ) (own : AllZip (RefersSo vs) rs ls) (known : List ℕ)
    (some : (local : ℕ) → is_among known local ≡ true → slice_index_or ls local (pos 0) ≢ pos 0) where
  pub followed : (x : e.Expr) → Follows vs rs x → expr_nulls known x ≡ [] → AreFollowed ls x
  followed (e.Constant z) h k = tt
  followed (e.Local local kind) h k = tt
  followed (e.Variable place variable kind) h k = tt
  followed (e.Element place variable kind index_place index) h k = followed index h k
  followed (e.Address variable index_place index) h k = followed index h k
  followed (e.Referent place last local) h k = by (is_among known local) refl k
    where
      by : (c : Bool) → is_among known local ≡ c → ◌≡◌ {A = List Place} (if c then [] else place ∷ []) [] → IsReference last (slice_index_or ls local (pos 0))
      by true is none =
          let number = zip_at (RefersSo vs) rs ls local (Some h.variable) (pos 0) own h.refers in
          not_null (elements_of vs h.variable) (slice_index_or ls local (pos 0)) number (some local is) last h.length
      by false is none = absurd (cc)
  followed (e.Unary operator operand) h k = followed operand h k
  followed (e.Cast kind operand) h k = followed operand h k
  followed (e.Converted kind operand) h k = followed operand h k
  followed (e.Binary operator left right) h k = (
    followed left h.0 (left_empty (expr_nulls known left) (expr_nulls known right) k),
    followed right h.1 (right_empty (expr_nulls known left) (expr_nulls known right) k),
  )
  followed (e.Conditional kind condition chosen otherwise) h k =
      let first = left_empty (expr_nulls known condition ++ expr_nulls known chosen) (expr_nulls known otherwise) k in (
        followed condition h.0 (left_empty (expr_nulls known condition) (expr_nulls known chosen) first),
        followed chosen h.1 (right_empty (expr_nulls known condition) (expr_nulls known chosen) first),
        followed otherwise h.2 (right_empty (expr_nulls known condition ++ expr_nulls known chosen) (expr_nulls known otherwise) k),
      )

-- a key follows none
pub key_followed : (ls : List ℤ) (x : e.Expr) → Follows [] [] x → AreFollowed ls x
key_followed ls (e.Constant z) h = tt
key_followed ls (e.Local local kind) h = tt
key_followed ls (e.Variable place variable kind) h = tt
key_followed ls (e.Element place variable kind index_place index) h = key_followed ls index h
key_followed ls (e.Address variable index_place index) h = key_followed ls index h
key_followed ls (e.Referent place last local) h = absurd (none-some (Some h.variable) h.refers)
key_followed ls (e.Unary operator operand) h = key_followed ls operand h
key_followed ls (e.Cast kind operand) h = key_followed ls operand h
key_followed ls (e.Converted kind operand) h = key_followed ls operand h
key_followed ls (e.Binary operator left right) h = (key_followed ls left h.0, key_followed ls right h.1)
key_followed ls (e.Conditional kind condition chosen otherwise) h =
    (key_followed ls condition h.0, key_followed ls chosen h.1, key_followed ls otherwise h.2)
