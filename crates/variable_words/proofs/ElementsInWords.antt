-- Where variables stand in words: each after the ones before it, whole in one word each element.
use Rattle.std.proofs.Common.{◌≡◌, ◌⊎◌, inl, inr, refl, ℕ, zero, suc, ◌+◌, ◌-◌, ◌*◌, ◌%◌, ◌<◌, ◌≤◌, List, [], ◌∷◌, sym, ◌∙◌, ap, subst, arith, Some, ⊎_elim}
use Rattle.std.specs.Prelude.{slice_get, nat_lt}
use Rattle.std.proofs.lemmas.Bool.{cases_lt, cases_eq, cond_both, ltb-false, le-leb, and_from, or_left, eq-eqb}
use Rattle.std.proofs.Math.Nat.{mul-le-mul_left}
use Rattle.ido_base.specs.declared.limits.TheConstants.{MOST_VARIABLE_BYTES}
use Rattle.ido_ints.specs.declared.kinds.Kind.{Kind}
use Rattle.ido_ints.specs.Kinds.{bytes_of}
use Rattle.ido_base.specs.declared.location.Shape.{Shape}
use Rattle.ido_base.specs.Layout.{aligned_up, start_from, end_from, variable_at, variables_base, logs_base, byte_number}
use Rattle.c_tree.specs.Programs.{Variable}
use Rattle.c_tree.specs.WellFormed.{elements_in}
use Rattle.memory_layout.specs.Variables.{HaveRoom}
use Rattle.recovery_semantics.specs.VariableSpots.{Spot, IsAtSpot}
use Rattle.variable_words.proofs.VariableBounds.{shapes, after, by_size, end_grows, start_is, address_is, starts_from, shared_placed}
use Rattle.variable_words.specs.VariablesInWords.{spots_from, spots_of, WellFormedArePlaced, VariablesApart, AddressesReach}

pub well_formed_placed : WellFormedArePlaced
well_formed_placed x h = shared_placed _ _ x.variables h.shared

-- ---- Bytes of variables

aligned_start : (n : ℕ) (vs : List Variable) (v : ℕ) (is : Variable) → slice_get vs v ≡ Some is → start_from n (shapes vs) v % bytes_of is.kind ≡ 0
aligned_start n vs v is h =
    let up : (m : ℕ) → aligned_up m (bytes_of is.kind) % bytes_of is.kind ≡ 0 = λ m.
    by_size (λ b. aligned_up m b % b ≡ 0) (omega arith) (omega arith) (omega arith) (omega arith) is.kind in
    ap (λ (m : ℕ). m % bytes_of is.kind) (start_is n vs v is h) ∙ up _

pub within_end : (n : ℕ) (vs : List Variable) (v : ℕ) (is : Variable) → slice_get vs v ≡ Some is →
    start_from n (shapes vs) v + bytes_of is.kind * elements_in is.length ≤ end_from n (shapes vs)
within_end n [] v is h = cc
within_end n (x ∷ vs) zero is h =
    let same : x ≡ is = cc in
    subst (λ (y : Variable). aligned_up n (bytes_of x.kind) + bytes_of y.kind * elements_in y.length ≤ end_from n (shapes (x ∷ vs))) same
    (end_grows (after n x) vs)
within_end n (x ∷ vs) (suc v) is h = within_end (after n x) vs v is h

before : (n : ℕ) (vs : List Variable) (v i : ℕ) (is other : Variable) → slice_get vs v ≡ Some is → slice_get vs i ≡ Some other → v < i →
    start_from n (shapes vs) v + bytes_of is.kind * elements_in is.length ≤ start_from n (shapes vs) i
before n [] v i is other h k l = cc
before n (x ∷ vs) zero zero is other h k l = absurd (omega (arith, l))
before n (x ∷ vs) zero (suc i) is other h k l =
    let same : x ≡ is = cc in
    subst (λ (y : Variable). aligned_up n (bytes_of x.kind) + bytes_of y.kind * elements_in y.length ≤ start_from n (shapes (x ∷ vs)) (suc i)) same
    (starts_from (after n x) vs i other k)
before n (x ∷ vs) (suc v) zero is other h k l = absurd (omega (arith, l))
before n (x ∷ vs) (suc v) (suc i) is other h k l = before (after n x) vs v i is other h k (omega (arith, l))

-- ---- Spots

abbrev pub spot : List Shape → (number : ℕ) → Variable → Spot
spot ss number v = record { kind = v.kind; start = byte_number (variable_at ss number 0); elements = elements_in v.length }

record IsFound (ss : List Shape) (number : ℕ) (vs : List Variable) (v : ℕ) (s : Spot) : Type 0 where
  is : Variable
  there : slice_get vs v ≡ Some is
  spot_is : s ≡ spot ss (number + v) is

found : (ss : List Shape) (number : ℕ) (vs : List Variable) (v : ℕ) (s : Spot) → slice_get (spots_from ss number vs) v ≡ Some s → IsFound ss number vs v s
found ss number [] v s h = cc
found ss number (x ∷ vs) zero s h =
    let same : spot ss number x ≡ s = cc in
    let none : number ≡ number + 0 = omega arith in
    record { is = x; there = refl; spot_is = sym same ∙ ap (λ (k : ℕ). spot ss k x) none }
found ss number (x ∷ vs) (suc v) s h =
    let f = found ss (number + 1) vs v s h in
    let more : number + 1 + v ≡ number + suc v = omega arith in
    record { is = f.is; there = f.there; spot_is = f.spot_is ∙ ap (λ (k : ℕ). spot ss k f.is) more }

pub spot_there : (ss : List Shape) (number : ℕ) (vs : List Variable) (v : ℕ) (is : Variable) → slice_get vs v ≡ Some is →
    slice_get (spots_from ss number vs) v ≡ Some (spot ss (number + v) is)
spot_there ss number [] v is h = cc
spot_there ss number (x ∷ vs) zero is h =
    let same : x ≡ is = cc in
    let none : number ≡ number + 0 = omega arith in
    λ i. Some (spot ss (none i) (same i))
spot_there ss number (x ∷ vs) (suc v) is h =
    let more : number + 1 + v ≡ number + suc v = omega arith in
    spot_there ss (number + 1) vs v is h ∙ ap (λ (k : ℕ). Some (spot ss k is)) more

-- the number of a byte of the variables
pub variable_byte : (n : ℕ) → n ≤ MOST_VARIABLE_BYTES → byte_number (variables_base + n) ≡ n
variable_byte n l =
    cond_both (nat_lt (variables_base + n) logs_base) (variables_base + n - variables_base) (MOST_VARIABLE_BYTES + (variables_base + n - logs_base))
    (λ (r : ℕ). r ≡ n)
    (λ _. omega arith)
    (λ no. absurd (omega (arith, l, ltb-false (variables_base + n) logs_base no)))

pub number_is : (vs : List Variable) (v e : ℕ) (is : Variable) → HaveRoom (shapes vs) → slice_get vs v ≡ Some is → e ≤ elements_in is.length →
    byte_number (variable_at (shapes vs) v e) ≡ start_from 0 (shapes vs) v + bytes_of is.kind * e
number_is vs v e is room h l =
    let a = address_is vs v e is h in
    let few : bytes_of is.kind * e ≤ bytes_of is.kind * elements_in is.length = mul-le-mul_left (bytes_of is.kind) l in
    let place : variable_at (shapes vs) v e ≡ variables_base + (start_from 0 (shapes vs) v + bytes_of is.kind * e) = omega (arith, a) in
    ap byte_number place ∙ variable_byte (start_from 0 (shapes vs) v + bytes_of is.kind * e) (omega (arith, few, room, within_end 0 vs v is h))

-- an element of a variable at its byte
pub record IsPlace (vs : List Variable) (v e : ℕ) (kind : Kind) (number : ℕ) : Type 0 where
  pub is : Variable
  pub there : slice_get vs v ≡ Some is
  pub within : e < elements_in is.length
  pub kind_is : kind ≡ is.kind
  pub place_is : number ≡ start_from 0 (shapes vs) v + bytes_of is.kind * e

pub place : (vs : List Variable) (v e : ℕ) (kind : Kind) (number : ℕ) → HaveRoom (shapes vs) → IsAtSpot (spots_of vs) v e kind number →
    IsPlace vs v e kind number
place vs v e kind number room a =
    let f = found (shapes vs) 0 vs v a.spot a.there in
    let none : 0 + v ≡ v = omega arith in
    let here : a.spot ≡ spot (shapes vs) v f.is = f.spot_is ∙ ap (λ (k : ℕ). spot (shapes vs) k f.is) none in
    record {
      is = f.is;
      there = f.there;
      within = subst (λ (s : Spot). e < s.elements) here a.within;
      kind_is = a.kind_is ∙ ap (λ (s : Spot). s.kind) here;
      place_is =
          let first = number_is vs v 0 f.is room f.there (omega arith) in
          let is : number ≡ byte_number (variable_at (shapes vs) v 0) + bytes_of f.is.kind * e =
          subst (λ (s : Spot). number ≡ s.start + bytes_of s.kind * e) here a.number_is in
          omega (arith, first, is);
    }

-- ---- Apart

in_word : (b n : ℕ) → (b ≡ 1) ⊎ ((b ≡ 2) ⊎ ((b ≡ 4) ⊎ (b ≡ 8))) → n % b ≡ 0 → n % 8 + b ≤ 8
in_word b n (inl e) h = let r : n % 8 + 1 ≤ 8 = omega arith in omega (arith, e, r)
in_word b n (inr (inl e)) h = let z : n % 2 ≡ 0 = subst (λ (c : ℕ). n % c ≡ 0) e h in let r : n % 8 + 2 ≤ 8 = omega (arith, z) in omega (arith, e, r)
in_word b n (inr (inr (inl e))) h = let z : n % 4 ≡ 0 = subst (λ (c : ℕ). n % c ≡ 0) e h in let r : n % 8 + 4 ≤ 8 = omega (arith, z) in omega (arith, e, r)
in_word b n (inr (inr (inr e))) h = let z : n % 8 ≡ 0 = subst (λ (c : ℕ). n % c ≡ 0) e h in let r : n % 8 + 8 ≤ 8 = omega (arith, z) in omega (arith, e, r)

pub is_size : (k : Kind) → (bytes_of k ≡ 1) ⊎ ((bytes_of k ≡ 2) ⊎ ((bytes_of k ≡ 4) ⊎ (bytes_of k ≡ 8)))
is_size k = by_size (λ b. (b ≡ 1) ⊎ ((b ≡ 2) ⊎ ((b ≡ 4) ⊎ (b ≡ 8)))) (inl refl) (inr (inl refl)) (inr (inr (inl refl))) (inr (inr (inr refl))) k

aligned_sum : (k : Kind) (s e : ℕ) → s % bytes_of k ≡ 0 → (s + bytes_of k * e) % bytes_of k ≡ 0
aligned_sum k s e =
    by_size (λ b. s % b ≡ 0 → (s + b * e) % b ≡ 0) (λ h. omega (arith, h)) (λ h. omega (arith, h)) (λ h. omega (arith, h)) (λ h. omega (arith, h)) k

-- an element is aligned, and ends within the variables
pub record IsWhole (kind : Kind) (number : ℕ) : Type 0 where
  pub is_aligned : number % bytes_of kind ≡ 0
  pub in_word : number % 8 + bytes_of kind ≤ 8
  pub ends : number + bytes_of kind ≤ MOST_VARIABLE_BYTES

pub next_element : (b e count : ℕ) → e < count → b * e + b ≤ b * count
next_element b e count l =
    let more : b * (e + 1) ≤ b * count = mul-le-mul_left b (omega (arith, l)) in
    omega (arith, more)

pub element_whole : (vs : List Variable) (v e : ℕ) (is : Variable) → HaveRoom (shapes vs) → slice_get vs v ≡ Some is → e < elements_in is.length →
    IsWhole is.kind (start_from 0 (shapes vs) v + bytes_of is.kind * e)
element_whole vs v e is room h l =
    let zero = aligned_sum is.kind (start_from 0 (shapes vs) v) e (aligned_start 0 vs v is h) in
    record {
      is_aligned = zero;
      in_word = in_word (bytes_of is.kind) (start_from 0 (shapes vs) v + bytes_of is.kind * e) (is_size is.kind) zero;
      ends = omega (arith, room, within_end 0 vs v is h, next_element (bytes_of is.kind) e (elements_in is.length) l);
    }

place_whole : (vs : List Variable) (v e : ℕ) (kind : Kind) (number : ℕ) → HaveRoom (shapes vs) → IsPlace vs v e kind number → IsWhole kind number
place_whole vs v e kind number room p =
    subst (λ (k : Kind). IsWhole k number) (sym p.kind_is)
    (subst (λ (n : ℕ). IsWhole p.is.kind n) (sym p.place_is) (element_whole vs v e p.is room p.there p.within))

pub at_whole : (vs : List Variable) (v e : ℕ) (kind : Kind) (number : ℕ) → HaveRoom (shapes vs) → IsAtSpot (spots_of vs) v e kind number → IsWhole kind number
at_whole vs v e kind number room a = place_whole vs v e kind number room (place vs v e kind number room a)

-- the first of two different elements ends where the second begins or before
places_apart : (vs : List Variable) (v e i j : ℕ) (kind other : Kind) (number at : ℕ) → IsPlace vs v e kind number → IsPlace vs i j other at →
    (v < i) ⊎ ((v ≡ i) × (e < j)) → number + bytes_of kind ≤ at
places_apart vs v e i j kind other number at p q (inl l) =
    let size : bytes_of kind ≡ bytes_of p.is.kind = ap bytes_of p.kind_is in
    let next = next_element (bytes_of p.is.kind) e (elements_in p.is.length) p.within in
    omega (arith, size, p.place_is, q.place_is, before 0 vs v i p.is q.is p.there q.there l, next)
places_apart vs v e i j kind other number at p q (inr l) =
    let size : bytes_of kind ≡ bytes_of p.is.kind = ap bytes_of p.kind_is in
    let there : slice_get vs v ≡ Some q.is = ap (slice_get vs) l.0 ∙ q.there in
    let some : Some p.is ≡ Some q.is = sym p.there ∙ there in
    let same : p.is ≡ q.is = cc in
    let start : start_from 0 (shapes vs) v ≡ start_from 0 (shapes vs) i = ap (start_from 0 (shapes vs)) l.0 in
    let after_it : bytes_of q.is.kind * j ≡ bytes_of p.is.kind * j = ap (λ (y : Variable). bytes_of y.kind * j) (sym same) in
    omega (arith, size, p.place_is, q.place_is, start, after_it, next_element (bytes_of p.is.kind) e j l.1)

pub variables_apart : VariablesApart
variables_apart vs words room size = record {
  whole = λ v e kind number a.
      let w = at_whole vs v e kind number room a in
      (w.in_word, omega (arith, w.ends, w.in_word, size, some kind));
  apart = λ v e i j kind other number at a b differs.
      let p = place vs v e kind number room a in
      let q = place vs i j other at room b in
      ⊎_elim
      (λ l. inr (places_apart vs v e i j kind other number at p q (inl l)))
      (λ g. ⊎_elim
      (λ same. ⊎_elim
      (λ l. inr (places_apart vs v e i j kind other number at p q (inr (same, l))))
      (λ m. ⊎_elim
      (λ equal. absurd (differs same equal))
      (λ n. inl (places_apart vs i j v e other kind at number q p (inr (sym same, omega (arith, m, n)))))
      (cases_eq e j))
      (cases_lt e j))
      (λ n. inl (places_apart vs i j v e other kind at number q p (inl (omega (arith, g, n)))))
      (cases_eq v i))
      (cases_lt v i);
}
  where
    some : (k : Kind) → 0 < bytes_of k
    some k = by_size (λ b. 0 < b) (omega arith) (omega arith) (omega arith) (omega arith) k

-- ---- Accesses

base_aligned : (k : Kind) (n : ℕ) → n % bytes_of k ≡ 0 → (variables_base + n) % bytes_of k ≡ 0
base_aligned k n =
    by_size (λ b. n % b ≡ 0 → (variables_base + n) % b ≡ 0) (λ h. omega (arith, h)) (λ h. omega (arith, h)) (λ h. omega (arith, h)) (λ h. omega (arith, h)) k

-- an element stands at its address
pub element_stands : (vs : List Variable) (v e : ℕ) (is : Variable) → HaveRoom (shapes vs) → slice_get vs v ≡ Some is → e < elements_in is.length →
    IsAtSpot (spots_of vs) v e is.kind (byte_number (variable_at (shapes vs) v e))
element_stands vs v e is room h l =
    let none : 0 + v ≡ v = omega arith in
    let first = number_is vs v 0 is room h (omega arith) in
    let own = number_is vs v e is room h (omega (arith, l)) in
    record {
      spot = spot (shapes vs) v is;
      there = spot_there (shapes vs) 0 vs v is h ∙ ap (λ (k : ℕ). Some (spot (shapes vs) k is)) none;
      within = l;
      kind_is = refl;
      number_is = omega (arith, first, own);
    }

pub addresses_reach : AddressesReach
addresses_reach log vs threads v e is room h l =
    let a = address_is vs v e is h in
    let w = element_whole vs v e is room h l in
    let n = start_from 0 (shapes vs) v + bytes_of is.kind * e in
    let address = variable_at (shapes vs) v e in
    let place : address ≡ variables_base + n = omega (arith, a) in
    record {
      inside = or_left _ _
          (and_from _ _ (le-leb variables_base address (omega (arith, place))) (le-leb (address + bytes_of is.kind) _ (omega (arith, place, w.ends))));
      is_aligned = eq-eqb _ 0 (ap (λ (m : ℕ). m % bytes_of is.kind) place ∙ base_aligned is.kind n w.is_aligned);
      at = element_stands vs v e is room h l;
    }
