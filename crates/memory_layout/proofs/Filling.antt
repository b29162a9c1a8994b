-- The bytes of variables, one after another, are each at its place.
use Rattle.std.proofs.Common.{◌≡◌, ◌⊎◌, inl, inr, refl, ℕ, zero, suc, ◌+◌, ◌-◌, ◌*◌, ◌/◌, ◌%◌, ◌^◌, ◌<◌, ◌≤◌, List, [], ◌∷◌, ◌++◌, length, take, replicate}
use Rattle.std.proofs.Common.{get_or, sym, ◌∙◌, ap, subst, arith, append_assoc, Some, ℤ, ⊎_elim}
use Rattle.std.specs.Prelude.{slice_get, pos, negsuc}
use Rattle.std.specs.Int.{w64, w128, to_le_bytes, cast_unsigned, next_multiple_of}
use Rattle.std.specs.Int.RustNames.{FitsSigned}
use Rattle.std.proofs.lemmas.Bool.{cases_lt}
use Rattle.std.proofs.Math.Nat.{mul-le-mul_left}
use Rattle.std.proofs.lemmas.List.{get_or_append_left, get_or-append-add, get_or-append_right, get_or-take, get_or-replicate, length-append, length-take-le}
use Rattle.std.proofs.lemmas.List.{length-replicate, take_all, take_more}
use Rattle.std.proofs.lemmas.Int.{ints}
use Rattle.ido_base.specs.declared.location.Shape.{Shape}
use Rattle.ido_base.specs.Words.{part}
use Rattle.ido_base.specs.Layout.{aligned_up, start_from, end_from}
use Rattle.memory_layout.specs.Variables.{AreCounted, AreInitial, bits_of}
use Rattle.memory_layout.specs.links.Bytes.{numbers_bytes, variable_bytes, after, bytes_from}
use Rattle.memory_layout.proofs.VariableEnds.{AreSizes, IsFew, from_aligned_up, stands_at}

-- ---- Numbers

abbrev pub bytes_in : (count : ℕ) → ℤ → List ℕ
bytes_in count z = take count (to_le_bytes w64 (bits_of z))

length-bytes_in : (count : ℕ) (z : ℤ) → count ≤ 8 → length (bytes_in count z) ≡ count
length-bytes_in count z l =
    let e : length (to_le_bytes w64 (bits_of z)) ≡ 8 = refl in
    length-take-le count (to_le_bytes w64 (bits_of z)) (omega (arith, l, e))

pub length-numbers : (count : ℕ) (zs : List ℤ) → count ≤ 8 → length (numbers_bytes count zs) ≡ count * length zs
unfolding numbers_bytes
length-numbers count [] l = omega arith
length-numbers count (z ∷ zs) l =
    let a = length-append (bytes_in count z) (numbers_bytes count zs) in
    omega (arith, a, length-bytes_in count z l, length-numbers count zs l)

pub numbers-append : (count : ℕ) (xs ys : List ℤ) → numbers_bytes count (xs ++ ys) ≡ numbers_bytes count xs ++ numbers_bytes count ys
unfolding numbers_bytes
numbers-append count [] ys = refl
numbers-append count (x ∷ xs) ys =
    ap (λ (bs : List ℕ). bytes_in count x ++ bs) (numbers-append count xs ys)
    ∙ sym (append_assoc (bytes_in count x) (numbers_bytes count xs) (numbers_bytes count ys))

append_nil : (bs : List ℕ) → bs ++ [] ≡ bs
append_nil [] = refl
append_nil (b ∷ bs) = ap (λ (cs : List ℕ). b ∷ cs) (append_nil bs)

pub numbers-one : (count : ℕ) (z : ℤ) → numbers_bytes count (z ∷ []) ≡ bytes_in count z
unfolding numbers_bytes
numbers-one count z = append_nil (bytes_in count z)

byte_of : (n i : ℕ) → i < 8 → get_or (to_le_bytes w64 n) i 0 ≡ part n i 1
byte_of n zero l = omega arith
byte_of n (suc zero) l = omega arith
byte_of n (suc (suc zero)) l = omega arith
byte_of n (suc (suc (suc zero))) l = omega arith
byte_of n (suc (suc (suc (suc zero)))) l = omega arith
byte_of n (suc (suc (suc (suc (suc zero))))) l = omega arith
byte_of n (suc (suc (suc (suc (suc (suc zero)))))) l = omega arith
byte_of n (suc (suc (suc (suc (suc (suc (suc zero))))))) l = omega arith
byte_of n (suc (suc (suc (suc (suc (suc (suc (suc i)))))))) l = absurd (omega (arith, l))

number_at : (count : ℕ) (zs : List ℤ) (e : ℕ) (z : ℤ) (b : ℕ) → count ≤ 8 → slice_get zs e ≡ Some z → b < count →
    get_or (numbers_bytes count zs) (count * e + b) 0 ≡ part (bits_of z) b 1
unfolding numbers_bytes
number_at count [] e z b l h w = cc
number_at count (x ∷ zs) zero z b l h w =
    let is : x ≡ z = cc in
    let place : count * 0 + b ≡ b = omega arith in
    let fits : b < length (bytes_in count x) = omega (arith, w, length-bytes_in count x l) in
    ap (λ (i : ℕ). get_or (bytes_in count x ++ numbers_bytes count zs) i 0) place
    ∙ (get_or_append_left (bytes_in count x) (numbers_bytes count zs) 0 b fits
    ∙ (get_or-take count (to_le_bytes w64 (bits_of x)) b 0 w
    ∙ (byte_of (bits_of x) b (omega (arith, w, l)) ∙ ap (λ (y : ℤ). part (bits_of y) b 1) is)))
number_at count (x ∷ zs) (suc e) z b l h w =
    let place : count * suc e + b ≡ length (bytes_in count x) + (count * e + b) = omega (arith, length-bytes_in count x l) in
    ap (λ (i : ℕ). get_or (bytes_in count x ++ numbers_bytes count zs) i 0) place
    ∙ (get_or-append-add (bytes_in count x) (numbers_bytes count zs) (count * e + b) 0
    ∙ number_at count zs e z b l h w)

-- which number has a byte
record HasByte (count : ℕ) (zs : List ℤ) (at : ℕ) : Type 0 where
  element : ℕ
  number : ℤ
  begins : slice_get zs element ≡ Some number
  byte : ℕ
  within : byte < count
  at_is : at ≡ count * element + byte

has_byte : (count : ℕ) (zs : List ℤ) (at : ℕ) → at < count * length zs → HasByte count zs at
has_byte count [] at l = absurd (omega (arith, l))
has_byte count (z ∷ zs) at l = ⊎_elim
    (λ h. record { element = 0; number = z; begins = refl; byte = at; within = h; at_is = omega arith })
    (λ h.
    let more = has_byte count zs (at - count) (omega (arith, l, h)) in
    record {
      element = suc more.element;
      number = more.number;
      begins = more.begins;
      byte = more.byte;
      within = more.within;
      at_is = omega (arith, h, more.at_is);
    })
    (cases_lt at count)

-- ---- Variables

abbrev zeros : (n bytes : ℕ) → List ℕ
zeros n bytes = replicate (aligned_up n bytes - n) 0

length-zeros : (n bytes : ℕ) → 0 < bytes → n + length (zeros n bytes) ≡ aligned_up n bytes
length-zeros n bytes some = let a = length-replicate {A = ℕ} (aligned_up n bytes - n) 0 in omega (arith, a, from_aligned_up n bytes some)

pub length-variable : (n : ℕ) (s : Shape) (zs : List ℤ) → IsFew s → length zs ≡ s.length → n + length (variable_bytes n s zs) ≡ after n s
unfolding variable_bytes
length-variable n s zs few h =
    let a = length-append (zeros n s.bytes) (numbers_bytes s.bytes zs) in
    let b = length-numbers s.bytes zs few.1 in
    let c : s.bytes * length zs ≡ s.bytes * s.length = ap (λ (i : ℕ). s.bytes * i) h in
    omega (arith, a, b, c, length-zeros n s.bytes few.0)

pub length-bytes : (n : ℕ) (ss : List Shape) (zss : List (List ℤ)) → AreSizes ss → AreCounted ss zss → n + length (bytes_from n ss zss) ≡ end_from n ss
unfolding bytes_from
length-bytes n [] zss f h = omega arith
length-bytes n (s ∷ ss) [] f h = absurd h
length-bytes n (s ∷ ss) (zs ∷ zss) f h =
    let a = length-append (variable_bytes n s zs) (bytes_from (after n s) ss zss) in
    omega (arith, a, length-variable n s zs f.0 h.0, length-bytes (after n s) ss zss f.1 h.1)

pub bytes-append : (n : ℕ) (us vs : List Shape) (xss yss : List (List ℤ)) → AreCounted us xss →
    bytes_from n (us ++ vs) (xss ++ yss) ≡ bytes_from n us xss ++ bytes_from (end_from n us) vs yss
unfolding bytes_from
bytes-append n [] vs [] yss h = refl
bytes-append n [] vs (xs ∷ xss) yss h = absurd h
bytes-append n (u ∷ us) vs [] yss h = absurd h
bytes-append n (u ∷ us) vs (xs ∷ xss) yss h =
    ap (λ (bs : List ℕ). variable_bytes n u xs ++ bs) (bytes-append (after n u) us vs xss yss h.1)
    ∙ sym (append_assoc (variable_bytes n u xs) (bytes_from (after n u) us xss) (bytes_from (end_from (after n u) us) vs yss))

-- a byte of an element of a variable
in_variable : (n : ℕ) (s : Shape) (zs : List ℤ) (e : ℕ) (z : ℤ) (b at : ℕ) → IsFew s → slice_get zs e ≡ Some z → b < s.bytes →
    n + at ≡ aligned_up n s.bytes + s.bytes * e + b → get_or (variable_bytes n s zs) at 0 ≡ part (bits_of z) b 1
unfolding variable_bytes
in_variable n s zs e z b at few h w is =
    let place : at ≡ length (zeros n s.bytes) + (s.bytes * e + b) = omega (arith, is, length-zeros n s.bytes few.0) in
    ap (λ (i : ℕ). get_or (zeros n s.bytes ++ numbers_bytes s.bytes zs) i 0) place
    ∙ (get_or-append-add (zeros n s.bytes) (numbers_bytes s.bytes zs) (s.bytes * e + b) 0
    ∙ number_at s.bytes zs e z b few.1 h w)

pub get_below : {A : Type 0} (xs : List A) (i : ℕ) (x : A) → slice_get xs i ≡ Some x → i < length xs
get_below [] i x h = cc
get_below (y ∷ xs) zero x h = omega arith
get_below (y ∷ xs) (suc i) x h = omega (arith, get_below xs i x h)

-- a byte of an element is one of the variable's bytes
in_variable_below : (n : ℕ) (s : Shape) (zs : List ℤ) (e : ℕ) (z : ℤ) (b at : ℕ) → IsFew s → slice_get zs e ≡ Some z → b < s.bytes →
    n + at ≡ aligned_up n s.bytes + s.bytes * e + b → at < length (variable_bytes n s zs)
unfolding variable_bytes
in_variable_below n s zs e z b at few h w is =
    let a = length-append (zeros n s.bytes) (numbers_bytes s.bytes zs) in
    let c = length-numbers s.bytes zs few.1 in
    let within : s.bytes * (e + 1) ≤ s.bytes * length zs = mul-le-mul_left s.bytes (omega (arith, get_below zs e z h)) in
    omega (arith, a, c, within, w, is, length-zeros n s.bytes few.0)

pub starts_from : (n : ℕ) (ss : List Shape) (v : ℕ) (s : Shape) → AreSizes ss → slice_get ss v ≡ Some s → n ≤ start_from n ss v
starts_from n [] v s f h = cc
starts_from n (x ∷ ss) zero s f h = from_aligned_up n x.bytes f.0.0
starts_from n (x ∷ ss) (suc v) s f h = omega (arith, from_aligned_up n x.bytes f.0.0, starts_from (after n x) ss v s f.1 h)

-- a byte of an element, where the first variable begins at n or after it
record IsByteFrom (n : ℕ) (ss : List Shape) (zss : List (List ℤ)) (offset value : ℕ) : Type 0 where
  variable : ℕ
  shape : Shape
  shaped : slice_get ss variable ≡ Some shape
  own : List ℤ
  there : slice_get zss variable ≡ Some own
  element : ℕ
  number : ℤ
  begins : slice_get own element ≡ Some number
  byte : ℕ
  within : byte < shape.bytes
  offset_is : n + offset ≡ start_from n ss variable + shape.bytes * element + byte
  value_is : value ≡ part (bits_of number) byte 1

-- all bytes, and others after them
abbrev all : (n : ℕ) → List Shape → List (List ℤ) → List ℕ → List ℕ
all n ss zss more = bytes_from n ss zss ++ more

all-more : (n : ℕ) (s : Shape) (ss : List Shape) (zs : List ℤ) (zss : List (List ℤ)) (more : List ℕ) →
    all n (s ∷ ss) (zs ∷ zss) more ≡ variable_bytes n s zs ++ all (after n s) ss zss more
unfolding bytes_from
all-more n s ss zs zss more = append_assoc (variable_bytes n s zs) (bytes_from (after n s) ss zss) more

byte_is : (n : ℕ) (ss : List Shape) (zss : List (List ℤ)) (more : List ℕ) (v : ℕ) (s : Shape) (zs : List ℤ) (e : ℕ) (z : ℤ) (b at : ℕ) →
    AreSizes ss → AreCounted ss zss → slice_get ss v ≡ Some s → slice_get zss v ≡ Some zs →
    slice_get zs e ≡ Some z → b < s.bytes → n + at ≡ start_from n ss v + s.bytes * e + b →
    get_or (all n ss zss more) at 0 ≡ part (bits_of z) b 1
byte_is n [] zss more v s zs e z b at f c shaped there begins w place = cc
byte_is n (x ∷ ss) [] more v s zs e z b at f c shaped there begins w place = absurd c
byte_is n (x ∷ ss) (xs ∷ zss) more zero s zs e z b at f c shaped there begins w place =
    let same : s ≡ x = cc in
    let own : zs ≡ xs = cc in
    let begins' : slice_get xs e ≡ Some z = subst (λ (ys : List ℤ). slice_get ys e ≡ Some z) own begins in
    let w' : b < x.bytes = subst (λ (y : Shape). b < y.bytes) same w in
    let place' : n + at ≡ aligned_up n x.bytes + x.bytes * e + b =
    subst (λ (y : Shape). n + at ≡ aligned_up n x.bytes + y.bytes * e + b) same place in
    ap (λ (bs : List ℕ). get_or bs at 0) (all-more n x ss xs zss more)
    ∙ (get_or_append_left (variable_bytes n x xs) (all (after n x) ss zss more) 0 at (in_variable_below n x xs e z b at f.0 begins' w' place')
    ∙ in_variable n x xs e z b at f.0 begins' w' place')
byte_is n (x ∷ ss) (xs ∷ zss) more (suc v) s zs e z b at f c shaped there begins w place =
    let size = length-variable n x xs f.0 c.0 in
    let from = starts_from (after n x) ss v s f.1 shaped in
    let past : length (variable_bytes n x xs) ≤ at = omega (arith, size, from, place) in
    let place' : after n x + (at - length (variable_bytes n x xs)) ≡ start_from (after n x) ss v + s.bytes * e + b =
    omega (arith, size, past, place) in
    ap (λ (bs : List ℕ). get_or bs at 0) (all-more n x ss xs zss more)
    ∙ (get_or-append_right (variable_bytes n x xs) (all (after n x) ss zss more) (length (variable_bytes n x xs)) at 0 refl past
    ∙ byte_is (after n x) ss zss more v s zs e z b (at - length (variable_bytes n x xs)) f.1 c.1 shaped there begins w place')

zeros_have : (n : ℕ) (s : Shape) (zs : List ℤ) (at : ℕ) → at < length (zeros n s.bytes) → get_or (variable_bytes n s zs) at 0 ≡ 0
unfolding variable_bytes
zeros_have n s zs at l =
    let a = length-replicate {A = ℕ} (aligned_up n s.bytes - n) 0 in
    get_or_append_left (zeros n s.bytes) (numbers_bytes s.bytes zs) 0 at l ∙ get_or-replicate (aligned_up n s.bytes - n) at 0 0 (omega (arith, l, a))

in_numbers : (n : ℕ) (s : Shape) (zs : List ℤ) (at : ℕ) → IsFew s → length (zeros n s.bytes) ≤ at → at < length (variable_bytes n s zs) →
    HasByte s.bytes zs (at - length (zeros n s.bytes))
unfolding variable_bytes
in_numbers n s zs at few past l =
    let a = length-append (zeros n s.bytes) (numbers_bytes s.bytes zs) in
    let c = length-numbers s.bytes zs few.1 in
    has_byte s.bytes zs (at - length (zeros n s.bytes)) (omega (arith, past, l, a, c))

other : (n : ℕ) (ss : List Shape) (zss : List (List ℤ)) (more : List ℕ) → AreSizes ss → AreCounted ss zss → ((i : ℕ) → get_or more i 0 ≡ 0) → (at : ℕ) →
    IsByteFrom n ss zss at (get_or (all n ss zss more) at 0) ⊎ (get_or (all n ss zss more) at 0 ≡ 0)
unfolding bytes_from
other n [] zss more f c none at = inr (none at)
other n (x ∷ ss) [] more f c none at = absurd c
other n (x ∷ ss) (xs ∷ zss) more f c none at =
    let is = ap (λ (bs : List ℕ). get_or bs at 0) (all-more n x ss xs zss more) in
    ⊎_elim
    (λ inside.
    let here = is ∙ get_or_append_left (variable_bytes n x xs) (all (after n x) ss zss more) 0 at inside in
    ⊎_elim
    (λ l. inr (here ∙ zeros_have n x xs at l))
    (λ past.
    let found = in_numbers n x xs at f.0 past inside in
    let place : n + at ≡ aligned_up n x.bytes + x.bytes * found.element + found.byte =
    omega (arith, past, found.at_is, length-zeros n x.bytes f.0.0) in
    inl (record {
      variable = 0;
      shape = x;
      shaped = refl;
      own = xs;
      there = refl;
      element = found.element;
      number = found.number;
      begins = found.begins;
      byte = found.byte;
      within = found.within;
      offset_is = place;
      value_is = here ∙ in_variable n x xs found.element found.number found.byte at f.0 found.begins found.within place;
    }))
    (cases_lt at (length (zeros n x.bytes))))
    (λ past.
    let size = length-variable n x xs f.0 c.0 in
    let there = is ∙ get_or-append_right (variable_bytes n x xs) (all (after n x) ss zss more) (length (variable_bytes n x xs)) at 0 refl past in
    ⊎_elim
    (λ r. inl (record {
      variable = suc r.variable;
      shape = r.shape;
      shaped = r.shaped;
      own = r.own;
      there = r.there;
      element = r.element;
      number = r.number;
      begins = r.begins;
      byte = r.byte;
      within = r.within;
      offset_is = omega (arith, size, past, r.offset_is);
      value_is = there ∙ r.value_is;
    }))
    (λ zero. inr (there ∙ zero))
    (other (after n x) ss zss more f.1 c.1 none (at - length (variable_bytes n x xs))))
    (cases_lt at (length (variable_bytes n x xs)))

-- ---- All of them

get_zeros : (k i : ℕ) → get_or {A = ℕ} (replicate k 0) i 0 ≡ 0
get_zeros zero i = refl
get_zeros (suc k) zero = refl
get_zeros (suc k) (suc i) = get_zeros k i

are_initial : (ss : List Shape) (zss : List (List ℤ)) (k : ℕ) (bytes : List ℕ) → AreSizes ss → AreCounted ss zss →
    bytes ≡ bytes_from 0 ss zss ++ replicate k 0 → end_from 0 ss + k ≡ aligned_up (end_from 0 ss) 8 → AreInitial ss zss bytes
are_initial ss zss k bytes f c is whole = subst (λ (bs : List ℕ). AreInitial ss zss bs) (sym is) (record {
  size =
      let a = length-append (bytes_from 0 ss zss) (replicate k 0) in
      let b = length-replicate {A = ℕ} k 0 in
      omega (arith, a, b, length-bytes 0 ss zss f c, whole);
  elements = λ offset value r.
      let a = stands_at ss r.variable r.element r.shape r.shaped in
      let place : 0 + offset ≡ start_from 0 ss r.variable + r.shape.bytes * r.element + r.byte = omega (arith, r.offset_is, a) in
      byte_is 0 ss zss (replicate k 0) r.variable r.shape r.own r.element r.number r.byte offset f c r.shaped r.there r.begins r.within place
      ∙ sym r.value_is;
  others = λ offset. ⊎_elim
      (λ r.
      let a = stands_at ss r.variable r.element r.shape r.shaped in
      inl (record {
        variable = r.variable;
        shape = r.shape;
        shaped = r.shaped;
        own = r.own;
        there = r.there;
        element = r.element;
        number = r.number;
        begins = r.begins;
        byte = r.byte;
        within = r.within;
        offset_is = omega (arith, r.offset_is, a);
        value_is = r.value_is;
      }))
      (λ none. inr none)
      (other 0 ss zss (replicate k 0) f c (get_zeros k) offset);
})

-- ---- As they are pushed

bits_are : (z : ℤ) → FitsSigned w128 z → bits_of z ≡ cast_unsigned w128 z % 2 ^ 64
bits_are (pos n) fits = refl
bits_are (negsuc n) fits = omega (arith, ints, fits.sfits)

first_eight : (u : ℕ) → take 8 (to_le_bytes w128 u) ≡ to_le_bytes w64 (u % 2 ^ 64)
first_eight u =
    let a : u % 256 ≡ u % 2 ^ 64 % 256 = omega arith in
    let b : u / 256 ^ 1 % 256 ≡ u % 2 ^ 64 / 256 ^ 1 % 256 = omega arith in
    let c : u / 256 ^ 2 % 256 ≡ u % 2 ^ 64 / 256 ^ 2 % 256 = omega arith in
    let d : u / 256 ^ 3 % 256 ≡ u % 2 ^ 64 / 256 ^ 3 % 256 = omega arith in
    let e : u / 256 ^ 4 % 256 ≡ u % 2 ^ 64 / 256 ^ 4 % 256 = omega arith in
    let f : u / 256 ^ 5 % 256 ≡ u % 2 ^ 64 / 256 ^ 5 % 256 = omega arith in
    let g : u / 256 ^ 6 % 256 ≡ u % 2 ^ 64 / 256 ^ 6 % 256 = omega arith in
    let h : u / 256 ^ 7 % 256 ≡ u % 2 ^ 64 / 256 ^ 7 % 256 = omega arith in
    λ i. a i ∷ b i ∷ c i ∷ d i ∷ e i ∷ f i ∷ g i ∷ h i ∷ []

take_again : (count : ℕ) (bs : List ℕ) → count ≤ 8 → take count (take 8 bs) ≡ take count bs
take_again count bs l = take_less count 8 bs l
  where
    take_less : (count most : ℕ) (bs : List ℕ) → count ≤ most → take count (take most bs) ≡ take count bs
    take_less zero most bs l = refl
    take_less (suc count) zero bs l = absurd (omega (arith, l))
    take_less (suc count) (suc most) [] l = refl
    take_less (suc count) (suc most) (b ∷ bs) l = ap (λ (cs : List ℕ). b ∷ cs) (take_less count most bs (omega (arith, l)))

-- the lowest bytes of 16 are those of the lowest 8
pub low_bytes : (count : ℕ) (z : ℤ) → count ≤ 8 → FitsSigned w128 z → take count (to_le_bytes w128 (cast_unsigned w128 z)) ≡ bytes_in count z
low_bytes count z l fits =
    sym (take_again count (to_le_bytes w128 (cast_unsigned w128 z)) l)
    ∙ ap (take count) (first_eight (cast_unsigned w128 z) ∙ ap (to_le_bytes w64) (sym (bits_are z fits)))

pub variable_pushed : (old mid new : List ℕ) (s : Shape) (zs : List ℤ) (first : ℕ) → IsFew s → first ≡ aligned_up (length old) s.bytes →
    mid ≡ take first old ++ replicate (first - length old) 0 → new ≡ mid ++ numbers_bytes s.bytes zs →
    new ≡ old ++ variable_bytes (length old) s zs
unfolding variable_bytes
variable_pushed old mid new s zs first few up m w =
    let whole : take first old ≡ old = take_all first old (omega (arith, up, from_aligned_up (length old) s.bytes few.0)) in
    let filled : mid ≡ old ++ zeros (length old) s.bytes = m ∙ (λ i. whole i ++ replicate (up i - length old) 0) in
    w ∙ (ap (λ (bs : List ℕ). bs ++ numbers_bytes s.bytes zs) filled ∙ append_assoc old (zeros (length old) s.bytes) (numbers_bytes s.bytes zs))

as_many : (ss : List Shape) (zss : List (List ℤ)) → AreCounted ss zss → length ss ≡ length zss
as_many [] [] c = refl
as_many [] (zs ∷ zss) c = absurd c
as_many (s ∷ ss) [] c = absurd c
as_many (s ∷ ss) (zs ∷ zss) c = ap suc (as_many ss zss c.1)

sizes-take : (i : ℕ) (ss : List Shape) → AreSizes ss → AreSizes (take i ss)
sizes-take zero ss f = tt
sizes-take (suc i) [] f = tt
sizes-take (suc i) (s ∷ ss) f = (f.0, sizes-take i ss f.1)

counted-take : (i : ℕ) (ss : List Shape) (zss : List (List ℤ)) → AreCounted ss zss → AreCounted (take i ss) (take i zss)
counted-take zero ss zss c = tt
counted-take (suc i) [] [] c = tt
counted-take (suc i) [] (zs ∷ zss) c = absurd c
counted-take (suc i) (s ∷ ss) [] c = absurd c
counted-take (suc i) (s ∷ ss) (zs ∷ zss) c = (c.0, counted-take i ss zss c.1)

-- one more variable's bytes
pub bytes-more : (ss : List Shape) (zss : List (List ℤ)) (i : ℕ) (s : Shape) (zs : List ℤ) (old new : List ℕ) → AreSizes ss → AreCounted ss zss →
    i < length ss → s ≡ get_or ss i s → zs ≡ get_or zss i zs → old ≡ bytes_from 0 (take i ss) (take i zss) →
    new ≡ old ++ variable_bytes (length old) s zs → new ≡ bytes_from 0 (take (i + 1) ss) (take (i + 1) zss)
unfolding bytes_from
bytes-more ss zss i s zs old new f c l is own before w =
    let counted = counted-take i ss zss c in
    let long : length old ≡ end_from 0 (take i ss) =
    let a = length-bytes 0 (take i ss) (take i zss) (sizes-take i ss f) counted in
    let b : length old ≡ length (bytes_from 0 (take i ss) (take i zss)) = ap (λ (bs : List ℕ). length bs) before in
    omega (arith, a, b) in
    let more : take (i + 1) ss ≡ take i ss ++ s ∷ [] = take_more ss i s l ∙ ap (λ (y : Shape). take i ss ++ y ∷ []) (sym is) in
    let more' : take (i + 1) zss ≡ take i zss ++ zs ∷ [] =
    take_more zss i zs (omega (arith, l, as_many ss zss c)) ∙ ap (λ (y : List ℤ). take i zss ++ y ∷ []) (sym own) in
    let both : bytes_from 0 (take i ss ++ s ∷ []) (take i zss ++ zs ∷ []) ≡ bytes_from 0 (take (i + 1) ss) (take (i + 1) zss) =
    sym (λ j. bytes_from 0 (more j) (more' j)) in
    w ∙ ((λ j. before j ++ variable_bytes (long j) s zs)
    ∙ (ap (λ (bs : List ℕ). bytes_from 0 (take i ss) (take i zss) ++ bs) (sym (append_nil (variable_bytes (end_from 0 (take i ss)) s zs)))
    ∙ (sym (bytes-append 0 (take i ss) (s ∷ []) (take i zss) (zs ∷ []) counted) ∙ both)))

-- all of them, filled up to a multiple of 8
pub filled : (ss : List Shape) (zss : List (List ℤ)) (before bytes : List ℕ) (end : ℕ) → AreSizes ss → AreCounted ss zss → before ≡ bytes_from 0 ss zss →
    end ≡ next_multiple_of (length before) 8 → bytes ≡ take end before ++ replicate (end - length before) 0 → AreInitial ss zss bytes
filled ss zss before bytes end f c is end_is whole =
    let long : length before ≡ end_from 0 ss =
    let a = length-bytes 0 ss zss f c in
    let b : length before ≡ length (bytes_from 0 ss zss) = ap (λ (bs : List ℕ). length bs) is in
    omega (arith, a, b) in
    let fits : length before ≤ end = omega (arith, end_is) in
    are_initial ss zss (end - length before) bytes f c
    (whole ∙ ap (λ (bs : List ℕ). bs ++ replicate (end - length before) 0) (take_all end before fits ∙ is)) (omega (arith, long, end_is))

pub numbers-none : (count : ℕ) (bs : List ℕ) → bs ≡ bs ++ numbers_bytes count []
unfolding numbers_bytes
numbers-none count bs = sym (append_nil bs)

pub numbers-more : (count : ℕ) (zs : List ℤ) (i : ℕ) (z : ℤ) (first old new : List ℕ) → i < length zs → z ≡ get_or zs i z →
    old ≡ first ++ numbers_bytes count (take i zs) → new ≡ old ++ bytes_in count z → new ≡ first ++ numbers_bytes count (take (i + 1) zs)
numbers-more count zs i z first old new l is before w =
    let more : take (i + 1) zs ≡ take i zs ++ z ∷ [] = take_more zs i z l ∙ ap (λ (y : ℤ). take i zs ++ y ∷ []) (sym is) in
    w ∙ (ap (λ (bs : List ℕ). bs ++ bytes_in count z) before
    ∙ (append_assoc first (numbers_bytes count (take i zs)) (bytes_in count z)
    ∙ ap (λ (bs : List ℕ). first ++ bs)
    (ap (λ (bs : List ℕ). numbers_bytes count (take i zs) ++ bs) (sym (numbers-one count z))
    ∙ (sym (numbers-append count (take i zs) (z ∷ [])) ∙ ap (numbers_bytes count) (sym more)))))

pub bytes-none : (zss : List (List ℤ)) → [] ≡ bytes_from 0 [] zss
unfolding bytes_from
bytes-none zss = refl
