-- Where the variables end that are passed, one after another.
use Rattle.std.proofs.Common.{◌≡◌, ℕ, zero, suc, ◌+◌, ◌-◌, ◌*◌, ◌<◌, ◌≤◌, ◌^◌, List, [], ◌∷◌, ◌++◌, ◌==◌}
use Rattle.std.proofs.Common.{◌||◌, length, take, get_or, refl, ap, sym, ◌∙◌, arith, rules, IsTrue, Some}
use Rattle.std.specs.Prelude.{slice_get}
use Rattle.std.proofs.lemmas.Bool.Decides.{nat_tests}
use Rattle.std.proofs.lemmas.Bool.{and_parts}
use Rattle.std.proofs.lemmas.List.{take_more}
use Rattle.std.proofs.Math.Nat.{lt-div-mul-add, div-mul-le_self, mul-le-mul_left}
use Rattle.ido_base.specs.declared.limits.TheConstants.{MOST_VARIABLE_BYTES, WORD_BYTES}
use Rattle.ido_base.specs.declared.location.Shape.{Shape}
use Rattle.ido_base.specs.Layout.{aligned_up, start_from, end_from, variable_at, variables_base}
use Rattle.memory_layout.specs.Variables.{are_sizes}

abbrev pub none : Shape
none = record { bytes = 0; length = 0 }

-- an element has some bytes, and few
abbrev pub IsFew : Shape → Type 0
IsFew s = (0 < s.bytes) × (s.bytes ≤ 8)

abbrev pub AreSizes : List Shape → Type 0
AreSizes [] = Unit {0}
AreSizes (s ∷ ss) = IsFew s × AreSizes ss

pub size_bounds : (n : ℕ) → IsTrue (n == 1 || n == 2 || n == 4 || n == 8) → (0 < n) × (n ≤ 8)
size_bounds n h = (first_of (search rules, grind (arith, nat_tests)), first_of (search rules, grind (arith, nat_tests)))

pub sizes : (ss : List Shape) → IsTrue (are_sizes ss) → AreSizes ss
sizes [] h = tt
sizes (s ∷ ss) h = let parts = and_parts (s.bytes == 1 || s.bytes == 2 || s.bytes == 4 || s.bytes == 8) (are_sizes ss) h in
    (size_bounds s.bytes parts.0, sizes ss parts.1)

size_at : (ss : List Shape) (i : ℕ) → AreSizes ss → i < length ss → (0 < (get_or ss i none).bytes) × ((get_or ss i none).bytes ≤ 8)
size_at [] i h l = absurd (omega arith)
size_at (s ∷ ss) zero h l = h.0
size_at (s ∷ ss) (suc i) h l = size_at ss i h.1 (omega arith)

pub from_aligned_up : (n s : ℕ) → 0 < s → n ≤ aligned_up n s
from_aligned_up n s some = omega (arith, lt-div-mul-add {a = n + s - 1} {b = s} some)

to_aligned_up : (n s : ℕ) → aligned_up n s ≤ n + s
to_aligned_up n s = omega (arith, div-mul-le_self (n + s - 1) s)

pub end-append : (n : ℕ) (xs ys : List Shape) → end_from n (xs ++ ys) ≡ end_from (end_from n xs) ys
end-append n [] ys = refl
end-append n (x ∷ xs) ys = end-append (aligned_up n x.bytes + x.bytes * x.length) xs ys

pub end_grows : (n : ℕ) (ss : List Shape) → AreSizes ss → n ≤ end_from n ss
end_grows n [] h = omega arith
end_grows n (s ∷ ss) h =
    let below : n ≤ aligned_up n s.bytes + s.bytes * s.length = omega (arith, from_aligned_up n s.bytes h.0.0) in
    omega (arith, below, end_grows (aligned_up n s.bytes + s.bytes * s.length) ss h.1)

pub end-take : (n k : ℕ) (ss : List Shape) → AreSizes ss → end_from n (take k ss) ≤ end_from n ss
end-take n zero ss h = end_grows n ss h
end-take n (suc k) [] h = omega arith
end-take n (suc k) (s ∷ ss) h = end-take (aligned_up n s.bytes + s.bytes * s.length) k ss h.1

-- the first i of the first v
abbrev pub passed : (ss : List Shape) (v i : ℕ) → List Shape
passed ss v i = take i (take v ss)

sizes-take : (k : ℕ) (ss : List Shape) → AreSizes ss → AreSizes (take k ss)
sizes-take zero ss h = tt
sizes-take (suc k) [] h = tt
sizes-take (suc k) (s ∷ ss) h = (h.0, sizes-take k ss h.1)

-- where the first i of the first v end
pub end_within : (ss : List Shape) (v i : ℕ) → IsTrue (are_sizes ss) → end_from 0 ss ≤ MOST_VARIABLE_BYTES → end_from 0 (passed ss v i) ≤ MOST_VARIABLE_BYTES
end_within ss v i h l =
    let all = sizes ss h in
    omega (arith, l, end-take 0 v ss all, end-take 0 i (take v ss) (sizes-take v ss all))

pub small_at : (ss : List Shape) (v i bytes : ℕ) → IsTrue (are_sizes ss) → i < length (take v ss) → bytes ≡ (get_or (take v ss) i none).bytes → bytes ≤ 8
small_at ss v i bytes h l e = omega (arith, e, (size_at (take v ss) i (sizes-take v ss (sizes ss h)) l).1)

pub small : (ss : List Shape) (v bytes : ℕ) → IsTrue (are_sizes ss) → v < length ss → bytes ≡ (get_or ss v none).bytes → bytes ≤ 8
small ss v bytes h l e = omega (arith, e, (size_at ss v (sizes ss h) l).1)

pub next_end : (ss : List Shape) (v i end bytes count up : ℕ) → i < length (take v ss) → end ≡ end_from 0 (passed ss v i) →
    bytes ≡ (get_or (take v ss) i none).bytes → count ≡ (get_or (take v ss) i none).length → up ≡ aligned_up end bytes →
    up + bytes * count ≡ end_from 0 (passed ss v (i + 1))
next_end ss v i end bytes count up l e b n u =
    let s : Shape = get_or (take v ss) i none in
    let more : end_from 0 (passed ss v (i + 1)) ≡ aligned_up (end_from 0 (passed ss v i)) s.bytes + s.bytes * s.length =
    ap (λ (xs : List Shape). end_from 0 xs) (take_more (take v ss) i none l) ∙ end-append 0 (passed ss v i) (s ∷ []) in
    rw u (rw e (rw b (rw n (sym more))))

-- ---- The address of an element

pub element_at : (ss : List Shape) (v e : ℕ) → v < length ss → variable_at ss v e ≡ variables_base + start_from 0 ss v + (get_or ss v none).bytes * e
element_at [] v e l = absurd (omega arith)
element_at (s ∷ ss) zero e l = refl
element_at (s ∷ ss) (suc v) e l = omega (arith, element_at ss v e (omega arith))

pub stands_at : (ss : List Shape) (v e : ℕ) (s : Shape) → slice_get ss v ≡ Some s → variable_at ss v e ≡ variables_base + start_from 0 ss v + s.bytes * e
stands_at [] v e s h = cc
stands_at (x ∷ ss) zero e s h = let same : x ≡ s = cc in ap (λ (y : Shape). variables_base + aligned_up 0 x.bytes + y.bytes * e) same
stands_at (x ∷ ss) (suc v) e s h = let more = stands_at ss v e s h in omega (arith, more)

pub start_at : (n : ℕ) (ss : List Shape) (v : ℕ) → v < length ss → start_from n ss v ≡ aligned_up (end_from n (take v ss)) (get_or ss v none).bytes
start_at n [] v l = absurd (omega arith)
start_at n (s ∷ ss) zero l = refl
start_at n (s ∷ ss) (suc v) l = start_at (aligned_up n s.bytes + s.bytes * s.length) ss v (omega arith)

pub address : (ss : List Shape) (v element end bytes up : ℕ) → v < length ss → end ≡ end_from 0 (take v ss) → bytes ≡ (get_or ss v none).bytes →
    up ≡ aligned_up end bytes →
    variables_base + up + bytes * element ≡ variable_at ss v element
address ss v element end bytes up l e b u =
    let start : start_from 0 ss v ≡ up = start_at 0 ss v l ∙ sym (rw u (rw e (rw b refl))) in
    let more = element_at ss v element l in
    rw b (omega (arith, start, more))

-- ---- Sums that fit

pub aligned_small : (end bytes up : ℕ) → end ≤ MOST_VARIABLE_BYTES → bytes ≤ 8 → up ≡ aligned_up end bytes → up ≤ MOST_VARIABLE_BYTES + WORD_BYTES
aligned_small end bytes up e b u = omega (arith, u, to_aligned_up end bytes)

pub product_small : (bytes element : ℕ) → bytes ≤ 8 → element < 2 ^ 32 → bytes * element < 2 ^ 36
product_small bytes element b e = omega (arith, mul-le-mul_left {m = bytes} {n = 8} element b)
