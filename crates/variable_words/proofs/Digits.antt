-- Parts of a word that is made of bytes.
use Rattle.std.proofs.Common.{◌≡◌, refl, ℕ, zero, suc, ◌+◌, ◌*◌, ◌/◌, ◌%◌, ◌^◌, ◌<◌, List, take, drop, get_or, sym, ◌∙◌, ap, arith}
use Rattle.std.specs.Int.{w64, from_le_bytes}
use Rattle.std.specs.Prelude.{pos}
use Rattle.std.proofs.Math.Nat.{add-mul-div_right, add-mul-mod_self_right, div-eq_of_lt, mod-eq_of_lt}
use Rattle.std.proofs.Math.Arith.{mod-mul}
use Rattle.std.proofs.lemmas.Nat.{shr-shr, pow-add, pow_pos}
use Rattle.std.proofs.lemmas.List.{get_or-take, get_or-drop}
use Rattle.ido_base.specs.Words.{part}
use Rattle.ido_ints.specs.declared.kinds.Kind.{Kind}
use Rattle.ido_ints.specs.Kinds.{modulus_of}
use Rattle.ido_ints.specs.Reduction.{reduced}
use Rattle.ido_ints.proofs.Public.{Same-mod, reduced-same}
use Rattle.recovery_semantics.specs.Elements.{number_in}

-- the bytes of a value from one on, however many there are, are the same number of the kind as its own bytes are
pub shifted_number : (kind : Kind) (byte value : ℕ) → reduced kind (pos (value / 2 ^ (8 * byte))) ≡ number_in kind byte value
shifted_number kind byte value = sym (reduced-same kind _ _ (Same-mod (value / 2 ^ (8 * byte)) (modulus_of kind)))

-- the number whose bytes, the lowest first, are those of f from i on, so many
pub number_of : (f : ℕ → ℕ) (i count : ℕ) → ℕ
number_of f i zero = 0
number_of f i (suc count) = f i + 256 * number_of f (i + 1) count

power : (count : ℕ) → 2 ^ (8 * suc count) ≡ 256 * 2 ^ (8 * count)
power count =
    let e : 8 * suc count ≡ 8 + 8 * count = omega arith in
    ap (λ (n : ℕ). 2 ^ n) e ∙ pow-add 2 8 (8 * count)

AreBytes : (ℕ → ℕ) → Type 0
AreBytes f = (i : ℕ) → f i < 256

number_below : (f : ℕ → ℕ) (i count : ℕ) → AreBytes f → number_of f i count < 2 ^ (8 * count)
unfolding number_of AreBytes
number_below f i zero small = omega arith
number_below f i (suc count) small =
    let more = number_below f (i + 1) count small in
    omega (arith, power count, more, small i)

times : (m n : ℕ) → m * (256 * n) ≡ 256 * (m * n)
times m n = omega arith

-- low bytes, and those above them
number_append : (f : ℕ → ℕ) (i low high : ℕ) → number_of f i (low + high) ≡ number_of f i low + number_of f (i + low) high * 2 ^ (8 * low)
unfolding number_of
number_append f i zero high =
    let none : 0 + high ≡ high = omega arith in
    let here : i ≡ i + 0 = omega arith in
    let one : 2 ^ (8 * 0) ≡ 1 = refl in
    let same : number_of f i (0 + high) ≡ number_of f (i + 0) high = λ j. number_of f (here j) (none j) in
    omega (arith, same)
number_append f i (suc low) high =
    let more : suc low + high ≡ suc (low + high) = omega arith in
    let there : i + 1 + low ≡ i + suc low = omega arith in
    let rest = number_append f (i + 1) low high in
    let same : number_of f (i + 1 + low) high ≡ number_of f (i + suc low) high = ap (λ (k : ℕ). number_of f k high) there in
    let shifted : number_of f (i + suc low) high * 2 ^ (8 * suc low) ≡ 256 * (number_of f (i + suc low) high * 2 ^ (8 * low)) =
    ap (λ (p : ℕ). number_of f (i + suc low) high * p) (power low)
    ∙ times (number_of f (i + suc low) high) (2 ^ (8 * low)) in
    let rest' : number_of f (i + 1) (low + high) ≡ number_of f (i + 1) low + number_of f (i + suc low) high * 2 ^ (8 * low) =
    rest ∙ ap (λ (n : ℕ). number_of f (i + 1) low + n * 2 ^ (8 * low)) same in
    ap (λ (k : ℕ). number_of f i k) more ∙ omega (arith, rest', shifted)

-- a part of a number of bytes is the number of its bytes
pub part_is : (f : ℕ → ℕ) (i at count rest : ℕ) → ((i : ℕ) → f i < 256) → part (number_of f i (at + (count + rest))) at count ≡ number_of f (i + at) count
unfolding AreBytes
part_is f i at count rest small =
    let low = number_below f i at small in
    let up : number_of f i (at + (count + rest)) / 2 ^ (8 * at) ≡ number_of f (i + at) (count + rest) =
    ap (λ (n : ℕ). n / 2 ^ (8 * at)) (number_append f i at (count + rest))
    ∙ (add-mul-div_right (number_of f i at) (number_of f (i + at) (count + rest)) (pow_pos (8 * at))
    ∙ (let none = div-eq_of_lt low in omega (arith, none))) in
    ap (λ (n : ℕ). n % 2 ^ (8 * count)) (up ∙ number_append f (i + at) count rest)
    ∙ (add-mul-mod_self_right (number_of f (i + at) count) (number_of f (i + at + count) rest) (2 ^ (8 * count))
    ∙ mod-eq_of_lt (number_below f (i + at) count small))

-- the low bytes of a number make it up
pub low_is : (f : ℕ → ℕ) (i count r : ℕ) → ((k : ℕ) → k < count → f (i + k) ≡ part r k 1) → number_of f i count ≡ r % 2 ^ (8 * count)
unfolding number_of
low_is f i zero r h = let one : r % 1 ≡ 0 = omega arith in sym one
low_is f i (suc count) r h =
    let here : i + 0 ≡ i = omega arith in
    let first : f i ≡ r % 256 = sym (ap f here) ∙ (h 0 (omega arith) ∙ (let z : part r 0 1 ≡ r % 256 = omega arith in z)) in
    let rest : number_of f (i + 1) count ≡ r / 256 % 2 ^ (8 * count) = low_is f (i + 1) count (r / 256) (λ k l.
    let there : i + suc k ≡ i + 1 + k = omega arith in
    let e : 8 + 8 * k ≡ 8 * suc k = omega arith in
    sym (ap f there) ∙ (h (suc k) (omega (arith, l)) ∙ ap (λ (n : ℕ). n % 2 ^ 8) (sym (shr-shr r 8 (8 * k) ∙ ap (λ (n : ℕ). r / 2 ^ n) e)))) in
    let split : r % 2 ^ (8 * suc count) ≡ r / 256 % 2 ^ (8 * count) * 256 + r % 256 =
    ap (λ (n : ℕ). r % n) (power count ∙ (let c : 256 * 2 ^ (8 * count) ≡ 2 ^ (8 * count) * 256 = omega arith in c))
    ∙ mod-mul r (pow_pos (8 * count)) (omega arith) in
    omega (arith, first, rest, split)

-- the word of eight bytes
pub word_is : (bytes : List ℕ) (i : ℕ) → from_le_bytes w64 (take 8 (drop i bytes)) ≡ number_of (λ k. get_or bytes k 0) i 8
unfolding number_of
word_is bytes i =
    let f : ℕ → ℕ = λ k. get_or bytes k 0 in
    let at : (k : ℕ) → k < 8 → get_or (take 8 (drop i bytes)) k 0 ≡ get_or bytes (i + k) 0 = λ k l.
    get_or-take 8 (drop i bytes) k 0 l ∙ get_or-drop i bytes k 0 in
    let e0 : i + 0 ≡ i = omega arith in
    let b0 : get_or (take 8 (drop i bytes)) 0 0 ≡ get_or bytes (i) 0 = at 0 (omega arith) ∙ ap f e0 in
    let e1 : i + 1 ≡ i + 1 = omega arith in
    let b1 : get_or (take 8 (drop i bytes)) 1 0 ≡ get_or bytes (i + 1) 0 = at 1 (omega arith) ∙ ap f e1 in
    let e2 : i + 2 ≡ i + 1 + 1 = omega arith in
    let b2 : get_or (take 8 (drop i bytes)) 2 0 ≡ get_or bytes (i + 1 + 1) 0 = at 2 (omega arith) ∙ ap f e2 in
    let e3 : i + 3 ≡ i + 1 + 1 + 1 = omega arith in
    let b3 : get_or (take 8 (drop i bytes)) 3 0 ≡ get_or bytes (i + 1 + 1 + 1) 0 = at 3 (omega arith) ∙ ap f e3 in
    let e4 : i + 4 ≡ i + 1 + 1 + 1 + 1 = omega arith in
    let b4 : get_or (take 8 (drop i bytes)) 4 0 ≡ get_or bytes (i + 1 + 1 + 1 + 1) 0 = at 4 (omega arith) ∙ ap f e4 in
    let e5 : i + 5 ≡ i + 1 + 1 + 1 + 1 + 1 = omega arith in
    let b5 : get_or (take 8 (drop i bytes)) 5 0 ≡ get_or bytes (i + 1 + 1 + 1 + 1 + 1) 0 = at 5 (omega arith) ∙ ap f e5 in
    let e6 : i + 6 ≡ i + 1 + 1 + 1 + 1 + 1 + 1 = omega arith in
    let b6 : get_or (take 8 (drop i bytes)) 6 0 ≡ get_or bytes (i + 1 + 1 + 1 + 1 + 1 + 1) 0 = at 6 (omega arith) ∙ ap f e6 in
    let e7 : i + 7 ≡ i + 1 + 1 + 1 + 1 + 1 + 1 + 1 = omega arith in
    let b7 : get_or (take 8 (drop i bytes)) 7 0 ≡ get_or bytes (i + 1 + 1 + 1 + 1 + 1 + 1 + 1) 0 = at 7 (omega arith) ∙ ap f e7 in
    omega (arith, b0, b1, b2, b3, b4, b5, b6, b7)
