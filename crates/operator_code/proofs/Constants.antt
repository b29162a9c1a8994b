-- Constants, digit by digit: a register gets a number whose low bits are those that are wanted.
use Rattle.std.proofs.Common.{◌≡◌, ℕ, suc, ◌+◌, ◌-◌, ◌*◌, ◌/◌, ◌%◌, ◌^◌, ◌<◌, ◌≤◌, ◌⊎◌, inl, inr, List, [], ◌∷◌, ◌++◌, length, refl, ap, sym, ◌∙◌, arith}
use Rattle.std.proofs.Common.{false, ◌==◌, lit<}
use Rattle.std.specs.Prelude.{slice_set}
use Rattle.std.proofs.lemmas.Bool.Decides.{nat_tests}
use Rattle.std.proofs.lemmas.Bool.{cases_lt}
use Rattle.std.proofs.lemmas.Nat.{pow-add}
use Rattle.std.proofs.lemmas.List.{set-set}
use Rattle.std.proofs.Math.Nat.{mod-mod_of_dvd, dvd-mul_right, mod-add-mod, mod-add-div, mul-add-mod_self_left, add-mul-mod_self_left, mod-eq_of_lt}
use Rattle.std.proofs.Math.Nat.{one-le-pow, pow-le-pow_right, pow-suc}
use Rattle.rv64_isa.specs.declared.instr.Instr.{Instr}
use Rattle.rv64_isa.specs.declared.instr.Instr.TheVariants.{Lui, OpImmediate, ShiftImmediate}
use Rattle.rv64_isa.specs.declared.instr.ImmediateOperation.TheVariants.{Addi, Addiw}
use Rattle.rv64_isa.specs.declared.instr.ShiftOperation.TheVariants.{Slli}
use Rattle.rv64_isa.specs.declared.instr.Operation.TheVariants.{Add, Addw, Sll}
use Rattle.rv64_isa.specs.Rows.{Continues, row, read, written, next, upper}
use Rattle.rv64_isa.specs.Arithmetic.{sign_extended, result_of}
use Rattle.operator_code.specs.StraightLineCode.{IsConstant}
use Rattle.operator_code.proofs.Runs.{RunsFrom, stop, go, along, constant_runs}
use Rattle.operator_code.proofs.Registers.{read_same, Signed12, Signed32}

-- ---- Powers of 2 and remainders

pow_split : (a b : ℕ) → a ≤ b → 2 ^ b ≡ 2 ^ a * 2 ^ (b - a)
pow_split a b h = ap (λ (n : ℕ). 2 ^ n) (let e : b ≡ a + (b - a) = omega arith in e) ∙ pow-add 2 a (b - a)

pub low_of_64 : (bits a : ℕ) → bits ≤ 64 → a % 2 ^ 64 % 2 ^ bits ≡ a % 2 ^ bits
low_of_64 bits a h = ap (λ (n : ℕ). a % n % 2 ^ bits) (pow_split bits 64 h) ∙ mod-mod_of_dvd (2 ^ bits) a (dvd-mul_right (2 ^ bits) (2 ^ (64 - bits)))

top_of : (m p k : ℕ) → 0 < k → k ≤ m → (m * (p + 1) - k) % m ≡ m - k
top_of m p k some small =
    ap (λ (n : ℕ). n % m) (let e : m * (p + 1) - k ≡ m * p + (m - k) = omega arith in e) ∙ mul-add-mod_self_left m p (m - k) ∙ mod-eq_of_lt (omega arith)

from_top : (a b k : ℕ) → a ≤ b → 0 < k → k ≤ 2 ^ a → (2 ^ b - k) % 2 ^ a ≡ 2 ^ a - k
from_top a b k h some small =
    let c : ℕ = 2 ^ (b - a) in
    let e : 2 ^ b ≡ 2 ^ a * (c - 1 + 1) = pow_split a b h ∙ ap (λ (n : ℕ). 2 ^ a * n)
    (let f : c ≡ c - 1 + 1 = omega (arith, one-le-pow (b - a) 2 (lit< tt)) in f) in
    ap (λ (n : ℕ). (n - k) % 2 ^ a) e ∙ top_of (2 ^ a) (c - 1) k some small

-- s is the low part of a number, of w bits, sign-extended; the number lies near 0
pub near : (w h bits number s : ℕ) → 2 ^ w ≡ h + h → w ≤ 64 → w ≤ bits ⊎ (number < h) → bits ≤ 64 → number < 2 ^ bits → (number < h) ⊎
    ((h ≤ number) × (2 ^ bits - 1 - number < h)) →
    ((number % 2 ^ w < h) × (s ≡ number % 2 ^ w)) ⊎ ((h ≤ number % 2 ^ w) × (s ≡ number % 2 ^ w + (2 ^ 64 - 2 ^ w))) → s % 2 ^ bits ≡ number
near w h bits number s ww w64 wide b fits (inl n) (inl e) =
    let low : number % 2 ^ w ≡ number = mod-eq_of_lt (omega (arith, ww, n)) in
    ap (λ (m : ℕ). m % 2 ^ bits) (e.1 ∙ low) ∙ mod-eq_of_lt fits
near w h bits number s ww w64 wide b fits (inl n) (inr e) =
    let low : number % 2 ^ w ≡ number = mod-eq_of_lt (omega (arith, ww, n)) in absurd (omega (arith, n, low, e.0))
near w h bits number s ww w64 (inr small) b fits (inr n) e = absurd (omega (arith, small, n.0))
near w h bits number s ww w64 (inl long) b fits (inr n) e =
    let k : ℕ = 2 ^ bits - number in
    let some : 0 < k = omega (arith, fits) in
    let few : k ≤ h = omega (arith, n.1, fits) in
    let low : number % 2 ^ w ≡ 2 ^ w - k =
    ap (λ (m : ℕ). m % 2 ^ w) (let same : number ≡ 2 ^ bits - k = omega (arith, fits) in same) ∙ from_top w bits k long some (omega (arith, ww, few)) in
    let powers = pow-le-pow_right {n = 2} (lit< tt) {i = w} {j = 64} w64 in
    elim e as (λ g. s % 2 ^ bits ≡ number) [
      | inl g ↦ absurd (omega (arith, low, g.0, ww, few, some))
      | inr g ↦
          let value : s ≡ 2 ^ 64 - k = omega (arith, low, g.1, ww, few, powers) in
          ap (λ (m : ℕ). m % 2 ^ bits) value ∙ from_top bits 64 k b some (omega (arith, fits)) ∙
          (let back : 2 ^ bits - k ≡ number = omega (arith, fits) in back)
    ]

products : (q p j s : ℕ) → (q + p * j) * s ≡ q * s + p * s * j
products q p j s = omega arith

-- shifted up by as many bits
pub shifted : (bits rest count v q : ℕ) → rest + count ≡ bits → bits ≤ 64 → v % 2 ^ rest ≡ q → v * 2 ^ count % 2 ^ 64 % 2 ^ bits ≡ q * 2 ^ count % 2 ^ bits
shifted bits rest count v q e b low =
    let j : ℕ = v / 2 ^ rest in
    let whole : v ≡ q + 2 ^ rest * j = sym (mod-add-div v (2 ^ rest)) ∙ ap (λ (n : ℕ). n + 2 ^ rest * j) low in
    let power : 2 ^ rest * 2 ^ count ≡ 2 ^ bits = sym (pow-add 2 rest count) ∙ ap (λ (n : ℕ). 2 ^ n) e in
    low_of_64 bits (v * 2 ^ count) b ∙
    ap (λ (n : ℕ). n * 2 ^ count % 2 ^ bits) whole ∙
    ap (λ (n : ℕ). n % 2 ^ bits) (products q (2 ^ rest) j (2 ^ count)) ∙
    ap (λ (n : ℕ). (q * 2 ^ count + n * j) % 2 ^ bits) power ∙
    add-mul-mod_self_left (q * 2 ^ count) (2 ^ bits) j

-- the low digit is added
pub added : (bits number u v s : ℕ) → bits ≤ 64 → number < 2 ^ bits → v % 2 ^ bits ≡ u % 2 ^ bits → (u + s ≡ number) ⊎ (u + s ≡ number + 2 ^ 64) →
    (v + s) % 2 ^ 64 % 2 ^ bits ≡ number
added bits number u v s b fits same sum =
    low_of_64 bits (v + s) b ∙ sym (mod-add-mod v (2 ^ bits) s) ∙ ap (λ (n : ℕ). (n + s) % 2 ^ bits) same ∙ mod-add-mod u (2 ^ bits) s ∙ by sum
  where
    by : (u + s ≡ number) ⊎ (u + s ≡ number + 2 ^ 64) → (u + s) % 2 ^ bits ≡ number
    by (inl e) = ap (λ (n : ℕ). n % 2 ^ bits) e ∙ mod-eq_of_lt fits
    by (inr e) =
        ap (λ (n : ℕ). n % 2 ^ bits) e ∙ ap (λ (n : ℕ). (number + n) % 2 ^ bits) (pow_split bits 64 b) ∙
        add-mul-mod_self_left number (2 ^ bits) (2 ^ (64 - bits)) ∙ mod-eq_of_lt fits

pub digit_sum : (number u s : ℕ) → u ≡ (number + 2048) / 4096 * 4096 → Signed12 (number % 4096) → s ≡ sign_extended 12 64 (number % 4096) →
    (u + s ≡ number) ⊎ (u + s ≡ number + 2 ^ 64)
digit_sum number u s e (inl f) g = inl (omega (arith, e, f.0, f.1, g))
digit_sum number u s e (inr f) g = inr (omega (arith, e, f.0, f.1, g))

-- ---- Code of constants

pub written_is : (x : List ℕ) (r v : ℕ) → 0 < r → written x r v ≡ slice_set x r v
written_is x r v some = let t : (r == 0) ≡ false = grind (arith, nat_tests) in rw (t, written) refl

-- code of one instruction
pub one : (r v : ℕ) (i : Instr) → ((x : List ℕ) (pc : ℕ) → read x 0 ≡ 0 → row i x pc ≡ Continues (slice_set x r v) (next pc)) → IsConstant r v (i ∷ [])
one r v i e = record {
  unseen = λ x pc l z. (go i [] x (slice_set x r v) pc [] (slice_set x r v) (e x pc z) (stop (slice_set x r v) (pc + 4))).sees;
  changes = λ x pc l z. (go i [] x (slice_set x r v) pc [] (slice_set x r v) (e x pc z) (stop (slice_set x r v) (pc + 4))).leaves;
}

-- one more instruction, which computes the register's next value from its last
pub more : (r v w : ℕ) (code : List Instr) (i : Instr) → r < 32 → IsConstant r v code →
    ((x : List ℕ) (pc : ℕ) → read x r ≡ v → row i x pc ≡ Continues (slice_set x r w) (next pc)) → IsConstant r w (code ++ i ∷ [])
more r v w code i small c e = record {
  unseen = λ x pc l z. (both x pc l z).sees;
  changes = λ x pc l z. (both x pc l z).leaves ∙ set-set x r v w;
}
  where
    both : (x : List ℕ) (pc : ℕ) → length x ≡ 32 → read x 0 ≡ 0 → RunsFrom (code ++ i ∷ []) x pc [] (slice_set (slice_set x r v) r w)
    both x pc l z =
        let y : List ℕ = slice_set x r v in
        let w' : List ℕ = slice_set y r w in
        let at : ℕ = pc + 4 * length code in
        along code (i ∷ []) x y w' pc [] [] (constant_runs r v code x pc c l z) (go i [] y w' at [] w' (e y at (read_same x r v l small)) (stop w' (at + 4)))

pub addi_row : (r low : ℕ) → 0 < r → IsConstant r (sign_extended 12 64 low % 2 ^ 64) (OpImmediate Addi r 0 low ∷ [])
unfolding row result_of
addi_row r low some = one r (sign_extended 12 64 low % 2 ^ 64) (OpImmediate Addi r 0 low)
    (λ x pc z. ap (λ (y : List ℕ). Continues y (next pc)) (written_is x r (result_of Add (read x 0) (sign_extended 12 64 low)) some) ∙
    ap (λ (n : ℕ). Continues (slice_set x r (result_of Add n (sign_extended 12 64 low))) (next pc)) z ∙
    ap (λ (n : ℕ). Continues (slice_set x r (n % 2 ^ 64)) (next pc)) (let e : 0 + sign_extended 12 64 low ≡ sign_extended 12 64 low = omega arith in e))

pub lui_row : (r u : ℕ) → 0 < r → IsConstant r (upper u) (Lui r u ∷ [])
unfolding row
lui_row r u some = one r (upper u) (Lui r u) (λ x pc z. ap (λ (y : List ℕ). Continues y (next pc)) (written_is x r (upper u) some))

pub slli_row : (r v count : ℕ) (code : List Instr) → 0 < r → r < 32 → count < 64 → IsConstant r v code →
    IsConstant r (v * 2 ^ count % 2 ^ 64) (code ++ ShiftImmediate Slli r r count ∷ [])
unfolding row result_of
slli_row r v count code some small few c = more r v (v * 2 ^ count % 2 ^ 64) code (ShiftImmediate Slli r r count) small c
    (λ x pc e. ap (λ (y : List ℕ). Continues y (next pc)) (written_is x r (result_of Sll (read x r) count) some) ∙
    ap (λ (n : ℕ). Continues (slice_set x r (result_of Sll n count)) (next pc)) e ∙
    ap (λ (n : ℕ). Continues (slice_set x r (v * 2 ^ n % 2 ^ 64)) (next pc)) (mod-eq_of_lt few))

pub add_row : (r v low : ℕ) (code : List Instr) → 0 < r → r < 32 → IsConstant r v code →
    IsConstant r ((v + sign_extended 12 64 low) % 2 ^ 64) (code ++ OpImmediate Addi r r low ∷ [])
unfolding row result_of
add_row r v low code some small c = more r v ((v + sign_extended 12 64 low) % 2 ^ 64) code (OpImmediate Addi r r low) small c
    (λ x pc e. ap (λ (y : List ℕ). Continues y (next pc)) (written_is x r (result_of Add (read x r) (sign_extended 12 64 low)) some) ∙
    ap (λ (n : ℕ). Continues (slice_set x r (result_of Add n (sign_extended 12 64 low))) (next pc)) e)

pub addiw_row : (r v low : ℕ) (code : List Instr) → 0 < r → r < 32 → IsConstant r v code →
    IsConstant r (sign_extended 32 64 ((v + sign_extended 12 64 low) % 2 ^ 32)) (code ++ OpImmediate Addiw r r low ∷ [])
unfolding row result_of
addiw_row r v low code some small c = more r v (sign_extended 32 64 ((v + sign_extended 12 64 low) % 2 ^ 32)) code (OpImmediate Addiw r r low) small c
    (λ x pc e. ap (λ (y : List ℕ). Continues y (next pc)) (written_is x r (result_of Addw (read x r) (sign_extended 12 64 low)) some) ∙
    ap (λ (n : ℕ). Continues (slice_set x r (result_of Addw n (sign_extended 12 64 low))) (next pc)) e)

-- LUI and ADDIW together
pub word_parts : (n x s : ℕ) → n < 2 ^ 32 → Signed32 ((n + 2048) % 2 ^ 32 / 4096 * 2 ^ 12) → x ≡ upper ((n + 2048) % 2 ^ 32 / 4096) →
    Signed12 (n % 4096) → s ≡ sign_extended 12 64 (n % 4096) → (x + s) % 2 ^ 32 ≡ n
word_parts n x s fits (inl a) e (inl b) f = omega (arith, fits, a.0, a.1, e, b.0, b.1, f)
word_parts n x s fits (inl a) e (inr b) f = omega (arith, fits, a.0, a.1, e, b.0, b.1, f)
word_parts n x s fits (inr a) e (inl b) f = omega (arith, fits, a.0, a.1, e, b.0, b.1, f)
word_parts n x s fits (inr a) e (inr b) f = omega (arith, fits, a.0, a.1, e, b.0, b.1, f)

-- a number of few bits is small
pub wide : (w h bits number : ℕ) → 2 ^ w ≡ h + h → number < 2 ^ bits → (w ≤ bits) ⊎ (number < h)
wide w h bits number ww fits = by (cases_lt bits w)
  where
    by : (bits < w) ⊎ (w ≤ bits) → (w ≤ bits) ⊎ (number < h)
    by (inl less) =
        let powers : 2 ^ suc bits ≤ 2 ^ w = pow-le-pow_right {n = 2} (lit< tt) {i = suc bits} {j = w} (omega (arith, less)) in
        inr (omega (arith, ww, fits, powers, pow-suc 2 bits))
    by (inr h) = inl h
