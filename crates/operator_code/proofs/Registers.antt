-- Reads of registers after writes, and immediates.
use Rattle.std.proofs.Common.{◌≡◌, ◌≢◌, ℕ, ◌+◌, ◌-◌, ◌^◌, ◌<◌, ◌≤◌, List, length, refl, ◌∙◌, arith, eq-eqb, Bool, true, false, ◌==◌, ◌⊎◌, inl, inr, ap, ◌%◌}
use Rattle.std.specs.Prelude.{slice_set, nat_le}
use Rattle.std.proofs.lemmas.List.{get_or-set_same, get_or-set_other, length-set}
use Rattle.std.proofs.lemmas.Bool.Decides.{nat_tests}
use Rattle.std.proofs.Math.Nat.{mod-eq_of_lt}
use Rattle.rv64_isa.specs.declared.instr.Operation.TheVariants.{Add}
use Rattle.rv64_isa.specs.Rows.{read, displaced}
use Rattle.rv64_isa.specs.Arithmetic.{sign_extended, result_of}

pub differ : (a b : ℕ) → (a == b) ≡ false → a ≢ b
differ a b n e = let t : (a == b) ≡ true = eq-eqb a b e in cc (n, t)

pub read_other : (y : List ℕ) (i j v : ℕ) → (j == i) ≡ false → read (slice_set y i v) j ≡ read y j
read_other y i j v n = get_or-set_other y i j v 0 (differ j i n)

pub read_same : (y : List ℕ) (i v : ℕ) → length y ≡ 32 → i < 32 → read (slice_set y i v) i ≡ v
read_same y i v l b = get_or-set_same y i v 0 (omega (arith, l, b))

pub length-changed : (y : List ℕ) (i v : ℕ) → length y ≡ 32 → length (slice_set y i v) ≡ 32
length-changed y i v l = length-set y i v ∙ l

-- ---- Arithmetic

pub small_immediate : (n : ℕ) → n < 2 ^ 11 → sign_extended 12 64 n ≡ n
small_immediate n h = let t : nat_le 2048 n ≡ false = grind (arith, nat_tests) in rw t refl

pub add_small : (a b : ℕ) → a + b < 2 ^ 64 → result_of Add a b ≡ a + b
unfolding result_of
add_small a b h = mod-eq_of_lt h

pub displaced_small : (a n : ℕ) → n < 2 ^ 11 → a + n < 2 ^ 64 → displaced a 12 n ≡ a + n
displaced_small a n h l = ap (λ (m : ℕ). (a + m) % 2 ^ 64) (small_immediate n h) ∙ mod-eq_of_lt l

-- ---- Immediates, sign-extended

abbrev pub Signed12 : ℕ → Type 0
Signed12 n = ((n < 2048) × (sign_extended 12 64 n ≡ n)) ⊎ ((2048 ≤ n) × (sign_extended 12 64 n ≡ n + (2 ^ 64 - 2 ^ 12)))

pub signed12 : (n : ℕ) → Signed12 n
signed12 n = by (nat_le 2048 n) refl
  where
    by : (b : Bool) → nat_le 2048 n ≡ b → Signed12 n
    by true e = inr (grind (arith, nat_tests), rw e refl)
    by false e = inl (grind (arith, nat_tests), rw e refl)

abbrev pub Signed32 : ℕ → Type 0
Signed32 n = ((n < 2 ^ 31) × (sign_extended 32 64 n ≡ n)) ⊎ ((2 ^ 31 ≤ n) × (sign_extended 32 64 n ≡ n + (2 ^ 64 - 2 ^ 32)))

pub signed32 : (n : ℕ) → Signed32 n
signed32 n = by (nat_le 2147483648 n) refl
  where
    by : (b : Bool) → nat_le 2147483648 n ≡ b → Signed32 n
    by true e = inr (grind (arith, nat_tests), rw e refl)
    by false e = inl (grind (arith, nat_tests), rw e refl)
