-- Each step in which a constant is built.
use Rattle.std.proofs.Common.{◌≡◌, ℕ, ◌+◌, ◌-◌, ◌*◌, ◌/◌, ◌%◌, ◌^◌, ◌<◌, ◌≤◌, ◌⊎◌, inl, inr, List, [], ◌∷◌, ◌++◌, refl, ap, sym, ◌∙◌, arith, Bool, true}
use Rattle.std.proofs.Common.{false, ◌||◌, ◌==◌, if◌then◌else◌, subst, lit<, lit≤}
use Rattle.std.specs.Prelude.{nat_lt, slice_set}
use Rattle.std.proofs.lemmas.Bool.Decides.{nat_tests}
use Rattle.std.proofs.lemmas.Bool.{cases_lt}
use Rattle.std.proofs.lemmas.Nat.{pow-add}
use Rattle.std.proofs.lemmas.List.{append-nil}
use Rattle.std.proofs.Math.Nat.{mod-lt, mod-eq_of_lt, pow-le-pow_right}
use Rattle.std.specs.Int.Count.{count_trailing_zeros}
use Rattle.rv64_isa.specs.declared.instr.Instr.{Instr}
use Rattle.rv64_isa.specs.declared.instr.Instr.TheVariants.{OpImmediate, ShiftImmediate, Lui}
use Rattle.rv64_isa.specs.declared.instr.ImmediateOperation.TheVariants.{Addi, Addiw}
use Rattle.rv64_isa.specs.declared.instr.ShiftOperation.TheVariants.{Slli}
use Rattle.rv64_isa.specs.Rows.{upper}
use Rattle.rv64_isa.specs.Arithmetic.{sign_extended}
use Rattle.operator_code.specs.StraightLineCode.{IsConstant}
use Rattle.operator_code.specs.links.Digits.{IsConstantOfBits}
use Rattle.operator_code.specs.links.InstructionLists.{word_code, with_digit}
use Rattle.operator_code.proofs.Registers.{signed12, signed32}
use Rattle.operator_code.proofs.Constants.{near, wide, low_of_64, shifted, added, digit_sum, addi_row, lui_row, slli_row, add_row, addiw_row, word_parts}
use Rattle.operator_code.proofs.Zeros.{whole, left_below, digits_left}

pub equal_by : (a b : ℕ) → (a == b) ≡ true → a ≡ b
equal_by a b h = grind (arith, nat_tests)

-- the test of a number near 0
abbrev pub is_near : (h number top : ℕ) → Bool
is_near h number top = nat_lt number h || nat_lt (top - 1 - number) h

pub near_test : (h number top : ℕ) → is_near h number top ≡ true → (number < h) ⊎ ((h ≤ number) × (top - 1 - number < h))
near_test h number top e = by (cases_lt number h)
  where
    by : (number < h) ⊎ (h ≤ number) → (number < h) ⊎ ((h ≤ number) × (top - 1 - number < h))
    by (inl l) = inl l
    by (inr g) =
        let first : nat_lt number h ≡ false = grind (arith, nat_tests) in
        let rest : nat_lt (top - 1 - number) h ≡ true = sym (ap (λ (b : Bool). b || nat_lt (top - 1 - number) h) first) ∙ e in
        inr (g, grind (arith, nat_tests))

far_test : (h number top : ℕ) → is_near h number top ≡ false → (h ≤ number) × (h ≤ top - 1 - number)
far_test h number top e = by (cases_lt number h)
  where
    by : (number < h) ⊎ (h ≤ number) → (h ≤ number) × (h ≤ top - 1 - number)
    by (inl l) = let first : nat_lt number h ≡ true = grind (arith, nat_tests) in
        absurd (let z : true ≡ false = sym (ap (λ (b : Bool). b || nat_lt (top - 1 - number) h) first) ∙ e in cc z)
    by (inr g) =
        let first : nat_lt number h ≡ false = grind (arith, nat_tests) in
        let rest : nat_lt (top - 1 - number) h ≡ false = sym (ap (λ (b : Bool). b || nat_lt (top - 1 - number) h) first) ∙ e in
        (g, grind (arith, nat_tests))

-- an ADDI
pub addi_digits : (r bits number : ℕ) → 0 < r → bits ≤ 64 → number < 2 ^ bits → is_near 2048 number (2 ^ bits) ≡ true →
    IsConstantOfBits r bits number (OpImmediate Addi r 0 (number % 4096) ∷ [])
addi_digits r bits number some b fits e = record {
  value = sign_extended 12 64 (number % 4096) % 2 ^ 64;
  small = mod-lt (sign_extended 12 64 (number % 4096)) {m = 2 ^ 64} (lit< tt);
  low_bits = low_of_64 bits (sign_extended 12 64 (number % 4096)) b ∙
      near 12 2048 bits number (sign_extended 12 64 (number % 4096)) refl (lit≤ tt) (wide 12 2048 bits number refl fits) b fits
      (near_test 2048 number (2 ^ bits) e) (signed12 (number % 4096));
  constant = addi_row r (number % 4096) some;
}

-- a LUI with or without an ADDIW
pub word_digits : (r bits number : ℕ) (code : List Instr) → bits ≤ 64 → number < 2 ^ bits → is_near 2147483648 number (2 ^ bits) ≡ true →
    IsConstant r (sign_extended 32 64 (number % 2 ^ 32)) code → IsConstantOfBits r bits number code
word_digits r bits number code b fits e c = record {
  value = sign_extended 32 64 (number % 2 ^ 32);
  small = elim (signed32 (number % 2 ^ 32)) as (λ s. sign_extended 32 64 (number % 2 ^ 32) < 2 ^ 64)
      [ inl f ↦ omega (arith, f.0, f.1) | inr f ↦ omega (arith, f.0, f.1, mod-lt number {m = 2 ^ 32} (lit< tt)) ];
  low_bits = near 32 2147483648 bits number (sign_extended 32 64 (number % 2 ^ 32)) refl (lit≤ tt) (wide 32 2147483648 bits number refl fits) b fits
      (near_test 2147483648 number (2 ^ bits) e) (signed32 (number % 2 ^ 32));
  constant = c;
}

abbrev upper_part : ℕ → ℕ
upper_part n = (n + 2048) % 2 ^ 32 / 4096

pub lui_word : (r n : ℕ) → 0 < r → n < 2 ^ 32 → n % 4096 ≡ 0 → IsConstant r (sign_extended 32 64 n) (Lui r (upper_part n) ∷ [])
lui_word r n some fits low =
    let same : upper_part n * 2 ^ 12 ≡ n = omega (arith, fits, low) in
    let made = lui_row r (upper_part n) some in
    record {
      unseen = made.unseen;
      changes = λ x pc l z. made.changes x pc l z ∙ ap (λ (m : ℕ). slice_set x r (sign_extended 32 64 m)) same;
    }

pub addiw_word : (r n : ℕ) → 0 < r → r < 32 → n < 2 ^ 32 → IsConstant r (sign_extended 32 64 n)
    (Lui r (upper_part n) ∷ [] ++ OpImmediate Addiw r r (n % 4096) ∷ [])
addiw_word r n some small fits =
    let made = addiw_row r (upper (upper_part n)) (n % 4096) (Lui r (upper_part n) ∷ []) some small (lui_row r (upper_part n) some) in
    let same = word_parts n (upper (upper_part n)) (sign_extended 12 64 (n % 4096)) fits (signed32 (upper_part n * 2 ^ 12)) refl (signed12 (n % 4096)) refl in
    record {
      unseen = made.unseen;
      changes = λ x pc l z. made.changes x pc l z ∙ ap (λ (m : ℕ). slice_set x r (sign_extended 32 64 m)) same;
    }

pub word_is : (r n : ℕ) → 0 < r → r < 32 → n < 2 ^ 32 → IsConstant r (sign_extended 32 64 n) (word_code r n)
word_is r n some small fits = by (n % 4096 == 0) refl
  where
    by : (t : Bool) → (n % 4096 == 0) ≡ t → IsConstant r (sign_extended 32 64 n)
        (Lui r (upper_part n) ∷ [] ++ (if t then [] else OpImmediate Addiw r r (n % 4096) ∷ []))
    by true h = lui_word r n some fits (equal_by (n % 4096) 0 h)
    by false h = addiw_word r n some small fits

-- ---- More digits

abbrev pub rounded : ℕ → ℕ
rounded number = (number + 2048) / 4096

-- a number that is not near 0, its upper part, and the zeros at the end of that
pub record Far (bits number : ℕ) : Type 0 where
  pub long : 33 ≤ bits
  pub fits : number + 2048 < 2 ^ 64
  pub some : 0 < rounded number
  pub zeros_fit : 12 + count_trailing_zeros 64 (rounded number) < bits
  pub rest : rounded number / 2 ^ count_trailing_zeros 64 (rounded number) < 2 ^ (bits - 12 - count_trailing_zeros 64 (rounded number))
  pub again : rounded number / 2 ^ count_trailing_zeros 64 (rounded number) * 2 ^ count_trailing_zeros 64 (rounded number) ≡ rounded number

pub far : (bits number : ℕ) → bits ≤ 64 → number < 2 ^ bits → is_near 2147483648 number (2 ^ bits) ≡ false → Far bits number
far bits number b fits e =
    let away = far_test 2147483648 number (2 ^ bits) e in
    let most = pow-le-pow_right {n = 2} (lit< tt) {i = bits} {j = 64} b in
    let long = long_enough (cases_lt bits 33) in
    let power : 2 ^ bits ≡ 4096 * 2 ^ (bits - 12) = ap (λ (m : ℕ). 2 ^ m) (let same : bits ≡ 12 + (bits - 12) = omega (arith, long) in same) ∙
    pow-add 2 12 (bits - 12) in
    let some : 0 < rounded number = omega (arith, away.0) in
    let below : rounded number < 2 ^ (bits - 12) = omega (arith, power, away.1, fits) in
    let top : rounded number < 2 ^ 64 = omega (arith, most, fits) in
    let again = whole 64 (rounded number) some top in
    let zeros : ℕ = count_trailing_zeros 64 (rounded number) in
    let few = left_below (rounded number / 2 ^ zeros) zeros (bits - 12) (rounded number) again some below in
    record {
      long = long;
      fits = omega (arith, away.1, most, fits);
      some = some;
      zeros_fit = omega (arith, few);
      rest = digits_left (rounded number / 2 ^ zeros) zeros (bits - 12) (rounded number) again (omega (arith, few)) below;
      again = again;
    }
  where
    long_enough : (bits < 33) ⊎ (33 ≤ bits) → 33 ≤ bits
    long_enough (inl h) =
        let powers = pow-le-pow_right {n = 2} (lit< tt) {i = bits} {j = 32} (omega (arith, h)) in
        let away = far_test 2147483648 number (2 ^ bits) e in absurd (omega (arith, powers, away.0, away.1))
    long_enough (inr h) = h

module _ (r bits number : ℕ) (code : List Instr) (some : 0 < r) (small : r < 32) (b : bits ≤ 64) (fits : number < 2 ^ bits) (f : Far bits number) where
  abbrev count : ℕ
  count = 12 + count_trailing_zeros 64 (rounded number)

  abbrev part : ℕ
  part = rounded number / 2 ^ count_trailing_zeros 64 (rounded number)

  abbrev left : ℕ
  left = bits - 12 - count_trailing_zeros 64 (rounded number)

  raised : part * 2 ^ count ≡ rounded number * 4096
  raised = ap (λ (m : ℕ). part * m) (pow-add 2 12 (count_trailing_zeros 64 (rounded number))) ∙ omega (arith, f.again)

  shifted_part : (v : ℕ) → v % 2 ^ left ≡ part → v * 2 ^ count % 2 ^ 64 % 2 ^ bits ≡ rounded number * 4096 % 2 ^ bits
  shifted_part v low = shifted bits left count v part (omega (arith, f.zeros_fit)) b low ∙ ap (λ (m : ℕ). m % 2 ^ bits) raised

  pub slli_digits : number % 4096 ≡ 0 → IsConstantOfBits r left part code → IsConstantOfBits r bits number (code ++ ShiftImmediate Slli r r count ∷ [])
  slli_digits none c = record {
    value = c.value * 2 ^ count % 2 ^ 64;
    small = mod-lt (c.value * 2 ^ count) {m = 2 ^ 64} (lit< tt);
    low_bits = shifted_part c.value c.low_bits ∙ ap (λ (m : ℕ). m % 2 ^ bits)
        (let same : rounded number * 4096 ≡ number = omega (arith, none) in same) ∙ mod-eq_of_lt fits;
    constant = slli_row r c.value count code some small (omega (arith, f.zeros_fit, b)) c.constant;
  }

  pub added_digits : IsConstantOfBits r left part code → IsConstantOfBits r bits number
      (code ++ ShiftImmediate Slli r r count ∷ [] ++ OpImmediate Addi r r (number % 4096) ∷ [])
  added_digits c =
      let v : ℕ = c.value * 2 ^ count % 2 ^ 64 in
      let s : ℕ = sign_extended 12 64 (number % 4096) in
      record {
        value = (v + s) % 2 ^ 64;
        small = mod-lt (v + s) {m = 2 ^ 64} (lit< tt);
        low_bits = added bits number (rounded number * 4096) v s b fits (shifted_part c.value c.low_bits)
            (digit_sum number (rounded number * 4096) s refl (signed12 (number % 4096)) refl);
        constant = add_row r v (number % 4096) (code ++ ShiftImmediate Slli r r count ∷ []) some small
            (slli_row r c.value count code some small (omega (arith, f.zeros_fit, b)) c.constant);
      }

  pub more_digits : (next : List Instr) → next ≡ with_digit r count (number % 4096) code → IsConstantOfBits r left part code →
      IsConstantOfBits r bits number next
  more_digits next e c = subst (λ (is : List Instr). IsConstantOfBits r bits number is) (sym e) (by (number % 4096 == 0) refl)
    where
      by : (t : Bool) → (number % 4096 == 0) ≡ t → IsConstantOfBits r bits number
          (code ++ ShiftImmediate Slli r r count ∷ [] ++ (if t then [] else OpImmediate Addi r r (number % 4096) ∷ []))
      by true h = subst (λ (is : List Instr). IsConstantOfBits r bits number is) (sym (append-nil (code ++ ShiftImmediate Slli r r count ∷ [])))
          (slli_digits (equal_by (number % 4096) 0 h) c)
      by false h = added_digits c

pub word_below : (number : ℕ) → number % 2 ^ 32 < 2 ^ 32
word_below number = mod-lt number {m = 2 ^ 32} (lit< tt)

-- all 64 digits are the number
pub all_digits : (r number : ℕ) (code : List Instr) → IsConstantOfBits r 64 number code → IsConstant r number code
all_digits r number code c =
    let same : c.value ≡ number = sym (mod-eq_of_lt c.small) ∙ c.low_bits in
    record {
      unseen = c.constant.unseen;
      changes = λ x pc l z. c.constant.changes x pc l z ∙ ap (λ (m : ℕ). slice_set x r m) same;
    }
