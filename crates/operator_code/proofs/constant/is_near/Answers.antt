use Rattle.std.proofs.Common.{◌≡◌, ◌≤◌, ◌-◌, ◌/◌, ◌^◌, ℕ, Bool, false, ap, sym, ◌∙◌, arith}
use Rattle.std.specs.Prelude.{◌||◌, nat_lt}
use Rattle.std.proofs.lemmas.Bool.Decides.{nat_tests}
use Rattle.std.proofs.lemmas.Nat.Bits.{ones_shr}
use Rattle.operator_code.proofs.constant.is_near.Goals as goal

-- the greatest number of so many bits
greatest : (bits : ℕ) → bits ≤ 64 → 18446744073709551615 / 2 ^ (64 - bits) ≡ 2 ^ bits - 1
greatest bits b = ones_shr 64 (64 - bits) (omega arith) ∙ ap (λ (n : ℕ). 2 ^ n - 1) (let e : 64 - (64 - bits) ≡ bits = omega arith in e)

from_half : (number half top top' : ℕ) → half ≤ number → top' ≡ top - 1 → nat_lt (top' - number) half ≡ (nat_lt number half || nat_lt (top - 1 - number) half)
from_half number half top top' h e =
    let first : nat_lt number half ≡ false = grind (arith, nat_tests) in
    ap (λ (n : ℕ). nat_lt (n - number) half) e ∙ sym (ap (λ (b : Bool). b || nat_lt (top - 1 - number) half) first)

pub overflow_sub-result-else-number-half : goal.overflow_sub-result-else-number-half
overflow_sub-result-else-number-half c = omega (arith, greatest c.args.bits c.requires.bits, c.requires.number)

pub returns-else-number-half : goal.returns-else-number-half
returns-else-number-half c = from_half c.args.number c.args.half (2 ^ c.args.bits)
    (18446744073709551615 / 2 ^ (64 - c.args.bits)) c.if-number-half.false (greatest c.args.bits c.requires.bits)
