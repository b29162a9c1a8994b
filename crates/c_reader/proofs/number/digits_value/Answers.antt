use Rattle.std.proofs.Common.{◌+◌, ◌*◌, ◌∙◌, ap, sym, get_or}
use Rattle.std.specs.Char.{digit_value}
use Rattle.std.proofs.lemmas.Int.Digits.{digits_value_more}
use Rattle.c_reader.proofs.Numbers.{limit-le-digits_value}
use Rattle.c_reader.proofs.number.digits_value.Goals as goal

pub returns-in_err-number-clause-none : goal.returns-in_err-number-clause-none
returns-in_err-number-clause-none c =
    rw c.from_residual.ensures
    (limit-le-digits_value c.args.radix c.args.digits.now _ c.loop-digit.number c.loop-digit.digit-index c.requires c.loop-digit-test.true
    c.loop-digit.invariant c.in_err-number.ensures.none)

pub loop-digit-preserved : goal.loop-digit-preserved
loop-digit-preserved c =
    c.in_ok-number.ensures.value
    ∙ ap (λ n. n * c.args.radix + digit_value (get_or c.args.digits.now c.loop-digit.digit-index 0)) c.loop-digit.invariant
    ∙ sym (digits_value_more c.args.radix c.args.digits.now c.loop-digit.digit-index c.loop-digit-test.true)
