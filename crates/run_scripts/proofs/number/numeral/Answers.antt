use Rattle.std.proofs.Common.{◌<◌, ◌≤◌, get_or, ◌∙◌, arith}
use Rattle.run_scripts.proofs.Numbers.{all_more, value_more}
use Rattle.run_scripts.proofs.number.numeral.Goals as goal

pub loop-digit-preserved : goal.loop-digit-preserved
loop-digit-preserved c =
    let text = c.args.text.now in
    let i = c.loop-digit.digit-index in
    let digit = c.if-not-is_ascii_digit.ensures.cases in
    let low : 48 ≤ get_or text i 0 = digit.0 in
    let high : get_or text i 0 < 58 = omega (arith, digit.1) in (
      omega (arith, c.with_digit-number.ensures),
      all_more text i c.loop-digit-test.true c.loop-digit.invariant.1 low high,
      c.with_digit-number.ensures ∙ value_more text i c.loop-digit.number c.loop-digit-test.true low high c.loop-digit.invariant.2,
      c.loop-digit.invariant.3,
    )
