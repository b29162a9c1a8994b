use Rattle.std.proofs.Common.{◌<◌, ◌≤◌, get_or, ◌∙◌, arith}
use Rattle.run_scripts.proofs.Numbers.{digit_more, value_more}
use Rattle.run_scripts.proofs.number.leading_digits.Goals as goal

pub loop-count-preserved : goal.loop-count-preserved
loop-count-preserved c =
    let text = c.args.text.now in
    let i = c.loop-count.count in
    let digit = c.if-is_ascii_digit.ensures.cases in
    let low : 48 ≤ get_or text i 0 = digit.0 in
    let high : get_or text i 0 < 58 = omega (arith, digit.1) in (
      omega (arith, c.loop-count.invariant.0, digit_more text i c.loop-count-test.true low high),
      omega (arith, c.loop-count-test.true),
      omega (arith, c.with_digit-number.ensures),
      c.with_digit-number.ensures ∙ value_more text i c.loop-count.number c.loop-count-test.true low high c.loop-count.invariant.3,
    )
