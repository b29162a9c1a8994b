use Rattle.std.proofs.Common.{ap, sym, ◌∙◌}
use Rattle.c_tree.specs.TextReadings.{is_high}
use Rattle.c_reader.proofs.Nestings.{nesting_more, nests_high_none}
use Rattle.c_reader.proofs.nesting.first_high.Goals as goal

pub loop-i-init : goal.loop-i-init
loop-i-init c =
    (record { nesting = c.outside-nesting.ensures; low = nests_high_none }, ap is_high c.outside-nesting.ensures)

pub returns-then-is_high-clause-high : goal.returns-then-is_high-clause-high
returns-then-is_high-clause-high c =
    let step = nesting_more c.args.tokens.now c.loop-i.i _ _ _ c.loop-i.invariant.0 c.loop-i-test.true c.within_lexeme-nesting.ensures in
    step.1 ∙ sym c.if-is_high.ensures

pub loop-i-preserved : goal.loop-i-preserved
loop-i-preserved c =
    let step = nesting_more c.args.tokens.now c.loop-i.i _ _ _ c.loop-i.invariant.0 c.loop-i-test.true c.within_lexeme-nesting.ensures in
    (record { nesting = step.0; low = step.1 ∙ sym c.if-is_high.ensures }, sym c.if-is_high.ensures)
