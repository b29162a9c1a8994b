use Rattle.std.proofs.Common.{◌∙◌, sym}
use Rattle.source_machine.proofs.FreeThreads.{none_is_among, one_is_among, others_pass}
use Rattle.source_machine.proofs.locks.hold_none.Goals as goal

pub loop-holder-preserved : goal.loop-holder-preserved
loop-holder-preserved c = λ thread below.
    c.loop-holder.invariant thread below
    ∙ others_pass c.args.holders.now c.args.threads c.loop-holder.holder-index thread _ c.loop-holder-test.true below c.if-is_among.ensures

pub returns-then-is_among : goal.returns-then-is_among
returns-then-is_among c = sym (one_is_among c.args.holders.now c.args.threads c.loop-holder.holder-index _ c.loop-holder-test.true c.loop-holder.invariant
    c.if-is_among.ensures)

pub returns : goal.returns
returns c = sym (none_is_among c.args.holders.now c.args.threads c.loop-holder.holder-index c.loop-holder-test.false c.loop-holder.invariant)
