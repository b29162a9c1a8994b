use Rattle.std.proofs.Common.{sym, ◌∙◌, arith}
use Rattle.run_scripts.specs.links.Lengths.{is_gap}
use Rattle.run_scripts.proofs.Gaps.{piece_at}
use Rattle.run_scripts.proofs.piece.piece_length.Goals as goal

pub loop-at-preserved : goal.loop-at-preserved
loop-at-preserved c =
    let one = piece_at (is_gap c.args.gap) c.args.text.now c.loop-at.at c.loop-at-test.true (sym c.begins_gap.ensures ∙ c.if-not-begins_gap.true) in
    (omega (arith, c.loop-at.invariant.0, one), omega (arith, c.loop-at-test.true))
