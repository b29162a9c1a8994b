use Rattle.region_checker.proofs.PropagationPasses.{pass_none, pass_grown, pass_kept}
use Rattle.region_checker.proofs.marks.spread_once.Goals as goal
use Rattle.region_checker.proofs.marks.spread_once.Goals.{then-mark_from, else-mark_from}

pub loop-number-init : goal.loop-number-init
loop-number-init c = pass_none c.args.paths.now c.args.stops.now c.args.marks.now

pub loop-number-preserved : goal.loop-number-preserved
loop-number-preserved c =
    let paths = c.args.paths.now in
    let stops = c.args.stops.now in
    let n = c.loop-number.number in
    let l = c.loop-number in
    elim c.if-mark_from.branch [
      | then-mark_from w ↦ rw w.grows-is
          (pass_grown paths stops n c.args.marks.now l.marks c.mark_from.new.marks l.grows c.mark_from.result l.invariant c.mark_from.ensures
          w.if-mark_from.true)
      | else-mark_from w ↦ rw w.grows-is
          (pass_kept paths stops n c.args.marks.now l.marks c.mark_from.new.marks l.grows c.mark_from.result l.invariant c.mark_from.ensures
          w.if-mark_from.false)
    ]
