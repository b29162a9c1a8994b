use Rattle.std.proofs.Common.{subst, arith, get_or}
use Rattle.hart_board.specs.CoreTurns.{RunsIn}
use Rattle.hart_driver.specs.declared.running.Part.{Part}
use Rattle.hart_driver.specs.links.Parts.{HasRun}
use Rattle.hart_driver.proofs.Parts.{all_run}
use Rattle.hart_driver.proofs.running.run_parts.Goals as goal

pub returns : goal.returns
returns g c =
    all_run g.C.Core.history g.C.Core.space (RunsIn g.C.Core.opening g.C.Core.hart_count g.C.Core.is_local g.C.Core.ahead_by) g.V.Evictions.coming
    c.args.board.now c.args.parts.now c.for_each_mut.new.s (let size = c.for_each_mut.auto.s in omega (arith, size))
    (λ i d inside. let r = (c.for_each_mut.ensures i d inside).1 in
    subst (λ (p : Part g.row.C.Denot g.row.C-Local.Denot g.row.V.Denot).
    HasRun g.C.Core.history g.C.Core.space (RunsIn g.C.Core.opening g.C.Core.hart_count g.C.Core.is_local g.C.Core.ahead_by) g.V.Evictions.coming
    c.args.board.now p (get_or c.for_each_mut.new.s i d)) r.argument_is
    (subst (HasRun g.C.Core.history g.C.Core.space (RunsIn g.C.Core.opening g.C.Core.hart_count g.C.Core.is_local g.C.Core.ahead_by) g.V.Evictions.coming
    c.args.board.now r.argument.now) r.left r.call))
