use Rattle.std.proofs.Common.{List, ap, arith, get_or, length}
use Rattle.run_scripts.specs.Bounds.{line_bound}
use Rattle.run_scripts.specs.declared.script.Line.{Line}
use Rattle.run_scripts.specs.declared.script.Command.TheVariants.{Steps}
use Rattle.run_scripts.specs.links.ScriptViews.{line_of}
use Rattle.run_scripts.proofs.EventBounds.{bound_more}
use Rattle.run_scripts.proofs.bounds.script_bound.Goals as goal

none : Line
none = record { place = record { 0 = 0 }; command = Steps 0 0 }

pub loop-line-preserved : goal.loop-line-preserved
unfolding none
loop-line-preserved c =
    let items = c.args.script.now.lines.items in
    let i = c.loop-line.line-index in
    let inv = c.loop-line.invariant in
    let is = c.deref-line-items.ensures.value in
    let more = bound_more items i none (omega (arith, c.loop-line-test.true, ap length is)) in
    let here = ap (λ (xs : List Line). line_bound (line_of (get_or xs i none)).command) is in
    record {
      bound = omega (arith, more, here, inv.bound, c.min-bound.ensures, c.line_bound.ensures.bound);
      within = omega (arith, c.min-bound.ensures);
      limit = inv.limit;
    }
