use Rattle.std.proofs.Common.{sym, subst, arith}
use Rattle.ido_base.specs.Words.{after_crash}
use Rattle.line_memory.specs.declared.cell.Cell.{Cell}
use Rattle.line_memory.specs.links.Cells.{RepresentsCell}
use Rattle.line_memory.proofs.CellLoopSteps.{crash_step, crash_keeps, CellsStand-crashed, RepresentsCell-crashed}
use Rattle.line_memory.proofs.lines.crash_all.Goals as goal

pub loop-cell-preserved : goal.loop-cell-preserved
loop-cell-preserved c = record {
  crashed =
      λ words stores j s below. crash_step c.args.cells.now c.loop-cell.cells c.loop-cell.cell-index c.crashed.result (omega arith) c.loop-cell.auto.cells
      c.loop-cell.invariant.kept c.loop-cell.invariant.crashed
      (λ word n here. subst (λ (x : Cell). RepresentsCell x (after_crash word) 0) (sym c.crashed.ensures) (RepresentsCell-crashed _ word n here)) words
      stores j s below;
  kept = crash_keeps c.args.cells.now c.loop-cell.cells c.loop-cell.cell-index c.crashed.result c.loop-cell.invariant.kept;
}

pub returns : goal.returns
returns c =
    CellsStand-crashed c.args.cells.now c.loop-cell.cells c.loop-cell.auto.cells
    (λ words stores i s below. c.loop-cell.invariant.crashed words stores i s (omega arith))
