use Rattle.std.proofs.Common.{◌≡◌, arith, subst}
use Rattle.ido_base.specs.Words.{evicted_from}
use Rattle.line_memory.specs.links.Cells.{CellsStand}
use Rattle.line_memory.proofs.CellLoopSteps.{evict_step, skip_step}
use Rattle.line_memory.proofs.lines.evict_words.Goals as goal
use Rattle.line_memory.proofs.lines.evict_words.Goals.{then-mask-k-eq1, else-mask-k-eq1}

pub loop-k-preserved : goal.loop-k-preserved
loop-k-preserved c = λ words stores s. elim c.if-mask-k-eq1.branch [
  | then-mask-k-eq1 w ↦ rw w.cells-is
      (evict_step c.loop-k.cells words stores c.args.base c.args.mask c.loop-k.k w.evict.new.self (omega arith) w.if-mask-k-eq1.true
      (c.loop-k.invariant words stores s) w.evict.ensures)
  | else-mask-k-eq1 w ↦ rw w.cells-is
      (skip_step c.loop-k.cells words stores c.args.base c.args.mask c.loop-k.k w.if-mask-k-eq1.false (c.loop-k.invariant words stores s))
]

pub returns : goal.returns
returns c = λ words stores count eight s.
    let all : c.loop-k.k ≡ count = omega arith in
    subst (λ n. CellsStand c.loop-k.cells (evicted_from words c.args.base c.args.mask n) stores) all (c.loop-k.invariant words stores s)
