use Rattle.std.proofs.Common.{◌≡◌, arith, rules, take, subst}
use Rattle.std.proofs.lemmas.List.{take_all, length-map}
use Rattle.ido_base.specs.Words.{persisted}
use Rattle.line_memory.specs.declared.queue.Saved.{Saved}
use Rattle.line_memory.specs.links.Cells.{CellsStand, versions_in}
use Rattle.line_memory.proofs.CellLoopSteps.{raise_step}
use Rattle.line_memory.proofs.lines.write_words_back.Goals as goal

pub loop-k-preserved : goal.loop-k-preserved
loop-k-preserved c = λ words stores s kept.
    raise_step c.loop-k.cells words stores c.args.base c.loop-k.k c.args.saved.now c.write_back.new.self (omega arith) (search rules) (omega arith) kept
    (c.loop-k.invariant words stores s kept) c.write_back.ensures

pub returns : goal.returns
returns c = λ words stores s kept.
    let all : take c.loop-k.k (versions_in c.args.saved.now) ≡ versions_in c.args.saved.now =
    take_all _ (versions_in c.args.saved.now) (omega (arith, length-map c.args.saved.now (λ (one : Saved). one.version))) in
    subst (λ ps. CellsStand c.loop-k.cells (persisted words c.args.base ps) stores) all (c.loop-k.invariant words stores s kept)
