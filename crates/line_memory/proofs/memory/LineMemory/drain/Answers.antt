use Rattle.std.proofs.Common.{◌≡◌, rules, sym, subst, length, ◌∙◌, ◌∷◌}
use Rattle.std.proofs.lemmas.List.{with_items_is}
use Rattle.ido_base.specs.Words.{drained}
use Rattle.line_memory.specs.links.Cells.{CellsStand}
use Rattle.line_memory.proofs.HistoriesGrow.{Grows-drained, RepresentsQueue-drained, values-drained}
use Rattle.line_memory.proofs.Memories.{represents-from, known_from}
use Rattle.line_memory.proofs.Rings.{RepresentsQueue-pop, oldest_stands}
use Rattle.line_memory.proofs.memory.LineMemory.drain.Goals as goal

pub returns-clause-stands : goal.returns-clause-stands
returns-clause-stands c = λ words e es s q.
    let before : CellsStand c.deref_mut.result.now words c.args.self.now.stores =
    subst (λ cells. CellsStand cells words c.args.self.now.stores) (sym c.deref_mut.ensures.value) s.cells in
    let long : length c.write_back.new.cells ≡ c.args.self.now.cells.len = search rules in (
      represents-from _ _ c.write_back.new.cells (with_items_is c.args.self.now.cells c.write_back.new.cells long) ((Grows-drained words e).size ∙ s.size)
          (c.write_back.ensures words c.args.self.now.stores e before (oldest_stands c.args.queue.now c.oldest.result.now e es words c.oldest.ensures q))
          (known_from c.args.self.now.changes words (drained words e) (values-drained words e) s.changes),
      RepresentsQueue-pop c.args.queue.now c.pop.new.self e es (drained words e) c.pop.ensures.length c.pop.ensures.rest
          (RepresentsQueue-drained c.args.queue.now (e ∷ es) words e q),
    )
