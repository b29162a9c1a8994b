use Rattle.std.proofs.Common.{◌≡◌, rules, refl, sym, subst, length, ◌∙◌}
use Rattle.std.proofs.lemmas.List.{with_items_is}
use Rattle.ido_base.specs.Words.{evicted}
use Rattle.line_memory.specs.links.Cells.{CellsStand}
use Rattle.line_memory.proofs.HistoriesGrow.{Grows-evicted, values-evicted}
use Rattle.line_memory.proofs.Memories.{represents-from, known_from}
use Rattle.line_memory.proofs.memory.LineMemory.evict.Goals as goal

pub returns-clause-stands : goal.returns-clause-stands
returns-clause-stands c = λ words s.
    let before : CellsStand c.deref_mut.result.now words c.args.self.now.stores =
    subst (λ cells. CellsStand cells words c.args.self.now.stores) (sym c.deref_mut.ensures.value) s.cells in
    let long : length c.evict_words.new.cells ≡ c.args.self.now.cells.len = search rules in
    represents-from _ _ c.evict_words.new.cells (with_items_is c.args.self.now.cells c.evict_words.new.cells long)
    ((Grows-evicted words c.args.line c.args.mask).size ∙ s.size) (c.evict_words.ensures words c.args.self.now.stores 8 refl before)
    (known_from c.args.self.now.changes words (evicted words c.args.line c.args.mask) (values-evicted words c.args.line c.args.mask) s.changes)
