use Rattle.std.proofs.Common.{◌≡◌, rules, sym, subst, length, ◌∙◌}
use Rattle.std.proofs.lemmas.List.{with_items_is, length-map}
use Rattle.ido_base.specs.Words.{after_crash}
use Rattle.line_memory.specs.links.Cells.{CellsStand}
use Rattle.line_memory.proofs.Memories.{represents-from, known_crashed}
use Rattle.line_memory.proofs.memory.LineMemory.crash.Goals as goal

pub returns-clause-stands : goal.returns-clause-stands
returns-clause-stands c = λ words s.
    let before : CellsStand c.deref_mut.result.now words c.args.self.now.stores =
    subst (λ cells. CellsStand cells words c.args.self.now.stores) (sym c.deref_mut.ensures.value) s.cells in
    let long : length c.crash.new.cells ≡ c.args.self.now.cells.len = search rules in
    represents-from _ _ c.crash.new.cells (with_items_is c.args.self.now.cells c.crash.new.cells long) (length-map words after_crash ∙ s.size)
    (c.crash.ensures words c.args.self.now.stores before s.changes) (known_crashed c.clear.new.self words)
