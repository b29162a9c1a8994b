use Rattle.std.proofs.Common.{◌≡◌, ℕ, ◌+◌, ◌<◌, ◌/◌, ◌^◌, rules, refl, sym, subst, length, set, ◌∙◌}
use Rattle.std.proofs.lemmas.List.{get_or_read}
use Rattle.ido_base.specs.Words.{Word, word_at, with_value, stored}
use Rattle.ido_base.specs.Layout.{byte_number}
use Rattle.line_memory.specs.declared.cell.Cell.{Cell}
use Rattle.line_memory.specs.links.Cells.{cell_of, cell_at, RepresentsCell, CellsStand}
use Rattle.line_memory.proofs.HistoriesGrow.{Grows-stored}
use Rattle.line_memory.proofs.Memories.{represents-from, stored_stands, known_stored, AreKnown}
use Rattle.line_memory.proofs.memory.LineMemory.store.Goals as goal

pub returns-clause-stands : goal.returns-clause-stands
returns-clause-stands c = λ words s.
    let memory = c.args.self.now in
    let number = c.byte_number-number.result in
    let in_cells : number / 8 < length memory.cells.items = search rules in
    let is_cell : c.index-cell.result.now ≡ cell_at memory.cells.items (number / 8) =
    get_or_read memory.cells.items (number / 8) c.index-cell.result.now in_cells c.index-cell.ensures (cell_of 0) in
    let same : c.index_mut.result.now ≡ c.index-cell.result.now =
    get_or_read memory.cells.items (number / 8) c.index_mut.result.now in_cells c.index_mut.ensures.value (cell_of 0) ∙ sym is_cell in
    let stores_it = subst (λ (x : Cell).
    (word : Word) (n : ℕ) → n < 2 ^ 63 → RepresentsCell x word n → RepresentsCell c.store.new.self (with_value word c.with_part-word.result) (n + 1)) same
    c.store.ensures in
    let stand = stored_stands memory.cells.items words memory.stores number c.args.bytes c.args.value c.with_part-word.result c.index-cell.result.now
    c.store.new.self in_cells is_cell c.with_part-word.ensures stores_it c.requires.room s.cells in
    let here : RepresentsCell c.index-cell.result.now (word_at words (number / 8)) memory.stores =
    subst (λ (x : Cell). RepresentsCell x (word_at words (number / 8)) memory.stores) (sym is_cell) (s.cells.each (number / 8) in_cells) in
    let known : AreKnown c.add_if.new.self (stored words (byte_number c.args.address) c.args.bytes c.args.value) =
    subst (λ (n : ℕ). AreKnown c.add_if.new.self (stored words n c.args.bytes c.args.value)) c.byte_number-number.ensures
    (known_stored memory.changes c.add_if.new.self words number c.args.bytes c.args.value c.index-cell.result.now memory.stores here c.add_if.ensures.added
    c.add_if.ensures.kept s.changes) in
    represents-from _ _ _ refl ((Grows-stored words _ c.args.bytes c.args.value).size ∙ s.size)
    (subst (λ (n : ℕ). CellsStand (set memory.cells.items (number / 8) c.store.new.self) (stored words n c.args.bytes c.args.value) (memory.stores + 1))
    c.byte_number-number.ensures stand) known
