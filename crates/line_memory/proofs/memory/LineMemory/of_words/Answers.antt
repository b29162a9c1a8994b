use Rattle.std.proofs.Common.{◌-◌, ◌/◌, refl}
use Rattle.std.proofs.lemmas.List.{take_rest}
use Rattle.line_memory.proofs.NewCells.{represents-of, spread_cells}
use Rattle.line_memory.proofs.memory.LineMemory.of_words.Goals as goal

pub returns-clause-stands : goal.returns-clause-stands
returns-clause-stands c =
    represents-of _ _ refl (spread_cells c.push_words-2.new.cells.items c.push_zeros.new.cells.items c.push_words.new.cells.items c.in_ok-cells.cells.items
    (c.args.vars / 8) c.args.words.now (8192 - c.args.vars / 8) refl c.in_ok-cells.ensures.items c.in_ok-push_words.ensures.items
    c.in_ok-push_zeros.ensures.items (rw (take_rest c.args.words.now (c.args.vars / 8)) at c.in_ok-push_words-2.ensures.items))
