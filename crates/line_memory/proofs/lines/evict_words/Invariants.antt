use Rattle.std.proofs.Common.{ℕ, List}
use Rattle.ido_base.specs.Words.{Word, evicted_from}
use Rattle.line_memory.specs.links.Cells.{CellsStand}
use Rattle.line_memory.proofs.lines.evict_words.Given as goal

abbrev pub invariant-loop-k : goal.invariant-loop-k
invariant-loop-k l =
    (words : List Word) (stores : ℕ) → CellsStand l.initial.cells words stores → CellsStand l.cells (evicted_from words l.base l.mask l.k) stores
