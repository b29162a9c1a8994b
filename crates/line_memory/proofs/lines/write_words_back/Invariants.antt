use Rattle.std.proofs.Common.{ℕ, List, take}
use Rattle.ido_base.specs.Words.{Word, persisted}
use Rattle.line_memory.specs.links.Cells.{CellsStand, Remembers, versions_in}
use Rattle.line_memory.proofs.lines.write_words_back.Given as goal

abbrev pub invariant-loop-k : goal.invariant-loop-k
invariant-loop-k l =
    (words : List Word) (stores : ℕ) → CellsStand l.initial.cells words stores → Remembers l.saved l.base words →
    CellsStand l.cells (persisted words l.base (take l.k (versions_in l.saved))) stores
