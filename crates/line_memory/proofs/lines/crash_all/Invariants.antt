use Rattle.std.proofs.Common.{◌≡◌, ℕ, ◌<◌, ◌≤◌, List}
use Rattle.ido_base.specs.Words.{Word, word_at, after_crash}
use Rattle.line_memory.specs.links.Cells.{cell_at, RepresentsCell, CellsStand}
use Rattle.line_memory.proofs.lines.crash_all.Given as goal

abbrev pub invariant-loop-cell : goal.invariant-loop-cell
invariant-loop-cell l = record {
  crashed : (words : List Word) (stores i : ℕ) → CellsStand l.initial.cells words stores → i < l.cell-index →
      RepresentsCell (cell_at l.cells i) (after_crash (word_at words i)) 0;
  kept : (i : ℕ) → l.cell-index ≤ i → cell_at l.cells i ≡ cell_at l.initial.cells i;
}
