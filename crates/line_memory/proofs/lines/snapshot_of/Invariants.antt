use Rattle.std.proofs.Common.{◌≡◌, ℕ, ◌+◌, ◌<◌, length}
use Rattle.line_memory.specs.links.Cells.{cell_at, newest_of, saved_at}
use Rattle.line_memory.proofs.lines.snapshot_of.Given as goal

abbrev pub invariant-loop-k : goal.invariant-loop-k
invariant-loop-k l = record {
  eight : length l.words ≡ 8;
  newest : (i : ℕ) → i < l.k → saved_at l.words i ≡ newest_of (cell_at l.cells (l.base + i));
}
