use Rattle.std.proofs.Common.{◌≡◌, ◌+◌, ◌++◌, map, vec_len}
use Rattle.ido_base.specs.Layout.{words_of_bytes}
use Rattle.line_memory.specs.links.Cells.{cell_of}
use Rattle.line_memory.proofs.making.push_bytes.Given as goal

abbrev pub invariant-loop-i : goal.invariant-loop-i
invariant-loop-i l = record {
  items : l.cells.items ≡ l.initial.cells.items ++ map cell_of (words_of_bytes l.bytes l.i);
  len : vec_len l.cells ≡ vec_len l.initial.cells + l.i;
}
