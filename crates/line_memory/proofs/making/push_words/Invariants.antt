use Rattle.std.proofs.Common.{◌≡◌, ◌+◌, ◌++◌, map, take, vec_len}
use Rattle.line_memory.specs.links.Cells.{cell_of}
use Rattle.line_memory.proofs.making.push_words.Given as goal

abbrev pub invariant-loop-word : goal.invariant-loop-word
invariant-loop-word l = record {
  items : l.cells.items ≡ l.initial.cells.items ++ map cell_of (take l.word-index l.words);
  len : vec_len l.cells ≡ vec_len l.initial.cells + l.word-index;
}
