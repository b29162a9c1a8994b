use Rattle.std.proofs.Common.{◌≡◌, ◌+◌, ◌≤◌, ◌++◌, drop}
use Rattle.std.specs.Prelude.{sum_by}
use Rattle.rv64_link.specs.LabelledCode.{most_words_of}
use Rattle.rv64_link.specs.links.Layout.{numbers}
use Rattle.rv64_link.proofs.thread.numbers.Given as goal

abbrev pub invariant-loop-position : goal.invariant-loop-position
invariant-loop-position l = record {
  counted : l.numbers.items ++ numbers l.items l.number l.position (drop l.position l.items) ≡ numbers l.items l.first 0 l.items;
  low : l.number + sum_by most_words_of (drop l.position l.items) ≤ l.first + sum_by most_words_of l.items;
}
