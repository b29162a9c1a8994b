use Rattle.std.proofs.Common.{◌≡◌, ◌++◌, take}
use Rattle.memory_layout.specs.links.Bytes.{numbers_bytes}
use Rattle.memory_layout.proofs.contents.push_variable.Given as goal

abbrev pub invariant-loop-number : goal.invariant-loop-number
invariant-loop-number l = l.bytes.items ≡ l.initial.bytes.items ++ numbers_bytes l.size (take l.number-index l.numbers)
