use Rattle.std.proofs.Common.{◌≡◌, ◌++◌, drop}
use Rattle.node_code.specs.links.ItemLists.{plain}
use Rattle.node_code.proofs.items.push_plain.Given as goal

abbrev pub invariant-loop-instr : goal.invariant-loop-instr
invariant-loop-instr l = l.items.items ++ plain (drop l.instr-index l.code) ≡ l.initial.items.items ++ plain l.code
