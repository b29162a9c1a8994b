use Rattle.std.proofs.Common.{◌≡◌, ◌+◌, ◌/◌, length}
use Rattle.flow_live.proofs.ReadSets.{HasFirst}
use Rattle.flow_live.proofs.reading.read_by.Given as goal

abbrev pub invariant-loop-local : goal.invariant-loop-local
invariant-loop-local l = HasFirst l.set l.node.uses.items l.local-index × (length l.set ≡ l.most / 64 + 1)
