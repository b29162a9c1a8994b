use Rattle.std.proofs.Common.{◌≡◌, ◌+◌, drop}
use Rattle.c_tree.specs.LockNames.{count_held}
use Rattle.lock_discipline.proofs.set.count.Given as goal

abbrev pub invariant-loop-is_held : goal.invariant-loop-is_held
invariant-loop-is_held l = l.count + count_held (drop l.is_held-index l.held) ≡ count_held l.held
