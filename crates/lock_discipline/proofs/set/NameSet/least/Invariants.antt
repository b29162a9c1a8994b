use Rattle.std.proofs.Common.{◌≡◌, ◌<◌, ℕ, false}
use Rattle.c_tree.specs.LockNames.{holds}
use Rattle.lock_discipline.proofs.set.NameSet.least.Given as goal

abbrev pub invariant-loop-name : goal.invariant-loop-name
invariant-loop-name l = (m : ℕ) → m < l.name → holds l.self m ≡ false
