use Rattle.std.proofs.Common.{◌≡◌, ◌<◌, ℕ, false}
use Rattle.std.specs.List.{list_any}
use Rattle.c_tree.specs.LockNames.{holds}
use Rattle.lock_discipline.specs.links.Sets.{differ}
use Rattle.lock_discipline.proofs.walk.least_difference.Given as goal

abbrev pub invariant-loop-name : goal.invariant-loop-name
invariant-loop-name l = (m : ℕ) → m < l.name → list_any (λ h. differ (holds l.first m) (holds h m)) l.others ≡ false
