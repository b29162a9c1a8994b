use Rattle.std.proofs.Common.{◌≡◌, Bool, drop}
use Rattle.std.specs.List.{list_any}
use Rattle.c_tree.specs.LockNames.{Held, holds}
use Rattle.lock_discipline.specs.links.Sets.{differ}
use Rattle.lock_discipline.proofs.walk.differ_in.Given as goal

abbrev pub invariant-loop-other : goal.invariant-loop-other
invariant-loop-other l =
    let p : Held → Bool = λ h. differ (holds l.first l.name) (holds h l.name) in
    list_any p l.others ≡ list_any p (drop l.other-index l.others)
