-- The walk and the discipline, in one sentence.
use Rattle.std.specs.Prelude.{◌≡◌, None}
use Rattle.std.specs.List.{All}
use Rattle.c_tree.specs.declared.language.Language.{Language}
use Rattle.c_tree.specs.Flats.{Flat}
use Rattle.c_tree.specs.LockDiscipline.{IsDisciplined, lock_fault}
use Rattle.lock_discipline.specs.HeldSetsByStep.{HoldsFew}
use Rattle.lock_discipline.specs.NamedForms.{HasNames}

-- where each thread keeps the discipline and nowhere holds too many the walk finds no fault; where each lock that is taken has a number it finds none only
-- there
abbrev pub WalkIsDiscipline : Type 0
WalkIsDiscipline = (l : Language) (x : Flat) → (All (IsDisciplined x) x.threads → All (HoldsFew l x) x.threads → lock_fault l x ≡ None)
    × (HasNames x → lock_fault l x ≡ None → All (IsDisciplined x) x.threads × All (HoldsFew l x) x.threads)
