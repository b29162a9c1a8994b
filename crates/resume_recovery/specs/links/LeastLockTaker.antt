-- The least of some harts that takes locks.
use Rattle.std.specs.Prelude.{ℕ, ◌+◌, List, [], ◌∷◌, Option, Some, None, if◌then◌else◌}
use Rattle.machine_model.specs.declared.phase.Phase.{Phase}
use Rattle.machine_model.specs.Machine.{is_taking}

-- the least hart that takes locks, from the number on
abbrev pub taking_among : (at : ℕ) → List Phase → Option ℕ
taking_among at [] = None
taking_among at (phase ∷ phases) = if is_taking phase then Some at else taking_among (at + 1) phases
