-- The flat form of a well formed program is well formed.
use Rattle.std.specs.Prelude.{◌≡◌, []}
use Rattle.c_tree.specs.AcceptedTexts.{HasNoBack}
use Rattle.c_tree.specs.Inlining.{flat_form}
use Rattle.c_tree.specs.NullReferences.{program_nulls}
use Rattle.c_tree.specs.Programs.{Program}
use Rattle.c_tree.specs.Ranges.{AllFit}
use Rattle.c_tree.specs.WellFormed.{ArePlain, IsProgram, IsWellFormed}

-- the flat form is well formed where the program's indexes fit, none of its references may be null that is followed, and no call leads back
abbrev pub FlatIsFormed : Type 0
FlatIsFormed = (x : Program) → IsProgram x → AllFit x → program_nulls x ≡ [] → HasNoBack x → IsWellFormed (flat_form x)

-- the flat form's mutexes are as plain as the program's
abbrev pub FlatIsPlain : Type 0
FlatIsPlain = (x : Program) → ArePlain x.mutexes → ArePlain (flat_form x).mutexes
