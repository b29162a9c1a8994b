-- A well formed flat form can be checked.
use Rattle.c_tree.specs.Flats.{Flat}
use Rattle.c_tree.specs.WellFormed.{IsWellFormed}
use Rattle.lock_discipline.specs.NamedForms.{HasNames}

-- of a well formed flat form, with arrays of mutexes or without, each thread has a number for every lock that it takes
abbrev pub WellFormedHasNames : Type 0
WellFormedHasNames = (x : Flat) → IsWellFormed x → HasNames x
