-- Uses of variables.
use Rattle.std.specs.Prelude.{ℕ, Option}
use Rattle.ido_base.specs.declared.place.Place.{Place}
use Rattle.c_tree.specs.Exprs as e
use Rattle.c_tree.specs.LockDiscipline.{Use}

-- a variable whose name stands at the place, and the index of an element
abbrev pub use_of : (variable : ℕ) → Place → (index : Option e.Placed) → Use
use_of variable place index = record { variable = variable; place = place; index = index }
