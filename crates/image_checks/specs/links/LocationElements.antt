-- Elements of a location's range, whatever key it has.
use Rattle.std.specs.Prelude.{◌≡◌, ℕ, ◌<◌, ◌≤◌, List, length, map}
use Rattle.ido_base.specs.declared.location.Location.{Location}
use Rattle.ido_base.specs.Layout.{variable_at}
use Rattle.c_tree.specs.Programs.{Variable}
use Rattle.c_tree.specs.WellFormed.{shape_of}

-- the address is that of one of them
pub record IsElementIn (variables : List Variable) (location : Location) (address : ℕ) : Type 0 where
  pub there : location.variable < length variables
  pub element : ℕ
  pub from : location.lo ≤ element
  pub to : element ≤ location.hi
  pub is : address ≡ variable_at (map shape_of variables) location.variable element

-- of the one of that number
pub record IsNumberedIn (variables : List Variable) (location : Location) (number address : ℕ) : Type 0 where
  pub it : IsElementIn variables location address
  pub numbered : it.element ≡ number
