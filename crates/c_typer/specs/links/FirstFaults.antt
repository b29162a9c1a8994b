-- The first of the faults that are noted one after the other.
use Rattle.std.specs.Prelude.{Bool, List, [], ◌∷◌, Option, Some, None, nat_lt, ◌==◌, ◌&&◌, ◌||◌, if◌then◌else◌}
use Rattle.std.specs.Option.{option_map}
use Rattle.c_tree.specs.Refusals.{fault_of}
use Rattle.c_tree.specs.LexicalScan.{Fault}
use Rattle.c_tree.specs.TypeRules.{order_of}
use Rattle.c_typer.specs.declared.faults.Faults.{Faults}

-- the one stands before the other, or at its place and is told before it
abbrev pub comes_before : Fault → Fault → Bool
comes_before x y = nat_lt x.place.0 y.place.0 || ((x.place.0 == y.place.0) && nat_lt (order_of x.rule) (order_of y.rule))

-- the first fault so far, and one more
abbrev pub earlier : Option Fault → Fault → Option Fault
earlier None y = Some y
earlier (Some x) y = if comes_before y x then Some y else Some x

-- the first fault so far, and more in order
abbrev pub noted : Option Fault → List Fault → Option Fault
noted first [] = first
noted first (x ∷ xs) = noted (earlier first x) xs

-- ---- What the types of `faults` represent

abbrev pub first_of : Faults → Option Fault
first_of x = option_map fault_of x.first
