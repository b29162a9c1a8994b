-- At most one rule is the first that a tree breaks.
use Rattle.std.specs.Prelude.{◌≡◌, List}
use Rattle.c_tree.specs.declared.language.Language.{Language}
use Rattle.c_tree.specs.LexicalScan.{Fault}
use Rattle.c_tree.specs.Trees.{Item}
use Rattle.c_tree.specs.TypeRules.{IsFirst, type_faults}

-- of all that is broken in a tree at most one is the first, a rule at a place
abbrev pub OneFirst : Type 0
OneFirst = (l : Language) (xs : List Item) (f g : Fault) → IsFirst (type_faults l xs) f → IsFirst (type_faults l xs) g → f ≡ g
