-- What a text becomes, check after check, up to its flat form.
use Rattle.std.specs.Prelude.{◌≡◌, ℕ, List, [], None}
use Rattle.c_tree.specs.declared.language.Language.{Language}
use Rattle.c_tree.specs.Trees.{Item}
use Rattle.c_tree.specs.Programs as p
use Rattle.c_tree.specs.Flats as f
use Rattle.c_tree.specs.TextReadings.{IsRead}
use Rattle.c_tree.specs.TypeRules.{type_faults}
use Rattle.c_tree.specs.Elaboration.{typed_program}
use Rattle.c_tree.specs.Ranges.{AllFit}
use Rattle.c_tree.specs.NullReferences.{program_nulls}
use Rattle.c_tree.specs.Inlining.{Call, LeadsBack, flat_form}
use Rattle.c_tree.specs.HoldPrices.{price_fault}

-- no call leads back
abbrev pub HasNoBack : p.Program → Type 0
HasNoBack x = (c : Call) → ¬ (LeadsBack x.functions c)

-- the text is a program whose names and kinds keep the rules
pub record IsTyped (l : Language) (text : List ℕ) (x : p.Program) : Type 0 where
  pub items : List Item
  pub read : IsRead l text items
  pub faultless : type_faults l items ≡ []
  pub typed : x ≡ typed_program items

-- the text is a program whose names and kinds keep the rules, whose indexes name elements, and which follows no reference that may be null
pub record IsRanged (l : Language) (text : List ℕ) (x : p.Program) : Type 0 where
  pub typed : IsTyped l text x
  pub fits : AllFit x
  pub never_null : program_nulls x ≡ []

-- the text is a program that has a flat form, of threads that don't cost too much
pub record IsFlattened (l : Language) (text : List ℕ) (flat : f.Flat) : Type 0 where
  pub program : p.Program
  pub ranged : IsRanged l text program
  pub ends : HasNoBack program
  pub short : price_fault l (flat_form program) ≡ None
  pub flattened : flat ≡ flat_form program
