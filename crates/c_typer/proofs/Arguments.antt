-- The arguments of a call, past the last one.
use Rattle.std.proofs.Common.{◌≡◌, ◌≤◌, ℕ, List, [], ◌∷◌, Option, length, drop, map, refl, sym, ap, ◌∙◌}
use Rattle.std.proofs.lemmas.List.{drop_all}
use Rattle.ido_base.specs.declared.place.Place.{Place}
use Rattle.c_tree.specs.declared.language.Language.{Language}
use Rattle.c_tree.specs.Names as n
use Rattle.c_tree.specs.LexicalScan.{Fault}
use Rattle.c_tree.specs.Trees as t
use Rattle.c_tree.specs.TypeRules.{arguments_faults}
use Rattle.c_tree.specs.Views.{expression_of, type_name_of}
use Rattle.c_tree.specs.declared.tree.Expression.{Expression}
use Rattle.c_tree.specs.declared.tree.TypeName.{TypeName}
use Rattle.c_typer.specs.links.FirstFaults.{noted}

-- the faults of those arguments for those parameters
abbrev faults_of : Language → List n.Global → n.Scope → Place → List TypeName → List Expression → List Fault
faults_of l gs s place ps xs = arguments_faults l gs s place (map type_name_of ps) (map expression_of xs)

none_left : (l : Language) (gs : List n.Global) (s : n.Scope) (place : Place) (ys : List t.TypeName) → arguments_faults l gs s place ys [] ≡ []
none_left l gs s place [] = refl
none_left l gs s place (y ∷ ys) = refl

pub arguments_all : (l : Language) (gs : List n.Global) (s : n.Scope) (place : Place) (before whole : Option Fault) (ps : List TypeName)
    (xs : List Expression) (i : ℕ) → length xs ≤ i → noted before (faults_of l gs s place (drop i ps) (drop i xs)) ≡ whole → before ≡ whole
arguments_all l gs s place before whole ps xs i past h =
    sym (ap (noted before) (none_left l gs s place (map type_name_of (drop i ps))))
    ∙ sym (ap (λ (ys : List Expression). noted before (faults_of l gs s place (drop i ps) ys)) (drop_all i xs past))
    ∙ h
