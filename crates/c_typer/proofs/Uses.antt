-- The rules that the call of a name breaks, by what the name means.
use Rattle.std.proofs.Common.{◌≡◌, ℕ, List, [], ◌++◌, Bool, true, false, not, length, ◌==◌, is_some, if◌then◌else◌, refl, ap₂}
use Rattle.ido_base.specs.declared.place.Place.{Place}
use Rattle.c_tree.specs.declared.language.Language.{Language}
use Rattle.c_tree.specs.declared.rule.Rule.{Rule}
use Rattle.c_tree.specs.declared.rule.Rule.TheVariants as rule
use Rattle.c_tree.specs.Names as n
use Rattle.c_tree.specs.LexicalScan.{Fault}
use Rattle.c_tree.specs.Trees as t
use Rattle.c_tree.specs.TypeRules as rules
use Rattle.c_tree.specs.TypeRules.{broken, broken_if}
use Rattle.c_typer.specs.links.Meanings.{fault_at, rule_if, function_rule, count_rule, parameters_as}

if_is : (b : Bool) (found : Rule) (place : Place) → broken_if b found place ≡ fault_at (rule_if b found) place
if_is true found place = refl
if_is false found place = refl

-- the types of the parameters
pub parameters_is : (l : Language) (gs : List n.Global) (s : n.Scope) (x : t.Name) → parameters_as (n.meaning gs s x.text) ≡ rules.parameters_of l gs s x
parameters_is l gs s x = go (n.meaning gs s x.text)
  where
    go : (m : n.Meaning) → parameters_as m ≡ elim m [
      | n.IsGlobal (n.Function number gives parameters) ↦ parameters
      | _ ↦ []
    ]
    go n.IsUnknown = refl
    go (n.IsLocal y) = refl
    go (n.IsGlobal (n.Variable number type_name length each)) = refl
    go (n.IsGlobal (n.Mutex number count)) = refl
    go (n.IsGlobal (n.Function number gives parameters)) = refl
    go (n.IsGlobal n.Thread) = refl

pub function_is : (l : Language) (gs : List n.Global) (s : n.Scope) (x : t.Name) (assigned : Bool) (arguments : ℕ)
    → rules.function_faults l gs s x assigned arguments ≡ fault_at (function_rule (n.meaning gs s x.text) assigned) x.place ++ fault_at
    (count_rule (n.meaning gs s x.text) arguments) x.place
function_is l gs s x assigned arguments = go (n.meaning gs s x.text)
  where
    go : (m : n.Meaning) → elim m [
      | n.IsUnknown ↦ broken rule.Unknown x.place
      | n.IsGlobal (n.Function number gives parameters) ↦
          broken_if (if is_some gives then not assigned else assigned) rule.WrongSort x.place
          ++ broken_if (not (arguments == length parameters)) rule.Count x.place
      | _ ↦ broken rule.WrongSort x.place
    ] ≡ fault_at (function_rule m assigned) x.place ++ fault_at (count_rule m arguments) x.place
    go n.IsUnknown = refl
    go (n.IsLocal y) = refl
    go (n.IsGlobal (n.Variable number type_name length each)) = refl
    go (n.IsGlobal (n.Mutex number count)) = refl
    go (n.IsGlobal (n.Function number gives parameters)) =
        ap₂ (λ (xs ys : List Fault). xs ++ ys)
        (if_is (if is_some gives then not assigned else assigned) rule.WrongSort x.place)
        (if_is (not (arguments == length parameters)) rule.Count x.place)
    go (n.IsGlobal n.Thread) = refl
