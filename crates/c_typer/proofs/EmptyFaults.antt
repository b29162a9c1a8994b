-- Lists of faults that are empty.
use Rattle.std.proofs.Common.{◌≡◌, refl, List, [], ◌∷◌, ◌++◌, Bool, true, false}
use Rattle.ido_base.specs.declared.place.Place.{Place}
use Rattle.c_tree.specs.declared.language.Language.{Language}
use Rattle.c_tree.specs.Trees as t
use Rattle.c_tree.specs.Names as n
use Rattle.c_tree.specs.TypeRules as rules
use Rattle.c_tree.specs.TypeRules.{broken, broken_if}
use Rattle.c_tree.specs.Elaboration as made

pub nil_left : {A : Type 0} (xs ys : List A) → xs ++ ys ≡ [] → xs ≡ []
nil_left [] ys h = refl
nil_left (x ∷ xs) ys h = absurd (cc)

pub nil_right : {A : Type 0} (xs ys : List A) → xs ++ ys ≡ [] → ys ≡ []
nil_right [] ys h = h
nil_right (x ∷ xs) ys h = absurd (cc)

pub not_broken : (found : _) (place : Place) → broken found place ≡ [] → ⊥
not_broken found place h = cc

pub unbroken : (c : Bool) (found : _) (place : Place) → broken_if c found place ≡ [] → c ≡ false
unbroken true found place h = absurd (not_broken found place h)
unbroken false found place h = refl

-- ---- A function without faults

-- its parts have none
pub record FunctionParts (language : Language) (gs : List n.Global) (x : t.Function) : Type 0 where
  pub parameters : rules.parameters_faults language gs n.no_locals x.parameters ≡ []
  pub body : rules.statements_faults language gs (made.with_parameters gs n.no_locals x.parameters) x.body.statements ≡ []
  pub returned : rules.returned_faults language gs
      (made.statements gs (made.with_parameters gs n.no_locals x.parameters) x.body.statements).scope x x.body.returned ≡ []
  pub returns : rules.return_faults language gs x ≡ []
  pub result : rules.result_faults language gs x.type_name ≡ []

pub function_parts : (language : Language) (gs : List n.Global) (x : t.Function) → rules.item_faults language gs (t.FunctionItem x) ≡ [] →
    FunctionParts language gs x
function_parts language gs x h =
    let s = made.with_parameters gs n.no_locals x.parameters in
    let m = made.statements gs s x.body.statements in
    let p1 = rules.parameters_faults language gs n.no_locals x.parameters in
    let p2 = rules.statements_faults language gs s x.body.statements in
    let p3 = rules.returned_faults language gs m.scope x x.body.returned in
    let p4 = rules.return_faults language gs x in
    let p5 = rules.result_faults language gs x.type_name in
    let h4 = nil_left (((p1 ++ p2) ++ p3) ++ p4) p5 h in
    let h3 = nil_left ((p1 ++ p2) ++ p3) p4 h4 in
    let h2 = nil_left (p1 ++ p2) p3 h3 in record {
      parameters = nil_left p1 p2 h2;
      body = nil_right p1 p2 h2;
      returned = nil_right (p1 ++ p2) p3 h3;
      returns = nil_right ((p1 ++ p2) ++ p3) p4 h4;
      result = nil_right (((p1 ++ p2) ++ p3) ++ p4) p5 h;
    }
