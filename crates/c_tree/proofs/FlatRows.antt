-- Statements of the flat form in vectors: the view of a vector's row is that of its list.
use Rattle.std.proofs.Common.{◌≡◌, refl, sym, ap, ap₂, ◌∙◌, Vec, Global}
use Rattle.ido_base.specs.declared.place.Place.{Place}
use Rattle.c_tree.specs.Exprs.{placed_of}
use Rattle.c_tree.specs.Flats as f
use Rattle.c_tree.specs.declared.expr.Placed.{Placed}
use Rattle.c_tree.specs.declared.flat.Statement as s
use Rattle.c_tree.specs.declared.flat.Statement.TheBlock as block
use Rattle.c_tree.specs.declared.flat.Arm as arm

pub row : (n : _) (xs : s.Row_of-Statement n) → f.row_of xs ≡ f.statements_of (s.items-the_row-Statement n xs)
row n s.end_of-Statement = refl
row n (s.more_of-Statement x rest) = ap (f.statement_and (f.statement_of x)) (row _ rest)

pub arms : (n : _) (xs : s.Row_of-Arm n) → f.arms_of xs ≡ f.arms_list_of (s.items-the_row-Arm n xs)
arms n s.end_of-Arm = refl
arms n (s.more_of-Arm condition m body rest) =
    ap₂ (f.arm_and (placed_of condition)) (row _ body ∙ ap f.statements_of (sym (s.items_shown-the_row-Statement-0 m body))) (arms _ rest)

pub statements_in : (xs : Vec s.Statement Global) → f.row_of (block.hidden-the_row-Statement-0 xs) ≡ f.statements_of xs.items
statements_in xs = row _ (block.hidden-the_row-Statement-0 xs) ∙ ap f.statements_of (s.items_hidden-the_row-Statement-0 xs)

pub arms_in : (xs : Vec arm.Arm Global) → f.arms_of (block.hidden-the_row-Arm-1 xs) ≡ f.arms_list_of xs.items
arms_in xs = arms _ (block.hidden-the_row-Arm-1 xs) ∙ ap f.arms_list_of (s.items_hidden-the_row-Arm-1 xs)

pub of_while : (place : Place) (condition : Placed) (body : Vec s.Statement Global) →
    f.statement_of (s.While place condition body) ≡ f.While place (placed_of condition) (f.statements_of body.items)
of_while place condition body = ap (f.While place (placed_of condition)) (statements_in body)

pub of_do : (place : Place) (body : Vec s.Statement Global) (condition : Placed) →
    f.statement_of (s.Do place body condition) ≡ f.Do place (f.statements_of body.items) (placed_of condition)
of_do place body condition = ap (λ (x : f.Statements). f.Do place x (placed_of condition)) (statements_in body)

pub of_if : (place : Place) (arms : Vec arm.Arm Global) (otherwise : Vec s.Statement Global) →
    f.statement_of (s.If place arms otherwise) ≡ f.If place (f.arms_list_of arms.items) (f.statements_of otherwise.items)
of_if place arms otherwise = ap₂ (f.If place) (arms_in arms) (statements_in otherwise)
