-- Statements of a tree in vectors: the view of a vector's row is that of its list.
use Rattle.std.proofs.Common.{◌≡◌, Option, Some, None, refl, sym, ap, ap₂, ◌∙◌, Vec, Global}
use Rattle.std.specs.Prelude.{Box}
use Rattle.std.specs.Box.{box_value}
use Rattle.std.specs.Option.{option_map}
use Rattle.ido_base.specs.declared.place.Place.{Place}
use Rattle.c_tree.specs.Trees as t
use Rattle.c_tree.specs.Views as v
use Rattle.c_tree.specs.declared.tree.Expression.{Expression}
use Rattle.c_tree.specs.declared.tree.Head.{Head}
use Rattle.c_tree.specs.declared.tree.Statement as s
use Rattle.c_tree.specs.declared.tree.Statement.TheBlock as block
use Rattle.c_tree.specs.declared.tree.Arm as arm
use Rattle.c_tree.specs.declared.tree.Block.{Block}

pub row : (n : _) (xs : s.Row_of-Statement n) → v.row_of xs ≡ v.statements_of (s.items-the_row-Statement n xs)
row n s.end_of-Statement = refl
row n (s.more_of-Statement x rest) = ap (t.statement_and (v.statement_of x)) (row _ rest)

pub arms : (n : _) (xs : s.Row_of-Arm n) → v.arms_of xs ≡ v.arms_list_of (s.items-the_row-Arm n xs)
arms n s.end_of-Arm = refl
arms n (s.more_of-Arm condition opening m inside closing rest) =
    ap₂ (λ (xs : t.Statements). t.arm_and (v.expression_of condition) (t.Braced opening xs closing))
    (row _ inside ∙ ap v.statements_of (sym (s.items_shown-the_row-Statement-0 m inside))) (arms _ rest)

pub statements_in : (xs : Vec s.Statement Global) → v.row_of (block.hidden-the_row-Statement-0 xs) ≡ v.statements_of xs.items
statements_in xs = row _ (block.hidden-the_row-Statement-0 xs) ∙ ap v.statements_of (s.items_hidden-the_row-Statement-0 xs)

pub arms_in : (xs : Vec arm.Arm Global) → v.arms_of (block.hidden-the_row-Arm-1 xs) ≡ v.arms_list_of xs.items
arms_in xs = arms _ (block.hidden-the_row-Arm-1 xs) ∙ ap v.arms_list_of (s.items_hidden-the_row-Arm-1 xs)

pub of_block : (x : Block) → v.statement_of (s.Block x) ≡ t.BlockOf (v.block_of x)
of_block x = ap (λ (xs : t.Statements). t.BlockOf (t.Braced x.opening xs x.closing)) (statements_in x.statements)

pub of_while : (place : Place) (condition : Box Expression Global) (x : Block) →
    v.statement_of (s.While place condition x) ≡ t.While place (v.expression_of (box_value condition)) (v.block_of x)
of_while place condition x =
    ap (λ (xs : t.Statements). t.While place (v.expression_of (box_value condition)) (t.Braced x.opening xs x.closing)) (statements_in x.statements)

pub of_do : (place : Place) (x : Block) (condition : Box Expression Global) →
    v.statement_of (s.Do place x condition) ≡ t.Do place (v.block_of x) (v.expression_of (box_value condition))
of_do place x condition =
    ap (λ (xs : t.Statements). t.Do place (t.Braced x.opening xs x.closing) (v.expression_of (box_value condition))) (statements_in x.statements)

pub of_for : (place : Place) (head : Box Head Global) (x : Block) →
    v.statement_of (s.For place head x)
    ≡ t.For place (v.first_of (box_value head).first) (option_map v.expression_of (box_value head).condition) (option_map v.assignment_of (box_value head).last)
    (v.block_of x)
of_for place head x =
    ap (λ (xs : t.Statements).
    t.For place (v.first_of (box_value head).first) (option_map v.expression_of (box_value head).condition) (option_map v.assignment_of (box_value head).last)
    (t.Braced x.opening xs x.closing)) (statements_in x.statements)

pub of_if : (place : Place) (arms : Vec arm.Arm Global) (otherwise : Option Block) →
    v.statement_of (s.If place arms otherwise) ≡ t.If place (v.arms_list_of arms.items) (v.otherwise_of otherwise)
of_if place arms None = ap (λ (xs : t.Arms). t.If place xs t.Nothing) (arms_in arms)
of_if place arms (Some x) =
    ap₂ (λ (xs : t.Arms) (ys : t.Statements). t.If place xs (t.Else (t.Braced x.opening ys x.closing))) (arms_in arms) (statements_in x.statements)
