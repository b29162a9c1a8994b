-- The trees of an arm, of a right side, of the head of a `for`, and of the name of a lock.
use Rattle.std.specs.Prelude.{Box, Option}
use Rattle.std.specs.Box.{box_value}
use Rattle.std.specs.Global.{Global}
use Rattle.std.specs.Option.{option_map}
use Rattle.c_tree.specs.Trees as t
use Rattle.c_tree.specs.Views.{assignment_of, expression_of, call_of, block_of, first_of, name_of}
use Rattle.c_tree.specs.declared.tree.Arm.{Arm}
use Rattle.c_tree.specs.declared.tree.Expression.{Expression}
use Rattle.c_tree.specs.declared.tree.Head.{Head}
use Rattle.c_tree.specs.declared.tree.Name.{Name}
use Rattle.c_reader.specs.declared.assignment.RightSide.{RightSide}
use Rattle.c_reader.specs.declared.assignment.RightSide.TheVariants as right
use Rattle.c_reader.specs.links.ParserSteps.{ForHead}

abbrev pub arm_of : Arm → t.Expression × t.Block
arm_of x = (expression_of x.condition, block_of x.block)

abbrev pub right_of : RightSide → t.Initial
right_of (right.Expression x) = t.Value (expression_of x)
right_of (right.Call x) = t.Result (call_of x)

abbrev pub head_in : Head → ForHead
head_in x = record { start = first_of x.first; condition = option_map expression_of x.condition; last = option_map assignment_of x.last }

abbrev pub for_head_of : Box Head Global → ForHead
for_head_of x = head_in (box_value x)

abbrev pub key_of : Option (Box Expression Global) → Option t.Expression
key_of x = option_map (λ y. expression_of (box_value y)) x

abbrev pub lock_name_of : Name × Option (Box Expression Global) → t.Name × Option t.Expression
lock_name_of x = (name_of x.0, key_of x.1)
