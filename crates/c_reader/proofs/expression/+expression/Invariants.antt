use Rattle.std.proofs.Common.{◌≡◌, ◌+◌, ◌-◌, ◌*◌}
use Rattle.c_tree.specs.Views.{expression_of}
use Rattle.c_reader.specs.links.ParserSteps.{operators_past, operators_from}
use Rattle.c_reader.proofs.expression.+expression.Given as goal

abbrev pub decreases-operand : goal.decreases-operand
decreases-operand l = 20 * l.fuel

abbrev pub decreases-operators : goal.decreases-operators
decreases-operators l = 20 * l.fuel + 1 + l.precedences

abbrev pub decreases-expression : goal.decreases-expression
decreases-expression l = 20 * l.fuel + 12

abbrev pub decreases-conditional : goal.decreases-conditional
decreases-conditional l = 20 * l.fuel + 13

abbrev pub decreases-index : goal.decreases-index
decreases-index l = 20 * l.fuel + 13

abbrev pub decreases-operand_after_name : goal.decreases-operand_after_name
decreases-operand_after_name l = 20 * l.fuel + 14

abbrev pub decreases-operand_after_opening : goal.decreases-operand_after_opening
decreases-operand_after_opening l = 20 * l.fuel + 14

abbrev pub decreases-address : goal.decreases-address
decreases-address l = 20 * l.fuel + 14

abbrev pub invariant-operators-loop-turn : goal.invariant-operators-loop-turn
invariant-operators-loop-turn l =
    operators_past l.fuel l.precedences (expression_of l.fn.first) l.fn.tokens
    ≡ operators_from l.fuel (l.precedences - 1) (l.fuel - l._turn) (expression_of l.left) l.tokens
