-- Each call is on a part of what its caller has, or it has the whole and stands above it.
use Rattle.std.proofs.Common.{◌+◌, ◌*◌}
use Rattle.std.specs.Prelude.{max}
use Rattle.c_tree.specs.declared.expr.Expr.{size-Expr}
use Rattle.source_machine.proofs.evaluation.+evaluation.Given as goal

abbrev pub decreases-evaluate : goal.decreases-evaluate
decreases-evaluate l = 4 * size-Expr l.expr.now

abbrev pub decreases-low_bits : goal.decreases-low_bits
decreases-low_bits l = 4 * size-Expr l.expr.now + 1

abbrev pub decreases-element : goal.decreases-element
decreases-element l = 4 * size-Expr l.index.now + 2

abbrev pub decreases-address : goal.decreases-address
decreases-address l = 4 * size-Expr l.index.now + 3

abbrev pub decreases-unary : goal.decreases-unary
decreases-unary l = 4 * size-Expr l.operand.now + 2

abbrev pub decreases-converted : goal.decreases-converted
decreases-converted l = 4 * size-Expr l.operand.now + 2

abbrev pub decreases-binary : goal.decreases-binary
decreases-binary l = 4 * max (size-Expr l.left.now) (size-Expr l.right.now) + 2

abbrev pub decreases-conditional : goal.decreases-conditional
decreases-conditional l = 4 * max (size-Expr l.condition.now) (max (size-Expr l.chosen.now) (size-Expr l.otherwise.now)) + 3
