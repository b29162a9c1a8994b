use Rattle.std.proofs.Common.{◌≡◌, take}
use Rattle.c_tree.specs.Flats.{statements_of, arms_list_of}
use Rattle.c_tree.specs.Temporaries.{statements_exprs, arms_exprs}
use Rattle.c_temporaries.specs.links.FirstDeepExpression.{first_deep}
use Rattle.c_temporaries.proofs.temporaries.+statements.Given as goal

-- what was found in the arms before
abbrev pub invariant-of_arms-loop-arm : goal.invariant-of_arms-loop-arm
invariant-of_arms-loop-arm l = l.first ≡ first_deep (arms_exprs (arms_list_of (take l.arm-index l.arms)))

-- what was found in the statements before
abbrev pub invariant-of_statements-loop-statement : goal.invariant-of_statements-loop-statement
invariant-of_statements-loop-statement l = l.first ≡ first_deep (statements_exprs (statements_of (take l.statement-index l.statements)))
