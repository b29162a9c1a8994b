use Rattle.std.proofs.Common.{sym, arith}
use Rattle.c_tree.specs.Exprs.{placed_of}
use Rattle.c_temporaries.proofs.FirstDeepExpressionLaws.{deep_one, shallow_one}
use Rattle.c_temporaries.proofs.temporaries.of_placed.Goals as goal

pub returns-then-need-gt-MOST_TEMPORARIES : goal.returns-then-need-gt-MOST_TEMPORARIES
returns-then-need-gt-MOST_TEMPORARIES c = sym (deep_one (placed_of c.args.placed.now) (omega (arith, c.need.ensures, c.if-need-gt-MOST_TEMPORARIES.true)))

pub returns-else-need-gt-MOST_TEMPORARIES : goal.returns-else-need-gt-MOST_TEMPORARIES
returns-else-need-gt-MOST_TEMPORARIES c = sym (shallow_one (placed_of c.args.placed.now) (omega (arith, c.need.ensures, c.if-need-gt-MOST_TEMPORARIES.false)))
