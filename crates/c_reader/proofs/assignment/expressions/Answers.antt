use Rattle.std.proofs.Common.{map, ◌∙◌, arith}
use Rattle.std.proofs.lemmas.Grind.{common_steps}
use Rattle.c_tree.specs.Views.{expression_of}
use Rattle.c_reader.specs.links.ParserFunctions.{parse_expression}
use Rattle.c_reader.proofs.ParserStepEquations.{more_start, more_some, more_end}
use Rattle.c_reader.proofs.assignment.expressions.Goals as goal

pub loop-turn-init : goal.loop-turn-init
loop-turn-init c = let e = more_start (parse_expression c.args.fuel) c.args.fuel c.args.tokens.now in grind (arith, common_steps)

pub returns-then-not-sees : goal.returns-then-not-sees
returns-then-not-sees c = let e = more_some (parse_expression c.args.fuel) c.args.fuel c.loop-turn._turn
    (map expression_of c.loop-turn.found.items) c.loop-turn.tokens c.loop-turn-test.true in grind (arith, common_steps)

pub returns-in_err-expression-2 : goal.returns-in_err-expression-2
returns-in_err-expression-2 c =
    let e = more_some (parse_expression c.args.fuel) c.args.fuel c.loop-turn._turn
    (map expression_of c.loop-turn.found.items) c.loop-turn.tokens c.loop-turn-test.true in grind (arith, common_steps)

pub loop-turn-preserved : goal.loop-turn-preserved
loop-turn-preserved c = let e = more_some (parse_expression c.args.fuel) c.args.fuel c.loop-turn._turn
    (map expression_of c.loop-turn.found.items) c.loop-turn.tokens c.loop-turn-test.true in grind (arith, common_steps)

pub returns : goal.returns
returns c = c.loop-turn.invariant ∙ more_end _ _ _ _ _ c.loop-turn-test.false
