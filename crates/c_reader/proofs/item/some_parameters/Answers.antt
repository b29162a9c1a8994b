use Rattle.std.proofs.Common.{map, ◌∙◌, arith}
use Rattle.std.proofs.lemmas.Grind.{common_steps}
use Rattle.c_tree.specs.Views.{parameter_of}
use Rattle.c_reader.specs.links.ParserFunctions.{parse_parameter}
use Rattle.c_reader.proofs.ParserStepEquations.{more_start, more_some, more_end}
use Rattle.c_reader.proofs.item.some_parameters.Goals as goal

pub returns-in_err-first : goal.returns-in_err-first
returns-in_err-first c =
    let e = more_start parse_parameter c.args.fuel c.args.tokens.now in
    grind (arith, common_steps)

pub loop-turn-init : goal.loop-turn-init
loop-turn-init c =
    let e = more_start parse_parameter c.args.fuel c.args.tokens.now in
    grind (arith, common_steps)

pub returns-then-not-sees : goal.returns-then-not-sees
returns-then-not-sees c =
    let e = more_some parse_parameter c.args.fuel c.loop-turn._turn (map parameter_of c.loop-turn.found.items) c.loop-turn.tokens c.loop-turn-test.true in
    grind (arith, common_steps)

pub returns-in_err-next : goal.returns-in_err-next
returns-in_err-next c =
    let e = more_some parse_parameter c.args.fuel c.loop-turn._turn (map parameter_of c.loop-turn.found.items) c.loop-turn.tokens c.loop-turn-test.true in
    grind (arith, common_steps)

pub loop-turn-preserved : goal.loop-turn-preserved
loop-turn-preserved c =
    let e = more_some parse_parameter c.args.fuel c.loop-turn._turn (map parameter_of c.loop-turn.found.items) c.loop-turn.tokens c.loop-turn-test.true in
    grind (arith, common_steps)

pub returns : goal.returns
returns c =
    c.loop-turn.invariant ∙ more_end _ _ _ _ _ c.loop-turn-test.false
