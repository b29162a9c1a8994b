use Rattle.std.proofs.Common.{map, ◌∙◌, arith}
use Rattle.std.proofs.lemmas.Grind.{common_steps}
use Rattle.c_tree.specs.Views.{signed_of}
use Rattle.c_reader.proofs.ItemSteps.{numbers_start, numbers_some, numbers_end}
use Rattle.c_reader.proofs.item.numbers.Goals as goal

pub returns-in_err-first : goal.returns-in_err-first
returns-in_err-first c =
    let e = numbers_start c.args.fuel c.args.tokens.now in
    grind (arith, common_steps)

pub loop-turn-init : goal.loop-turn-init
loop-turn-init c =
    let e = numbers_start c.args.fuel c.args.tokens.now in
    grind (arith, common_steps)

pub returns-in_err-mark : goal.returns-in_err-mark
returns-in_err-mark c =
    let e = numbers_some c.args.fuel c.loop-turn._turn (map signed_of c.loop-turn.found.items) c.loop-turn.tokens c.loop-turn-test.true in
    grind (arith, common_steps)

pub returns-then-not-sees : goal.returns-then-not-sees
returns-then-not-sees c =
    let e = numbers_some c.args.fuel c.loop-turn._turn (map signed_of c.loop-turn.found.items) c.loop-turn.tokens c.loop-turn-test.true in
    grind (arith, common_steps)

pub returns-in_err-mark-2 : goal.returns-in_err-mark-2
returns-in_err-mark-2 c =
    let e = numbers_some c.args.fuel c.loop-turn._turn (map signed_of c.loop-turn.found.items) c.loop-turn.tokens c.loop-turn-test.true in
    grind (arith, common_steps)

pub returns-in_err-mark-3 : goal.returns-in_err-mark-3
returns-in_err-mark-3 c =
    let e = numbers_some c.args.fuel c.loop-turn._turn (map signed_of c.loop-turn.found.items) c.loop-turn.tokens c.loop-turn-test.true in
    grind (arith, common_steps)

pub returns-then-sees : goal.returns-then-sees
returns-then-sees c =
    let e = numbers_some c.args.fuel c.loop-turn._turn (map signed_of c.loop-turn.found.items) c.loop-turn.tokens c.loop-turn-test.true in
    grind (arith, common_steps)

pub returns-in_err-next : goal.returns-in_err-next
returns-in_err-next c =
    let e = numbers_some c.args.fuel c.loop-turn._turn (map signed_of c.loop-turn.found.items) c.loop-turn.tokens c.loop-turn-test.true in
    grind (arith, common_steps)

pub loop-turn-preserved : goal.loop-turn-preserved
loop-turn-preserved c =
    let e = numbers_some c.args.fuel c.loop-turn._turn (map signed_of c.loop-turn.found.items) c.loop-turn.tokens c.loop-turn-test.true in
    grind (arith, common_steps)

pub returns : goal.returns
returns c =
    c.loop-turn.invariant ∙ numbers_end _ _ _ _ c.loop-turn-test.false
