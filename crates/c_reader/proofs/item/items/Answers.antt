use Rattle.std.proofs.Common.{map, ◌∙◌, arith}
use Rattle.std.proofs.lemmas.Grind.{common_steps}
use Rattle.c_tree.specs.Views.{item_of}
use Rattle.c_reader.proofs.ItemSteps.{items_start, items_some, items_end}
use Rattle.c_reader.proofs.item.items.Goals as goal

pub returns-in_err-first : goal.returns-in_err-first
returns-in_err-first c =
    let e = items_start c.args.language c.args.fuel c.args.tokens.now in
    grind (arith, common_steps)

pub loop-turn-init : goal.loop-turn-init
loop-turn-init c =
    let e = items_start c.args.language c.args.fuel c.args.tokens.now in
    grind (arith, common_steps)

pub returns-then-is_empty : goal.returns-then-is_empty
returns-then-is_empty c =
    let e = items_some c.args.language c.args.fuel c.loop-turn._turn (map item_of c.loop-turn.found.items) c.loop-turn.tokens c.loop-turn-test.true in
    grind (arith, common_steps)

pub returns-in_err-next : goal.returns-in_err-next
returns-in_err-next c =
    let e = items_some c.args.language c.args.fuel c.loop-turn._turn (map item_of c.loop-turn.found.items) c.loop-turn.tokens c.loop-turn-test.true in
    grind (arith, common_steps)

pub loop-turn-preserved : goal.loop-turn-preserved
loop-turn-preserved c =
    let e = items_some c.args.language c.args.fuel c.loop-turn._turn (map item_of c.loop-turn.found.items) c.loop-turn.tokens c.loop-turn-test.true in
    grind (arith, common_steps)

pub returns : goal.returns
returns c =
    c.loop-turn.invariant ∙ items_end _ _ _ _ _ c.loop-turn-test.false
