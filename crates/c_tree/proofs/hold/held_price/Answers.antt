use Rattle.std.proofs.Common.{◌≡◌, ◌<◌, List, drop, length, sym, ap, arith}
use Rattle.std.proofs.lemmas.List.{drop_all}
use Rattle.c_tree.specs.HoldPrices.{held_price}
use Rattle.c_tree.specs.declared.expr.LockRef.{LockRef}
use Rattle.c_tree.specs.links.KnownNames.{names_of}
use Rattle.c_tree.proofs.HeldPrices.{price_more}
use Rattle.c_tree.proofs.hold.held_price.Goals as goal

pub loop-number-preserved : goal.loop-number-preserved
loop-number-preserved c =
    let names = c.args.names.now in
    let i = c.loop-number.number in
    let within : i < length names = omega arith in
    let more = price_more names c.args.held.now i c.index-names-number.result within c.index-names-number.is c.is_held.result (sym c.is_held.ensures) in
    (omega arith, omega (arith, c.loop-number.invariant.0, c.loop-number.invariant.1, more))

pub returns : goal.returns
returns c =
    let names = c.args.names.now in
    let h = c.args.held.now in
    let i = c.loop-number.number in
    let none : held_price (names_of (drop i names)) (drop i h) ≡ 0 =
    ap (λ (ys : List LockRef). held_price (names_of ys) (drop i h)) (drop_all i names (omega arith)) in
    omega (arith, c.loop-number.invariant.0, c.loop-number.invariant.1, none)
