use Rattle.std.proofs.Common.{◌≡◌, ◌∙◌, true, length, ap, sym, arith}
use Rattle.c_tree.specs.LockNames.{Held, holds}
use Rattle.lock_discipline.proofs.Sets.{first_held, none_is_held}
use Rattle.lock_discipline.proofs.set.NameSet.least.Goals as goal

pub returns-then-is_held : goal.returns-then-is_held
returns-then-is_held c =
    let h = c.args.self.now in
    let i = c.loop-name.name in
    let same = c.names-is_held-items.ensures.is in
    let here : holds h i ≡ true = ap (λ (k : Held). holds k i) (sym same) ∙ c.if-is_held.true in
    first_held h i (omega (arith, ap length same)) here c.loop-name.invariant

pub returns : goal.returns
returns c =
    let same = c.names-is_held-items.ensures.is in
    none_is_held c.args.self.now (λ m low. c.loop-name.invariant m (omega (arith, low, ap length same, c.loop-name-test.false)))
