use Rattle.std.proofs.Common.{◌≡◌, ◌∙◌, ℕ, false, length, ap, sym, arith}
use borrow.Author.Count.{below_more}
use Rattle.lock_discipline.proofs.Sets.{some_differ, first_differs, none_differs}
use Rattle.lock_discipline.proofs.walk.least_difference.Goals as goal

pub returns-then-differ_in : goal.returns-then-differ_in
returns-then-differ_in c =
    first_differs c.args.first.now c.args.others.now c.loop-name.name (omega (arith, ap length c.names-name-end.ensures.is))
    (sym c.differ_in.ensures ∙ c.if-differ_in.true) c.loop-name.invariant

pub loop-name-preserved : goal.loop-name-preserved
loop-name-preserved c =
    below_more (λ (m : ℕ). some_differ c.args.first.now c.args.others.now m ≡ false) c.loop-name.name c.loop-name.invariant
    (sym c.differ_in.ensures ∙ c.if-differ_in.false)

pub returns : goal.returns
returns c =
    none_differs c.args.first.now c.args.others.now
    (λ m low. c.loop-name.invariant m (omega (arith, low, ap length c.names-name-end.ensures.is, c.loop-name-test.false)))
