use Rattle.std.proofs.Common.{ℕ, ◌≤◌, [], get_or, ap, arith, refl}
use borrow.Author.Count.{below_more}
use Rattle.c_tree.specs.LockNames.{count_held}
use Rattle.lock_discipline.proofs.SmallSets.{read_there, all_small}
use Rattle.lock_discipline.proofs.held.are_small.Goals as goal

pub loop-set-preserved : goal.loop-set-preserved
loop-set-preserved c =
    let sets = c.args.sets.now in
    let i = c.loop-set.set-index in
    let same = ap count_held (read_there sets i c.set-item.result [] c.loop-set-test.true c.set-item.is) in
    let here : count_held (get_or sets i []) ≤ c.args.most = omega (arith, c.count.ensures, c.if-count-most.false, same) in
    below_more (λ (step : ℕ). count_held (get_or sets step []) ≤ c.args.most) i c.loop-set.invariant here

pub returns-then-count-most : goal.returns-then-count-most
returns-then-count-most c =
    let sets = c.args.sets.now in
    let i = c.loop-set.set-index in
    let same = ap count_held (read_there sets i c.set-item.result [] c.loop-set-test.true c.set-item.is) in (
      λ no. cc,
      λ all. absurd (let small : count_held (get_or sets i []) ≤ c.args.most = all i in omega (arith, small, c.count.ensures, c.if-count-most.true, same)),
    )

pub returns : goal.returns
returns c = (
  λ _. all_small c.args.sets.now c.args.most (λ step below. c.loop-set.invariant step (omega (arith, below, c.loop-set-test.false))),
  λ _. refl,
)
