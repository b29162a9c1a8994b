-- The ends are small enough that their sums are exact.
use Rattle.std.proofs.Common.{◌∙◌, arith}
use Rattle.std.proofs.lemmas.Int.{ints}
use Rattle.c_tree.specs.Ranges.{interval, fitted}
use Rattle.c_ranges.proofs.ExactArithmetic.{sum_exact}
use Rattle.c_ranges.proofs.HeldRanges.{HeldBy-Ends}
use Rattle.c_ranges.proofs.operators.sum.Goals as goal

pub overflow_add-exact : goal.overflow_add-exact
overflow_add-exact c =
    let x = HeldBy-Ends _ _ c.requires.x in
    let y = HeldBy-Ends _ _ c.requires.y in
    omega (arith, ints)

pub overflow_add-exact-2 : goal.overflow_add-exact-2
overflow_add-exact-2 c =
    let x = HeldBy-Ends _ _ c.requires.x in
    let y = HeldBy-Ends _ _ c.requires.y in
    omega (arith, ints)

pub fitted-requires : goal.fitted-requires
fitted-requires c =
    let x = HeldBy-Ends _ _ c.requires.x in
    let y = HeldBy-Ends _ _ c.requires.y in
    omega (arith, ints)

pub returns-clause-value : goal.returns-clause-value
returns-clause-value c =
    let x = HeldBy-Ends _ _ c.requires.x in
    let y = HeldBy-Ends _ _ c.requires.y in
    c.fitted.ensures.value ∙ (λ i. fitted c.args.kind (interval (sum_exact _ _ x.lo y.lo i) (sum_exact _ _ x.hi y.hi i)))
