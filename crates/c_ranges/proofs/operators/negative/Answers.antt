-- The ends are small enough that their negatives are exact.
use Rattle.std.proofs.Common.{◌∙◌, arith}
use Rattle.std.proofs.lemmas.Int.{ints}
use Rattle.c_tree.specs.Ranges.{interval, fitted}
use Rattle.c_ranges.proofs.ExactArithmetic.{negative_exact}
use Rattle.c_ranges.proofs.HeldRanges.{HeldBy-Ends}
use Rattle.c_ranges.proofs.operators.negative.Goals as goal

pub fitted-requires : goal.fitted-requires
fitted-requires c =
    let x = HeldBy-Ends _ _ c.requires in
    omega (arith, ints)

pub returns-clause-value : goal.returns-clause-value
returns-clause-value c =
    let x = HeldBy-Ends _ _ c.requires in
    c.fitted.ensures.value ∙ (λ i. fitted c.args.kind (interval (negative_exact _ x.hi i) (negative_exact _ x.lo i)))
