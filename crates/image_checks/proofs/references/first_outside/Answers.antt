use Rattle.std.proofs.Common.{refl, rules, subst}
use Rattle.std.specs.Prelude.{FitsSigned}
use Rattle.std.specs.Int.{w128}
use Rattle.std.proofs.lemmas.Int.{to_z-of_z}
use Rattle.c_ranges.specs.Laws.{IsNullOrReference}
use Rattle.image_checks.proofs.ElementNumbers.{one_right}
use Rattle.image_checks.proofs.references.first_outside.Goals as goal

pub loop-element-preserved : goal.loop-element-preserved
loop-element-preserved c =
    let fits : FitsSigned w128 c.number_at.result = search rules in
    let number = to_z-of_z w128 c.number_at.result fits in
    one_right c.args.words.now c.args.kind c.args.first c.args.elements c.loop-element.element c.bytes-size.result c.bytes-size.ensures
    c.loop-element.invariant
    (subst (IsNullOrReference c.args.elements) c.number_at.ensures (subst (IsNullOrReference c.args.elements) number (c.if-not-is_right.ensures.0 refl)))
