use Rattle.std.proofs.Common.{◌≤◌, map, refl, arith}
use Rattle.c_tree.specs.Programs.{variable_of}
use Rattle.image_checks.proofs.Elements.{only_one}
use Rattle.image_checks.proofs.slots.is_numbered_in.Goals as goal

pub returns : goal.returns
returns c =
    let from : c.args.location.lo ≤ c.args.number = omega (arith, c.if-number-from.false, c.from.ensures) in
    let to : c.args.number ≤ c.args.location.hi = omega (arith, c.if-number-from-2.false, c.from-2.ensures) in
    let both = only_one (map variable_of c.args.variables.now) c.args.location _ c.args.number c.args.address refl (omega arith) (omega arith) from to in
    (λ yes. both.0 (c.stands_in.ensures.0 yes), λ h. c.stands_in.ensures.1 (both.1 h))
