-- The kind that was found holds the number.
use Rattle.std.proofs.Common.{◌<◌, ◌^◌, ℤ, sym, subst, arith}
use Rattle.std.specs.Int.{w128}
use Rattle.std.proofs.lemmas.Int.{ints, to_z_pos}
use Rattle.ido_ints.specs.Kinds.{Holds}
use Rattle.ido_ints.proofs.LiteralKinds.{literal_kind_of-Holds}
use Rattle.ido_ints.proofs.ReductionLaws.{Holds-Bounded}
use Rattle.ido_ints.proofs.literals.literal.Goals as goal

pub new-requires : goal.new-requires
new-requires c =
    let n = c.args.number in
    let k = c.in-Some.kind in
    let held = literal_kind_of-Holds c.args.base c.args.suffix n k (sym c.in-Some.ensures) in
    let bound = Holds-Bounded k _ held in
    let small : n < 2 ^ 127 = omega (arith, ints, bound.below) in
    let P : ℤ → Type 0 = Holds k in
    subst P (sym (to_z_pos w128 n small)) held
