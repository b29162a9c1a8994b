use Rattle.std.proofs.Common.{◌≡◌, ap, ◌∙◌, arith, to_z, of_z}
use Rattle.std.specs.Prelude.{ℤ, pos}
use Rattle.std.specs.Int.{w128}
use Rattle.std.proofs.lemmas.Int.{ints}
use Rattle.ido_ints.specs.TypedNumbers.{typed_reduced, register_form_of}
use Rattle.image_checks.proofs.Forms.{form_is}
use Rattle.image_checks.proofs.slots.is_form.Goals as goal

pub returns : goal.returns
returns c =
    let passed : to_z w128 (of_z w128 c.from.result) ≡ pos c.args.word = omega (arith, ints) in
    form_is c.args.kind c.args.word c.register_form.result
    (c.register_form.ensures ∙ ap register_form_of (c.reduce.ensures ∙ ap (λ (z : ℤ). typed_reduced c.args.kind z) passed))
