use Rattle.std.proofs.Common.{◌≡◌, ◌%◌, ◌^◌, ◌<◌, ℕ, true, sym, ◌∙◌, subst, rules}
use Rattle.rv64_isa.specs.Arithmetic.{operation_of}
use Rattle.operator_code.specs.declared.immediates.ImmediateForm.TheVariants.{Number}
use Rattle.operator_code.specs.Constants.{is_immediate}
use Rattle.operator_code.specs.links.Immediates.{HasForm}
use Rattle.operator_code.proofs.ConstantOperands.{low_bits, number_form}
use Rattle.operator_code.proofs.immediates.number.Goals as goal

pub returns-then-is_near-clause-form : goal.returns-then-is_near-clause-form
returns-then-is_near-clause-form c =
    let near : is_immediate c.args.constant ≡ true = sym c.is_near.ensures ∙ c.if-is_near.true in
    let small : c.args.constant < 2 ^ 64 = search rules in
    let low : c.unwrap-low.result ≡ c.args.constant % 4096 = search rules in
    subst (λ (bits : ℕ). HasForm (operation_of c.args.operation) c.args.constant (Number c.args.operation bits)) (sym low)
    (number_form c.args.operation (c.args.constant % 4096) c.args.constant (low_bits c.args.constant small near))
