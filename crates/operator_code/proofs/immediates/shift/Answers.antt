use Rattle.std.proofs.Common.{◌≡◌, ◌%◌, ℕ, sym, subst, rules}
use Rattle.rv64_isa.specs.Arithmetic.{shift_of}
use Rattle.operator_code.specs.declared.immediates.ImmediateForm.TheVariants.{Shift}
use Rattle.operator_code.specs.links.Immediates.{HasForm}
use Rattle.operator_code.proofs.ConstantOperands.{shift_form}
use Rattle.operator_code.proofs.immediates.shift.Goals as goal

pub returns : goal.returns
returns c =
    let low : c.unwrap.result ≡ c.args.constant % 64 = search rules in
    subst (λ (count : ℕ). HasForm (shift_of c.args.operation) c.args.constant (Shift c.args.operation count)) (sym low)
    (shift_form c.args.operation c.args.constant)
