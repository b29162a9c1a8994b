use Rattle.std.proofs.Common.{◌≡◌, ◌%◌, ℕ, sym, subst, rules}
use Rattle.rv64_isa.specs.Arithmetic.{word_shift_of}
use Rattle.operator_code.specs.declared.immediates.ImmediateForm.TheVariants.{ShiftWord}
use Rattle.operator_code.specs.links.Immediates.{HasForm}
use Rattle.operator_code.proofs.ConstantOperands.{shift_word_form}
use Rattle.operator_code.proofs.immediates.shift_word.Goals as goal

pub returns : goal.returns
returns c =
    let low : c.unwrap.result ≡ c.args.constant % 32 = search rules in
    subst (λ (count : ℕ). HasForm (word_shift_of c.args.operation) c.args.constant (ShiftWord c.args.operation count)) (sym low)
    (shift_word_form c.args.operation c.args.constant)
