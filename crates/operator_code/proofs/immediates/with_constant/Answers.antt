use Rattle.std.proofs.Common.{◌≡◌, ap, sym, ◌∙◌, subst, Option, Some}
use Rattle.std.specs.Prelude.{IfSome}
use Rattle.std.proofs.lemmas.Option.{IfSome_then}
use Rattle.ido_ints.specs.declared.kinds.Kind.{Kind}
use Rattle.rv64_isa.specs.declared.instr.Operation.{Operation}
use Rattle.operator_code.specs.ComputingCode.{left_kind}
use Rattle.operator_code.specs.Constants.{has_immediate}
use Rattle.operator_code.specs.links.Immediates.{takes}
use Rattle.operator_code.specs.links.OperatorInstructions.{instruction_of}
use Rattle.operator_code.proofs.ConstantOperands.{where_some}
use Rattle.operator_code.proofs.BinaryOperators.{OperatorGives, given, by_form}
use Rattle.operator_code.proofs.immediates.with_constant.Goals as goal

pub returns-clause-some : goal.returns-clause-some
returns-clause-some c =
    let o = c.args.operation in
    let found : instruction_of o.operator (left_kind o) ≡ Some c.in_ok-code.code =
    sym (c.in_ok-code.ensures ∙ ap (λ (k : Kind). instruction_of o.operator k) c.left_kind.ensures) in
    let same : takes c.in_ok-code.code c.args.constant ≡ has_immediate o.operator c.args.constant =
    where_some o.operator (left_kind o) c.args.constant c.in_ok-code.code found in
    (λ some. sym same ∙ c.form_of.ensures.some.0 some, λ has. c.form_of.ensures.some.1 (same ∙ has))

pub returns-clause-code : goal.returns-clause-code
returns-clause-code c =
    let o = c.args.operation in
    let found : instruction_of o.operator (left_kind o) ≡ Some c.in_ok-code.code =
    sym (c.in_ok-code.ensures ∙ ap (λ (k : Kind). instruction_of o.operator k) c.left_kind.ensures) in
    let law : OperatorGives o c.in_ok-code.code = subst (λ (x : Option Operation). IfSome x (λ i. OperatorGives o i)) found (given o.operator o.left o.right) in
    IfSome_then c.form_of.result c.form_of.ensures.form (λ f h. by_form o c.in_ok-code.code c.args.constant f law h)
