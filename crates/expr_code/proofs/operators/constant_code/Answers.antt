use Rattle.std.proofs.Common.{◌<◌, subst, ℕ, rules}
use Rattle.ido_ints.specs.Kinds.{Holds}
use Rattle.operator_code.specs.StraightLineCode.{IsConstant}
use Rattle.expr_code.proofs.OperationCode.{constant_value}
use Rattle.expr_code.proofs.PureCode.{constant_none}
use Rattle.expr_code.proofs.operators.constant_code.Goals as goal

pub returns-clause-code : goal.returns-clause-code
returns-clause-code c =
    let small : c.args.rd < 32 = search rules in
    let holds : Holds c.args.value.kind c.args.value.number = search rules in
    λ h held. constant_value c.args.value c.args.rd c.in_ok-code.code.items c.requires small holds
    (subst (λ (n : ℕ). IsConstant c.args.rd n c.in_ok-code.code.items) c.register_form.ensures c.in_ok-code.ensures.code) h held

pub returns-clause-pure : goal.returns-clause-pure
returns-clause-pure c = constant_none c.args.rd _ c.in_ok-code.code.items c.in_ok-code.ensures.code
