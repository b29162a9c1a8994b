use Rattle.expr_code.specs.EvaluationCode.{impure_among}
use Rattle.std.proofs.Common.{sym, subst, List, ap, arith}
use Rattle.rv64_isa.specs.declared.instr.Instr.{Instr}
use Rattle.c_tree.specs.Exprs as e
use Rattle.expr_code.specs.links.OperandCode.{IsEvaluation}
use Rattle.expr_code.proofs.ConditionalCode.{conditional, as_made, conditional_code}
use Rattle.expr_code.proofs.conditions.conditional.Goals as goal

pub returns-clause-code : goal.returns-clause-code
returns-clause-code c = λ h k x y z held rd tests chosen otherwise.
    conditional_code h k x y z held rd c.in_ok-code.code.items
    (c.in_ok-code.ensures.code h (conditional k x y z) held rd tests
    (as_made h k y held rd c.deref.result.now (subst (λ (code : List Instr). IsEvaluation h (e.Converted k y) held rd code) (sym c.deref.ensures.value) chosen))
    (as_made h k z held rd c.deref-2.result.now
    (subst (λ (code : List Instr). IsEvaluation h (e.Converted k z) held rd code) (sym c.deref-2.ensures.value) otherwise)))

pub returns-clause-pure : goal.returns-clause-pure
returns-clause-pure c =
    let whole = c.in_ok-code.ensures.pure in
    let first = ap impure_among c.deref.ensures.value in
    let second = ap impure_among c.deref-2.ensures.value in
    omega (arith, whole, first, second)
