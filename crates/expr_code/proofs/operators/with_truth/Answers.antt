use Rattle.ido_ints.specs.declared.kinds.Kind.TheVariants.{Int}
use Rattle.std.proofs.Common.{◌<◌, sym, subst, refl, List, rules}
use Rattle.rv64_isa.specs.declared.instr.Instr.{Instr}
use Rattle.operator_code.specs.Sequences.{listed}
use Rattle.expr_code.specs.links.OperandCode.{IsMade, truth_of}
use Rattle.c_tree.specs.Elaboration.{kind_of}
use Rattle.expr_code.proofs.OperationCode.{truth_code}
use Rattle.expr_code.proofs.PureCode.{none_more, truth_none}
use Rattle.expr_code.proofs.operators.with_truth.Goals as goal

pub returns-clause-code : goal.returns-clause-code
returns-clause-code c =
    let small : c.args.rd < 32 = search rules in
    λ h x held operand.
    subst (λ (code : List Instr). IsMade h x truth_of held c.args.rd code) (sym c.in_ok-push_to.ensures.code)
    (truth_code (kind_of x) c.args.rd c.args.operand.register c.args.operand.code.items (listed c.truth.result) c.requires small
    (c.truth.ensures (kind_of x)) h x held refl operand)

pub returns-clause-pure : goal.returns-clause-pure
returns-clause-pure c =
    none_more c.args.operand.code.items (listed c.truth.result) _ c.in_ok-push_to.ensures.code
    (truth_none Int c.args.rd c.args.operand.register (listed c.truth.result) (c.truth.ensures Int))
