use Rattle.std.proofs.Common.{sym, subst, [], ◌∷◌}
use Rattle.rv64_isa.specs.declared.instr.Instr.{Instr}
use Rattle.operator_code.specs.ComputingCode.{IsTruth}
use Rattle.operator_code.proofs.UnaryOperators.{true_where}
use Rattle.operator_code.proofs.unary_operators.truth.Goals as goal

pub returns : goal.returns
returns c = λ kind. subst (λ (i : Instr). IsTruth kind c.args.rd c.args.rs (i ∷ [])) (sym c.op.ensures) (true_where kind c.args.rd c.args.rs c.requires)
