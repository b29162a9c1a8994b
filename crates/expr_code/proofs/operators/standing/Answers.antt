use Rattle.std.proofs.Common.{◌≡◌, [], sym, subst, List}
use Rattle.rv64_isa.specs.declared.instr.Instr.{Instr}
use Rattle.c_tree.specs.Exprs as e
use Rattle.expr_code.specs.links.OperandCode.{IsOperand}
use Rattle.expr_code.proofs.OperationCode as operating
use Rattle.expr_code.proofs.operators.standing.Goals as goal

pub returns-clause-operand : goal.returns-clause-operand
returns-clause-operand c = λ h local kind held is home.
    let code : c.new.result.items ≡ [] = c.new.ensures.items in
    subst (λ (code : List Instr). IsOperand h (e.Local local kind) held c.args.register code) (sym code)
    (operating.local_operand h local kind held c.args.register is home)
