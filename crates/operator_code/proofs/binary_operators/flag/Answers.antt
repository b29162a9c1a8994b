use Rattle.std.proofs.Common.{◌<◌, sym, subst, List, rules}
use Rattle.rv64_isa.specs.declared.instr.Instr.{Instr}
use Rattle.operator_code.specs.ComputingCode.{IsFlag}
use Rattle.operator_code.proofs.Flags.{flagged}
use Rattle.operator_code.proofs.binary_operators.flag.Goals as goal

pub returns : goal.returns
returns c =
    let small : c.args.rd < 32 = search rules in
    subst (λ (is : List Instr). IsFlag c.args.test c.args.rd is) (sym c.flag_of.ensures)
    (flagged c.args.test.condition c.args.rd c.args.test.rs1 c.args.test.rs2 c.requires small)
