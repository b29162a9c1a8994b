use Rattle.std.proofs.Common.{sym, ◌∙◌, subst, List, ◌<◌, rules}
use Rattle.rv64_isa.specs.declared.instr.Instr.{Instr}
use Rattle.operator_code.specs.ComputingCode.{IsConversion}
use Rattle.operator_code.specs.Sequences.{listed}
use Rattle.operator_code.proofs.ConversionCode.{kept, extended}
use Rattle.operator_code.proofs.conversions.convert.Goals as goal

pub returns-then-is_kept : goal.returns-then-is_kept
returns-then-is_kept c = kept c.args.from c.args.to c.args.rd c.args.rs (listed c.copy.result) (sym c.is_kept.ensures ∙ c.if-is_kept.true) c.copy.ensures

pub returns-else-is_kept : goal.returns-else-is_kept
returns-else-is_kept c =
    let small : c.args.rd < 32 = search rules in
    subst (λ (is : List Instr). IsConversion c.args.from c.args.to c.args.rd c.args.rs is) (sym c.extend.ensures)
    (extended c.args.from c.args.to c.args.rd c.args.rs (sym c.is_kept.ensures ∙ c.if-is_kept.false) c.requires small)
