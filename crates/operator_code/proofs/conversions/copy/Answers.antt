use Rattle.std.proofs.Common.{sym, ◌∙◌, subst, [], ◌∷◌}
use Rattle.rv64_isa.specs.declared.instr.Instr.{Instr}
use Rattle.operator_code.specs.ComputingCode.{IsCopy}
use Rattle.operator_code.proofs.ConstantSteps.{equal_by}
use Rattle.operator_code.proofs.ConversionCode.{moved, unmoved}
use Rattle.operator_code.proofs.conversions.copy.Goals as goal

pub returns-then-eq : goal.returns-then-eq
returns-then-eq c = unmoved c.args.rd c.args.rs (equal_by c.args.rd c.args.rs (sym c.eq.ensures ∙ c.if-eq.true))

pub returns-else-eq : goal.returns-else-eq
returns-else-eq c = subst (λ (i : Instr). IsCopy c.args.rd c.args.rs (i ∷ [])) (sym c.immediate.ensures) (moved c.args.rd c.args.rs c.requires)
