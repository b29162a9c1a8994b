use Rattle.std.proofs.Common.{ℕ, sym, subst}
use Rattle.std.specs.Prelude.{IfSome}
use Rattle.std.proofs.lemmas.Option.{IfSome_then}
use Rattle.rv64_isa.specs.declared.instr.Operation.{Operation}
use Rattle.rv64_isa.specs.declared.instr.Operation.TheVariants.{Add, Addw}
use Rattle.operator_code.specs.links.Immediates.{HasForm}
use Rattle.operator_code.proofs.ConstantOperands.{difference, word_difference}
use Rattle.operator_code.proofs.immediates.form_of.Goals as goal

pub returns-in-Sub-clause-form : goal.returns-in-Sub-clause-form
returns-in-Sub-clause-form c =
    subst (λ (i : Operation). IfSome c.number-in-Sub.result (λ f. HasForm i c.args.constant f)) (sym c.in-Sub.is)
    (IfSome_then c.number-in-Sub.result
    (subst (λ (n : ℕ). IfSome c.number-in-Sub.result (λ f. HasForm Add n f)) c.negative.ensures c.number-in-Sub.ensures.form)
    (difference c.args.constant))

pub returns-in-Subw-clause-form : goal.returns-in-Subw-clause-form
returns-in-Subw-clause-form c =
    subst (λ (i : Operation). IfSome c.number-in-Subw.result (λ f. HasForm i c.args.constant f)) (sym c.in-Subw.is)
    (IfSome_then c.number-in-Subw.result
    (subst (λ (n : ℕ). IfSome c.number-in-Subw.result (λ f. HasForm Addw n f)) c.negative-in-Subw.ensures c.number-in-Subw.ensures.form)
    (word_difference c.args.constant))
