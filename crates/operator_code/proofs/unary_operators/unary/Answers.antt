use Rattle.std.proofs.Common.{◌≡◌, sym, ◌∙◌, subst, ap, [], ◌∷◌}
use Rattle.ido_ints.specs.declared.operators.Unary.{Unary}
use Rattle.ido_ints.specs.declared.operators.Unary.TheVariants.{Minus, Complement, Not}
use Rattle.ido_ints.specs.declared.kinds.Kind.{Kind}
use Rattle.ido_ints.specs.Kinds.{promoted}
use Rattle.rv64_isa.specs.declared.instr.Instr.{Instr}
use Rattle.rv64_isa.specs.declared.instr.Instr.TheVariants.{Op}
use Rattle.rv64_isa.specs.declared.instr.Operation.{Operation}
use Rattle.rv64_isa.specs.declared.instr.Operation.TheVariants.{Sub, Subw}
use Rattle.operator_code.specs.links.OperatorInstructions.{by_width}
use Rattle.operator_code.specs.ComputingCode.{IsUnary}
use Rattle.operator_code.specs.Sequences.{listed}
use Rattle.operator_code.proofs.UnaryOperators.{plus, minus, complement, inverted}
use Rattle.operator_code.proofs.unary_operators.unary.Goals as goal

pub returns-in-Plus : goal.returns-in-Plus
returns-in-Plus c = subst (λ (u : Unary). IsUnary u c.args.kind c.args.rd c.args.rs (listed c.copy.result)) (sym c.in-Plus.is)
    (plus c.args.kind c.args.rd c.args.rs (listed c.copy.result) c.copy.ensures)

pub returns-in-Minus : goal.returns-in-Minus
returns-in-Minus c =
    let chosen : c.by_width-difference.result ≡ by_width (promoted c.args.kind) Sub Subw =
    c.by_width-difference.ensures ∙ ap (λ (k : Kind). by_width k Sub Subw) c.promote.ensures in
    let code : c.op.result ≡ Op (by_width (promoted c.args.kind) Sub Subw) c.args.rd 0 c.args.rs =
    c.op.ensures ∙ ap (λ (o : Operation). Op o c.args.rd 0 c.args.rs) chosen in
    subst (λ (u : Unary). IsUnary u c.args.kind c.args.rd c.args.rs (c.op.result ∷ [])) (sym c.in-Minus.is)
    (subst (λ (i : Instr). IsUnary Minus c.args.kind c.args.rd c.args.rs (i ∷ [])) (sym code)
    (minus c.args.kind c.args.rd c.args.rs c.requires))

pub returns-in-Complement : goal.returns-in-Complement
returns-in-Complement c = subst (λ (u : Unary). IsUnary u c.args.kind c.args.rd c.args.rs (c.immediate.result ∷ [])) (sym c.in-Complement.is)
    (subst (λ (i : Instr). IsUnary Complement c.args.kind c.args.rd c.args.rs (i ∷ [])) (sym c.immediate.ensures)
    (complement c.args.kind c.args.rd c.args.rs c.requires))

pub returns-in-Not : goal.returns-in-Not
returns-in-Not c = subst (λ (u : Unary). IsUnary u c.args.kind c.args.rd c.args.rs (c.immediate-in-Not.result ∷ [])) (sym c.in-Not.is)
    (subst (λ (i : Instr). IsUnary Not c.args.kind c.args.rd c.args.rs (i ∷ [])) (sym c.immediate-in-Not.ensures)
    (inverted c.args.kind c.args.rd c.args.rs c.requires))
