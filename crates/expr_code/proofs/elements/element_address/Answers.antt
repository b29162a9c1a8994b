use Rattle.std.proofs.Common.{◌≡◌, ◌<◌, ◌%◌, ◌++◌, ◌∷◌, [], sym, subst, List, rules, refl, ◌∙◌}
use Rattle.rv64_isa.specs.declared.instr.Instr.{Instr}
use Rattle.rv64_isa.specs.declared.instr.Instr.TheVariants.{OpImmediate}
use Rattle.rv64_isa.specs.declared.instr.ImmediateOperation.TheVariants.{Addi}
use Rattle.expr_code.specs.EvaluationCode.{IsElementAddressCode}
use Rattle.expr_code.proofs.ElementLoadCode.{element_address_code}
use Rattle.expr_code.proofs.PureCode.{none_more}
use Rattle.expr_code.proofs.elements.element_address.Goals as goal

pub returns-clause-code : goal.returns-clause-code
returns-clause-code c =
    let small : c.args.rd < 32 = search rules in
    λ h variable x is operand.
    let seen : c.push.new.self.items ≡ c.in_ok-code.code.items ++ OpImmediate Addi c.args.rd 31 (c.args.address % 4096) ∷ [] =
    cc (c.in_ok-push.ensures.items, c.immediate.ensures, c.lower.ensures.value) in
    subst (λ (code : List Instr). IsElementAddressCode h variable c.args.kind x c.args.rd code) (sym seen)
    (element_address_code c.args.kind c.args.rd c.args.address c.in_ok-code.code.items c.requires small h variable x is
    (λ low. c.in_ok-code.ensures.code h x.expr low operand))

pub returns-clause-pure : goal.returns-clause-pure
returns-clause-pure c =
    let seen : c.push.new.self.items ≡ c.in_ok-code.code.items ++ OpImmediate Addi c.args.rd 31 (c.args.address % 4096) ∷ [] =
    cc (c.in_ok-push.ensures.items, c.immediate.ensures, c.lower.ensures.value) in
    none_more c.in_ok-code.code.items (OpImmediate Addi c.args.rd 31 (c.args.address % 4096) ∷ []) _ seen refl ∙ c.in_ok-code.ensures.pure
