use Rattle.std.proofs.Common.{◌≡◌, ◌<◌, ◌+◌, ◌/◌, ◌%◌, ◌^◌, ◌∷◌, [], sym, subst, List, rules, refl}
use Rattle.rv64_isa.specs.declared.instr.Instr.{Instr}
use Rattle.rv64_isa.specs.declared.instr.Instr.TheVariants.{Lui, OpImmediate}
use Rattle.rv64_isa.specs.declared.instr.ImmediateOperation.TheVariants.{Addi}
use Rattle.expr_code.specs.EvaluationCode.{IsVariableAddressCode}
use Rattle.expr_code.proofs.ElementLoadCode.{variable_address_code}
use Rattle.expr_code.proofs.PureCode.{two_none}
use Rattle.expr_code.proofs.elements.variable_address.Goals as goal

pub returns-clause-code : goal.returns-clause-code
returns-clause-code c =
    let small : c.args.rd < 32 = search rules in
    λ h variable is.
    let seen : c.in_ok-vec.field-0.items ≡ Lui 31 ((c.args.address + 2048) % 2 ^ 32 / 4096) ∷ OpImmediate Addi c.args.rd 31 (c.args.address % 4096) ∷ [] =
    cc (c.in_ok-vec.ensures.items, c.upper.ensures, c.immediate.ensures, c.lower.ensures.value) in
    subst (λ (code : List Instr). IsVariableAddressCode h variable c.args.rd code) (sym seen)
    (variable_address_code c.args.rd c.args.address c.requires small h variable is)

pub returns-clause-pure : goal.returns-clause-pure
returns-clause-pure c =
    let seen : c.in_ok-vec.field-0.items ≡ Lui 31 ((c.args.address + 2048) % 2 ^ 32 / 4096) ∷ OpImmediate Addi c.args.rd 31 (c.args.address % 4096) ∷ [] =
    cc (c.in_ok-vec.ensures.items, c.upper.ensures, c.immediate.ensures, c.lower.ensures.value) in
    two_none (Lui 31 ((c.args.address + 2048) % 2 ^ 32 / 4096)) (OpImmediate Addi c.args.rd 31 (c.args.address % 4096)) _ seen refl refl
