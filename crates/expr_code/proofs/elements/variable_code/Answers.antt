use Rattle.std.proofs.Common.{◌≡◌, ◌<◌, ◌+◌, ◌/◌, ◌%◌, ◌^◌, ◌∷◌, [], sym, subst, List, rules, refl}
use Rattle.rv64_isa.specs.declared.instr.Instr.{Instr}
use Rattle.c_tree.specs.Exprs as e
use Rattle.expr_code.specs.links.OperandCode.{IsEvaluation}
use Rattle.rv64_isa.specs.declared.instr.Instr.TheVariants.{Lui, Load}
use Rattle.expr_code.specs.links.ElementLoads.{loaded_by}
use Rattle.expr_code.proofs.ElementLoadCode.{variable_value}
use Rattle.expr_code.proofs.PureCode.{two_none}
use Rattle.expr_code.proofs.elements.variable_code.Goals as goal

pub returns-clause-code : goal.returns-clause-code
returns-clause-code c =
    let small : c.args.rd < 32 = search rules in
    λ h place variable held is.
    let seen : c.in_ok-vec.field-0.items ≡
    Lui 31 ((c.args.address + 2048) % 2 ^ 32 / 4096) ∷ Load (loaded_by c.args.kind) c.args.rd 31 (c.args.address % 4096) ∷ [] =
    cc (c.in_ok-vec.ensures.items, c.upper.ensures, c.load.ensures) in
    subst (λ (code : List Instr). IsEvaluation h (e.Variable place variable c.args.kind) held c.args.rd code) (sym seen)
    (variable_value c.args.kind c.args.rd c.args.address c.requires small h place variable held is)

pub returns-clause-pure : goal.returns-clause-pure
returns-clause-pure c =
    let seen : c.in_ok-vec.field-0.items ≡
    Lui 31 ((c.args.address + 2048) % 2 ^ 32 / 4096) ∷ Load (loaded_by c.args.kind) c.args.rd 31 (c.args.address % 4096) ∷ [] =
    cc (c.in_ok-vec.ensures.items, c.upper.ensures, c.load.ensures) in
    two_none (Lui 31 ((c.args.address + 2048) % 2 ^ 32 / 4096)) (Load (loaded_by c.args.kind) c.args.rd 31 (c.args.address % 4096)) _ seen refl refl
