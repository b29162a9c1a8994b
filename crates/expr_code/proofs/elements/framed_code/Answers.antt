use Rattle.std.proofs.Common.{◌≡◌, ◌<◌, ◌+◌, ◌/◌, ◌%◌, ◌^◌, ◌∷◌, [], sym, subst, List, rules, refl}
use Rattle.ido_ints.specs.declared.kinds.Kind.TheVariants.{UnsignedLong}
use Rattle.rv64_isa.specs.declared.instr.Instr.{Instr}
use Rattle.c_tree.specs.Exprs as e
use Rattle.expr_code.specs.links.OperandCode.{IsEvaluation}
use Rattle.rv64_isa.specs.declared.instr.Instr.TheVariants.{Lui, Load}
use Rattle.expr_code.specs.links.ElementLoads.{loaded_by}
use Rattle.expr_code.proofs.ElementLoadCode.{framed_value}
use Rattle.expr_code.proofs.PureCode.{two_none}
use Rattle.expr_code.proofs.elements.framed_code.Goals as goal

pub returns-clause-code : goal.returns-clause-code
returns-clause-code c =
    let small : c.args.rd < 32 = search rules in
    λ h local kind held is near.
    let seen : c.in_ok-vec.field-0.items ≡
    Lui 31 ((c.args.address + 2048) % 2 ^ 32 / 4096) ∷ Load (loaded_by UnsignedLong) c.args.rd 31 (c.args.address % 4096) ∷ [] =
    cc (c.in_ok-vec.ensures.items, c.upper.ensures, c.load.ensures) in
    subst (λ (code : List Instr). IsEvaluation h (e.Local local kind) held c.args.rd code) (sym seen)
    (framed_value c.args.rd c.args.address c.requires small h local kind held is near)

pub returns-clause-pure : goal.returns-clause-pure
returns-clause-pure c =
    let seen : c.in_ok-vec.field-0.items ≡
    Lui 31 ((c.args.address + 2048) % 2 ^ 32 / 4096) ∷ Load (loaded_by UnsignedLong) c.args.rd 31 (c.args.address % 4096) ∷ [] =
    cc (c.in_ok-vec.ensures.items, c.upper.ensures, c.load.ensures) in
    two_none (Lui 31 ((c.args.address + 2048) % 2 ^ 32 / 4096)) (Load (loaded_by UnsignedLong) c.args.rd 31 (c.args.address % 4096)) _ seen refl refl
