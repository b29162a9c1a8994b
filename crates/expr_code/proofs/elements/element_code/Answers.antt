use Rattle.std.proofs.Common.{◌≡◌, ◌<◌, ◌%◌, ◌++◌, ◌∷◌, [], sym, subst, List, rules, refl, ◌∙◌}
use Rattle.rv64_isa.specs.declared.instr.Instr.{Instr}
use Rattle.c_tree.specs.Exprs as e
use Rattle.expr_code.specs.links.OperandCode.{IsEvaluation}
use Rattle.rv64_isa.specs.declared.instr.Instr.TheVariants.{Load}
use Rattle.expr_code.specs.links.ElementLoads.{loaded_by}
use Rattle.expr_code.proofs.ElementLoadCode.{element_value}
use Rattle.expr_code.proofs.PureCode.{none_more}
use Rattle.expr_code.proofs.elements.element_code.Goals as goal

pub returns-clause-code : goal.returns-clause-code
returns-clause-code c =
    let small : c.args.rd < 32 = search rules in
    λ h place variable index_place x is operand.
    let seen : c.push.new.self.items ≡ c.in_ok-code.code.items ++ Load (loaded_by c.args.kind) c.args.rd 31 (c.args.address % 4096) ∷ [] =
    cc (c.in_ok-push.ensures.items, c.load.ensures) in
    subst (λ (code : List Instr). IsEvaluation h (e.Element place variable c.args.kind index_place x) c.args.held c.args.rd code) (sym seen)
    (element_value c.args.kind c.args.held c.args.rd c.args.address c.in_ok-code.code.items c.requires.some small h place variable index_place x is
    (λ low. c.in_ok-code.ensures.code h x low operand))

pub returns-clause-pure : goal.returns-clause-pure
returns-clause-pure c =
    let seen : c.push.new.self.items ≡ c.in_ok-code.code.items ++ Load (loaded_by c.args.kind) c.args.rd 31 (c.args.address % 4096) ∷ [] =
    cc (c.in_ok-push.ensures.items, c.load.ensures) in
    none_more c.in_ok-code.code.items (Load (loaded_by c.args.kind) c.args.rd 31 (c.args.address % 4096) ∷ []) _ seen refl ∙ c.in_ok-code.ensures.pure
