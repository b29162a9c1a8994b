use Rattle.std.proofs.Common.{Bool, List, ap, subst, sym, ◌∙◌}
use Rattle.std.specs.Prelude.{Vec}
use Rattle.std.specs.Global.{Global}
use Rattle.c_tree.specs.Exprs.{lock_ref_of}
use Rattle.rv64_isa.specs.declared.instr.Instr.{Instr}
use Rattle.expr_code.specs.EvaluationCode.{homes_of}
use Rattle.boundary_code.specs.Boundaries.{lists_of}
use Rattle.rv64_codegen.specs.links.NumberedNames.{IsNumberedMore}
use Rattle.rv64_codegen.proofs.HeldCodes.{lists_more}
use Rattle.rv64_codegen.proofs.numbers.push_number.Goals as goal

pub returns-in_ok-push : goal.returns-in_ok-push
returns-in_ok-push c =
    subst (λ (is_held : Bool).
    IsNumberedMore (homes_of c.args.frame.now) c.args.log.now (lock_ref_of c.args.lock) is_held (lists_of c.args.codes.now.items)
    (lists_of c.push.new.self.items))
    (sym c.if-is_held.true) (
      c.in_ok-code.code.items,
      c.in_ok-code.ensures,
      ap (λ (codes : List (Vec Instr Global)). lists_of codes) c.in_ok-push.ensures.items ∙ lists_more c.args.codes.now.items c.in_ok-code.code,
    )
