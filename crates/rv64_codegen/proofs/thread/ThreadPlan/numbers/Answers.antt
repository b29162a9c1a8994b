use Rattle.std.proofs.Common.{List, ap, subst, sym, ◌∙◌}
use Rattle.std.specs.Prelude.{Vec}
use Rattle.std.specs.Global.{Global}
use Rattle.log_schemes.specs.declared.keeping.Keeping.{Keeping}
use Rattle.rv64_isa.specs.declared.instr.Instr.{Instr}
use Rattle.expr_code.specs.EvaluationCode.{homes_of}
use Rattle.boundary_code.specs.Boundaries.{lists_of}
use Rattle.thread_code.specs.Plans.{held_names_before}
use Rattle.rv64_codegen.specs.links.Numbers.{AreCodesAs}
use Rattle.rv64_codegen.specs.links.Threads.{plan_in, thread_of}
use Rattle.rv64_codegen.proofs.thread.ThreadPlan.numbers.Goals as goal

pub returns-in-Masked : goal.returns-in-Masked
returns-in-Masked c =
    let x = c.args.self.now in
    let none = ap (λ (codes : List (Vec Instr Global)). lists_of codes) c.new.ensures.items in
    let held = held_names_before (plan_in x) (thread_of x) c.args.node in
    subst (λ (k : Keeping). AreCodesAs k (plan_in x).log (homes_of x.frame) x.number held (lists_of c.new.result.items))
    (sym c.in-Masked.is ∙ c.keeping.ensures) none
