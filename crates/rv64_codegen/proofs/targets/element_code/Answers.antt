use Rattle.std.proofs.Common.{List, ◌∙◌, ◌++◌, ap}
use Rattle.rv64_isa.specs.declared.instr.Instr.{Instr}
use Rattle.c_tree.specs.Exprs.{expr_of, placed_of}
use Rattle.expr_code.specs.EvaluationCode.{homes_of}
use Rattle.rv64_codegen.proofs.Results.{element_selected}
use Rattle.rv64_codegen.proofs.targets.element_code.Goals as goal

pub returns : goal.returns
returns c =
    element_selected (homes_of c.args.frame.now) c.args.assigned.place c.args.assigned.variable c.args.assigned.kind (placed_of c.args.index.now)
    (expr_of c.args.value.now.expr) c.in_ok-address.address.items c.in_ok-value.value.items c.in_ok-code.code.items
    (c.in_ok-code.ensures ∙ ap (λ (is : List Instr). c.in_ok-address.address.items ++ is) c.deref.ensures.value)
    c.in_ok-address.ensures.short c.in_ok-value.ensures.short c.in_ok-address.ensures.pure c.in_ok-value.ensures.pure c.in_ok-address.ensures.code
    c.in_ok-value.ensures.code
