use Rattle.std.proofs.Common.{◌∙◌, List, sym, subst, map, ap}
use Rattle.ido_base.specs.declared.location.Shape.{Shape}
use Rattle.c_tree.specs.declared.program.Variable as variable
use Rattle.c_tree.specs.Programs.{variable_of}
use Rattle.c_tree.specs.WellFormed.{shape_of}
use Rattle.memory_layout.specs.Variables.{are_sizes}
use Rattle.region_cutter.specs.Places.{WriteElements}
use Rattle.rv64_codegen.specs.Plans.{plan_of}
use Rattle.rv64_codegen.proofs.PlannedThreads.{writes_exist}
use Rattle.rv64_codegen.proofs.Shaped.{sizes}
use Rattle.rv64_codegen.proofs.emission.cleaned.Goals as goal

pub cleaned_later-requires-clause-sizes : goal.cleaned_later-requires-clause-sizes
cleaned_later-requires-clause-sizes c =
    ap are_sizes
    (c.deref-2.ensures.value ∙ c.in_ok-shapes.ensures ∙ ap (λ (vs : List variable.Variable). map shape_of (map variable_of vs)) c.deref.ensures.value)
    ∙ sizes (plan_of c.args.plan.now).flat.variables

pub cleaned_later-requires-clause-elements : goal.cleaned_later-requires-clause-elements
cleaned_later-requires-clause-elements c =
    subst (λ (ss : List Shape). WriteElements (plan_of c.args.plan.now).graph ss)
    (sym (c.deref-2.ensures.value ∙ c.in_ok-shapes.ensures ∙ ap (λ (vs : List variable.Variable). map shape_of (map variable_of vs)) c.deref.ensures.value))
    (writes_exist (plan_of c.args.plan.now) c.requires)
