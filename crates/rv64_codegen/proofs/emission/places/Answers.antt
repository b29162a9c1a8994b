use Rattle.std.proofs.Common.{◌∙◌, List, sym, subst, map, ap}
use Rattle.ido_base.specs.declared.location.Shape.{Shape}
use Rattle.c_tree.specs.declared.program.Variable as variable
use Rattle.c_tree.specs.Programs.{variable_of}
use Rattle.c_tree.specs.WellFormed.{shape_of}
use Rattle.memory_layout.specs.Variables.{are_sizes, HaveRoom}
use Rattle.rv64_codegen.specs.Plans.{plan_of}
use Rattle.rv64_codegen.proofs.PlannedThreads.{have_room}
use Rattle.rv64_codegen.proofs.Shaped.{sizes}
use Rattle.rv64_codegen.proofs.emission.places.Goals as goal

pub addresses-requires-clause-sizes : goal.addresses-requires-clause-sizes
addresses-requires-clause-sizes c =
    ap are_sizes
    (c.deref-2.ensures.value ∙ c.in_ok-shapes.ensures ∙ ap (λ (vs : List variable.Variable). map shape_of (map variable_of vs)) c.deref.ensures.value)
    ∙ sizes (plan_of c.args.plan.now).flat.variables

pub addresses-requires-clause-room : goal.addresses-requires-clause-room
addresses-requires-clause-room c =
    subst (λ (ss : List Shape). HaveRoom ss)
    (sym (c.deref-2.ensures.value ∙ c.in_ok-shapes.ensures ∙ ap (λ (vs : List variable.Variable). map shape_of (map variable_of vs)) c.deref.ensures.value))
    (have_room (plan_of c.args.plan.now) c.requires)
