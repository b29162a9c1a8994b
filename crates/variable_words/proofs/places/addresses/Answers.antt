use Rattle.std.proofs.Common.{◌∙◌, sym, subst, map, ap, List}
use Rattle.ido_base.specs.declared.location.Shape.{Shape}
use Rattle.c_tree.specs.Programs.{variable_of}
use Rattle.memory_layout.specs.Variables.{are_sizes, HaveRoom}
use Rattle.variable_words.proofs.VariableBounds.{have_sizes}
use Rattle.variable_words.proofs.places.addresses.Goals as goal

pub addresses-requires-clause-sizes : goal.addresses-requires-clause-sizes
addresses-requires-clause-sizes c =
    ap are_sizes (c.deref.ensures.value ∙ c.in_ok-shapes.ensures) ∙ have_sizes (map variable_of c.args.variables.now)

pub addresses-requires-clause-room : goal.addresses-requires-clause-room
addresses-requires-clause-room c =
    subst (λ (ss : List Shape). HaveRoom ss) (sym (c.deref.ensures.value ∙ c.in_ok-shapes.ensures)) c.requires
