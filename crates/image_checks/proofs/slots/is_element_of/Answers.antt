use Rattle.std.proofs.Common.{map, sym}
use Rattle.c_tree.specs.Programs.{variable_of}
use Rattle.c_tree.specs.links.KnownNames.{names_of}
use Rattle.flow_graph.specs.HeldKeys.{names_in}
use Rattle.image_checks.proofs.Elements.{by_its_key}
use Rattle.image_checks.proofs.slots.is_element_of.Goals as goal

pub returns-in-Some-named_element : goal.returns-in-Some-named_element
returns-in-Some-named_element c =
    let both = by_its_key (map variable_of c.args.variables.now)
    (names_in (map variable_of c.args.variables.now) (names_of c.args.names.now) c.args.locals.now) c.args.location c.args.address c.in-Some.key
    c.in-Some-named_element.number c.in-Some.is (sym c.in-Some-named_element.ensures) in
    (λ yes. both.0 (c.is_numbered_in.ensures.0 yes), λ h. c.is_numbered_in.ensures.1 (both.1 h))
