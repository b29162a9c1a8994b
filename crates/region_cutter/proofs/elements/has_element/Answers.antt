use Rattle.std.proofs.Common.{rules, ◌↔◌, ◌<◌, nat_lt, length, refl}
use Rattle.std.specs.Prelude.{IsTrue}
use Rattle.std.proofs.lemmas.Option.{slice_get_read}
use Rattle.region_cutter.proofs.SingleElements.{element_some}
use Rattle.region_cutter.proofs.elements.has_element.Goals as goal

pub returns-in-Some : goal.returns-in-Some
returns-in-Some c =
    let shape = c.in-Some.shape.now in
    let k : IsTrue (nat_lt c.args.element shape.length) ↔ (c.args.element < shape.length) = search rules in
    let found = c.in-Some.ensures.lookup in
    let at = slice_get_read c.args.shapes.now (length c.args.shapes.now) c.args.variable shape refl found.3.0 found.1 in
    element_some c.args.shapes.now c.args.variable c.args.element shape (nat_lt c.args.element shape.length) at k
