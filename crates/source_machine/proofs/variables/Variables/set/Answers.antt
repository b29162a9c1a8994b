use Rattle.std.proofs.Common.{◌∙◌, arith, FitsSigned, sym, ap}
use Rattle.std.specs.Int.{w128}
use Rattle.std.proofs.lemmas.Int.{ints, to_z-of_z}
use Rattle.source_machine.specs.links.Spans.{place_in}
use Rattle.source_machine.proofs.ConsecutiveLists.{set_read, unwritten}
use Rattle.source_machine.proofs.variables.Variables.set.Goals as goal

pub returns-in-Some : goal.returns-in-Some
returns-in-Some c =
    let inside = c.self.inside in
    let h = c.in-Some.ensures.value ∙ ap (λ ss. place_in ss c.args.variable c.args.element) c.deref.ensures.value in
    let fits : FitsSigned w128 c.args.number = omega (arith, ints, c.ranges.number.sfits) in
    rw (← c.self.view_is, to_z-of_z w128 c.args.number fits)
    (set_read inside.spans.items inside.elements.items c.args.variable c.args.element c.in-Some.place c.args.number c.self.invariant h)

pub returns-in_default : goal.returns-in_default
returns-in_default c =
    let h = c.in_default.ensures.value ∙ ap (λ ss. place_in ss c.args.variable c.args.element) c.deref.ensures.value in
    rw (← c.self.view_is) (unwritten c.self.inside.spans.items c.args.variable c.args.element c.self.inside.elements.items c.args.number (sym h))
