use Rattle.std.proofs.Common.{◌≡◌, ◌∙◌, sym, ap, FitsSigned, arith, get_or}
use Rattle.std.specs.Int.{w128}
use Rattle.std.specs.Prelude.{pos, unwrap_or}
use Rattle.std.proofs.lemmas.Int.{ints, to_z-of_z}
use Rattle.source_machine.specs.links.Spans.{place_in}
use Rattle.source_machine.proofs.ConsecutiveLists.{get_read, unread}
use Rattle.source_machine.proofs.variables.Variables.get.Goals as goal

pub returns-in-Some : goal.returns-in-Some
returns-in-Some c =
    let inside = c.self.inside in
    let fits : FitsSigned w128 c.unwrap_or.result = omega (arith, ints, c.unwrap_or.type_inv) in
    let h = c.in-Some.ensures.value ∙ ap (λ ss. place_in ss c.args.variable c.args.element) c.deref.ensures.value in
    let r : c.unwrap_or.result ≡ get_or inside.elements.items c.in-Some.place (pos 0) =
    c.unwrap_or.ensures ∙ (ap (λ o. unwrap_or o (pos 0)) c.copied.ensures
    ∙ (c.get.ensures.lookup.4 (omega arith) (pos 0) ∙ ap (λ xs. get_or xs c.in-Some.place (pos 0)) c.deref-in-Some.ensures.value)) in
    rw (← c.self.view_is) (to_z-of_z w128 _ fits
    ∙ (r ∙ get_read inside.spans.items inside.elements.items c.args.variable c.args.element c.in-Some.place c.self.invariant h))

pub returns-in-None : goal.returns-in-None
returns-in-None c =
    let h = c.in-None.ensures.value ∙ ap (λ ss. place_in ss c.args.variable c.args.element) c.deref.ensures.value in
    rw (← c.self.view_is) (unread c.self.inside.spans.items c.args.variable c.args.element c.self.inside.elements.items (sym h))
