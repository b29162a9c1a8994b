use Rattle.std.proofs.Common.{◌≡◌, ◌∙◌, List, [], length, map, Some, refl, ap, arith}
use Rattle.std.specs.Prelude.{slice_get}
use Rattle.std.proofs.lemmas.List.{length-map}
use Rattle.std.proofs.lemmas.Option.{slice_get_read}
use Rattle.ido_ints.specs.declared.kinds.Kind.{Kind}
use Rattle.c_tree.specs.Exprs.{placed_of}
use Rattle.c_tree.specs.Programs.{function_of}
use Rattle.c_tree.specs.Flats as f
use Rattle.c_tree.specs.Inlining as i
use Rattle.c_inline.specs.links.InlinedBodies.{locals_of, after}
use Rattle.c_inline.proofs.InlinedStatements.{site_of, call_none, call_past, call_begun, call_work}
use Rattle.c_inline.proofs.build.begin.Goals as goal

pub returns-then-call_weight-eq0-clause-made : goal.returns-then-call_weight-eq0-clause-made
returns-then-call_weight-eq0-clause-made c =
    ap (after (f.statements_of c.args.made.now.items))
    (call_none (map function_of c.args.bodies.functions.now) c.args.bodies.sizes.now c.requires c.args.by (locals_of c.args.locals.now)
    (site_of c.args.place c.args.function c.args.arguments.now c.args.target.now)
    (omega (arith, c.call_weight.ensures, c.if-call_weight-eq0.true)))

pub returns-in_default-clause-made : goal.returns-in_default-clause-made
returns-in_default-clause-made c =
    ap (after (f.statements_of c.args.made.now.items))
    (call_past (map function_of c.args.bodies.functions.now) c.args.bodies.sizes.now c.requires c.args.by (locals_of c.args.locals.now)
    (site_of c.args.place c.args.function c.args.arguments.now c.args.target.now)
    (omega (arith, c.in_default.ensures.lookup.3, length-map c.args.bodies.functions.now function_of)))

pub returns-clause-made : goal.returns-clause-made
returns-clause-made c =
    let functions = c.args.bodies.functions.now in
    let called = c.in-Some.called.now in
    let arguments = map (i.shifted_placed c.args.by) (map placed_of c.args.arguments.now) in
    let h = c.in-Some.ensures.lookup in
    let exists : slice_get functions c.args.function ≡ Some called = slice_get_read functions (length functions) c.args.function called refl h.3.0 h.1 in
    call_begun functions c.args.bodies.sizes.now c.requires c.args.by (locals_of c.args.locals.now)
    (site_of c.args.place c.args.function c.args.arguments.now c.args.target.now) called c.in_ok-following.following exists
    c.in_ok-first.first (locals_of c.add_locals.new.locals) (f.statements_of c.args.made.now.items) (f.statements_of c.pass.new.made.items)
    (c.in_ok-first.ensures ∙ ap length c.deref.ensures.value)
    c.in_ok-add_locals.ensures
    (λ none. c.if-call_weight-eq0.false (c.call_weight.ensures ∙ none))
    (c.in_ok-pass.ensures ∙ ap (λ (ks : List Kind).
    i.statements_and (f.statements_of c.args.made.now.items) (i.passed c.args.place c.in_ok-first.first ks arguments)) c.deref-2.ensures.value)
    c.in_ok-following.ensures

pub returns-clause-work : goal.returns-clause-work
returns-clause-work c =
    let functions = c.args.bodies.functions.now in
    let called = c.in-Some.called.now in
    let h = c.in-Some.ensures.lookup in
    let exists : slice_get functions c.args.function ≡ Some called = slice_get_read functions (length functions) c.args.function called refl h.3.0 h.1 in
    call_work functions c.args.bodies.sizes.now c.requires 0 (i.locals [] [])
    (site_of c.args.place c.args.function c.args.arguments.now c.args.target.now) called
    c.in_ok-following.following exists c.in_ok-first.first
