use Rattle.std.proofs.Common.{◌≡◌, ◌+◌, ◌<◌, List, [], ◌∷◌, ◌++◌, length, get_or, take, sym, ap, refl, ◌∙◌, subst}
use Rattle.std.specs.Prelude.{Contains}
use Rattle.std.proofs.lemmas.List.{take_more, take_all, map-append}
use Rattle.std.proofs.lemmas.Option.{slice_get_read}
use Rattle.c_tree.specs.Inlining as i
use Rattle.c_inline.specs.declared.calls.Call.{Call}
use Rattle.c_inline.specs.links.Calls.{call_of, calls_of, calls_at, lists_of}
use Rattle.c_inline.specs.links.ReachedFunctions.{IsBackAmong}
use Rattle.c_inline.proofs.CallLists.{calls_at_of, some_call}
use Rattle.c_inline.proofs.FirstRecursiveCall.{among_more, among_all}
use Rattle.c_inline.proofs.recursion.first_back_in.Goals as goal
use Rattle.c_inline.proofs.recursion.first_back_in.Goals.{After-deref-call-items}

followed : (c : After-deref-call-items) → calls_at (lists_of c.args.calls.now) c.args.number ≡ calls_of c.deref-call-items.result.now
followed c =
    calls_at_of c.args.calls.now c.args.number c.index-calls-number.result
    (slice_get_read c.args.calls.now (length c.args.calls.now) c.args.number c.index-calls-number.result refl c.requires.exists c.index-calls-number.is)
    ∙ ap calls_of (sym c.deref-call-items.ensures.value)

pub loop-call-preserved : goal.loop-call-preserved
loop-call-preserved c =
    let cs = lists_of c.args.calls.now in
    let calls = c.deref-call-items.result.now in
    let n = c.loop-call.call-index in
    let within : n < length calls = c.loop-call-test.true in
    let call : Call = get_or calls n (record { place = record { 0 = 0 }; function = 0 }) in
    let e : calls_of (take (n + 1) calls) ≡ calls_of (take n calls) ++ call_of call ∷ [] =
    ap calls_of (take_more calls n _ within) ∙ map-append call_of (take n calls) (call ∷ []) in
    let made : Contains (calls_at cs c.args.number) (call_of call) =
    subst (λ (l : List i.Call). Contains l (call_of call)) (sym (followed (goal.at.loop-call-preserved c).After-deref-call-items))
    (some_call calls n _ within) in
    subst (λ (l : List i.Call). IsBackAmong cs c.args.number l c.in_ok-best.best) (sym e)
    (among_more cs c.args.number (calls_of (take n calls)) (call_of call) c.loop-call.best c.in_ok-best.best made c.loop-call.invariant c.in_ok-best.ensures)

pub returns : goal.returns
returns c =
    let calls = c.deref-call-items.result.now in
    let e : calls_of (take c.loop-call.call-index calls) ≡ calls_at (lists_of c.args.calls.now) c.args.number =
    ap calls_of (take_all c.loop-call.call-index calls c.loop-call-test.false) ∙ sym (followed (goal.at.returns c).After-deref-call-items) in
    among_all (lists_of c.args.calls.now) c.args.number c.loop-call.best
    (subst (λ (l : List i.Call). IsBackAmong (lists_of c.args.calls.now) c.args.number l c.loop-call.best) e c.loop-call.invariant)
