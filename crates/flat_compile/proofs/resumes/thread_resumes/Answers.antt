use Rattle.std.proofs.Common.{◌∙◌, List, ap, sym, subst, arith, ◌+◌, take}
use Rattle.std.proofs.lemmas.Option.{slice_get-get_or}
use Rattle.c_ranges.specs.KnownAtSteps.{thread_knowns}
use Rattle.rv64_codegen.specs.Plans.{plan_of}
use Rattle.flat_compile.specs.declared.resumes.Resume.{Resume}
use Rattle.flat_compile.specs.links.KnownLists.{known_lists}
use Rattle.flat_compile.specs.links.ResumePlacesByNode.{thread_in, AreFoundAt}
use Rattle.flat_compile.proofs.LiveLocals.{knowns_at}
use Rattle.flat_compile.proofs.ResumedNodes.{text_below, text_there}
use Rattle.flat_compile.proofs.Tables.{found_more}
use Rattle.flat_compile.proofs.resumes.thread_resumes.Goals as goal

pub index-requires : goal.index-requires
index-requires c = omega (arith, text_below c.args.plan.now c.args.number c.args.part c.requires.own)

pub found-requires-clause-own : goal.found-requires-clause-own
found-requires-clause-own c = c.requires.stands c.loop-k.k _ (slice_get-get_or c.args.stands.now c.loop-k.k _ c.loop-k-test.true)

pub found-requires-clause-knowns : goal.found-requires-clause-knowns
found-requires-clause-knowns c =
    let q = c.args.plan.now in
    let th = c.requires.own.thread in
    ap known_lists c.deref.ensures.value ∙ c.in_ok-knowns.ensures
    ∙ ap thread_knowns (text_there q c.args.number c.args.part c.requires.own c.index.result.now c.index.ensures)
    ∙ sym (knowns_at (plan_of q).flat.threads c.args.number th.text th.of_text)

pub loop-k-preserved : goal.loop-k-preserved
loop-k-preserved c =
    let p = plan_of c.args.plan.now in
    let t = thread_in p c.args.number c.args.part in
    let stands = c.args.stands.now in
    let addresses = c.args.addresses.now in
    let k = c.loop-k.k in
    subst (λ (rs : List Resume). AreFoundAt p t (take (k + 1) stands) (take (k + 1) addresses) rs) (sym c.in_ok-push.ensures.items)
    (found_more p t stands addresses k _ _ c.loop-k.resumes.items c.in_ok-found.field-0 c.loop-k-test.true (omega (arith, c.loop-k-test.true, c.requires.count))
    c.in_ok-found.ensures.stand c.in_ok-found.ensures.address c.in_ok-found.ensures.found c.loop-k.invariant)
