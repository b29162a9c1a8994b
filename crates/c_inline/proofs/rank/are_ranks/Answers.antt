use Rattle.std.proofs.Common.{◌≡◌, List, length, refl, sym, ap, ◌∙◌, subst, arith}
use Rattle.std.specs.Prelude.{Contains}
use Rattle.std.proofs.lemmas.Option.{slice_get_read}
use Rattle.c_tree.specs.Inlining as i
use Rattle.c_inline.specs.links.Calls.{calls_at, calls_of, lists_of}
use Rattle.c_inline.proofs.CallLists.{calls_at_of}
use Rattle.c_inline.proofs.rank.are_ranks.Goals as goal

pub returns-then-not-lead_no_higher : goal.returns-then-not-lead_no_higher
returns-then-not-lead_no_higher c = λ are.
    let cs = c.args.calls.now in
    let n = c.loop-number.number in
    let higher = c.if-not-lead_no_higher.ensures in
    let listed : calls_at (lists_of cs) n ≡ calls_of c.deref.result.now =
    calls_at_of cs n c.index-calls-number.result
    (slice_get_read cs (length cs) n c.index-calls-number.result refl c.loop-number-test.true c.index-calls-number.is)
    ∙ ap calls_of (sym c.deref.ensures.value) in
    let no_higher = are n higher.0 (subst (λ (l : List i.Call). Contains l higher.0) (sym listed) higher.1) in
    absurd (omega (arith, no_higher, higher.2, c.rank_of.ensures))
