use Rattle.std.proofs.Common.{◌≡◌, ◌∙◌, length, sym, ap, subst}
use Rattle.std.proofs.lemmas.Result.{IfOk-weaker}
use Rattle.flow_graph.specs.Nodes.{graph_of}
use Rattle.reg_colour.specs.links.Intervals.{Intervals, AreIntervals}
use Rattle.reg_colour.proofs.IntervalCorrectness.{filled, within, thread_of}
use Rattle.reg_colour.proofs.colouring.colour_thread.Goals as goal

pub scan-requires-clause-filled : goal.scan-requires-clause-filled
scan-requires-clause-filled c =
    let g = graph_of c.args.graph.now in
    filled g c.args.part c.deref.result.now (subst (λ (x : Intervals). AreIntervals g c.args.part x) (sym c.deref.ensures.value) c.in_ok-intervals.ensures.each)

pub scan-requires-clause-within : goal.scan-requires-clause-within
scan-requires-clause-within c =
    let g = graph_of c.args.graph.now in
    within g c.args.part c.deref.result.now (subst (λ (x : Intervals). AreIntervals g c.args.part x) (sym c.deref.ensures.value) c.in_ok-intervals.ensures.each)

pub returns : goal.returns
returns c =
    let g = graph_of c.args.graph.now in
    let xs = c.deref.result.now in
    let a : AreIntervals g c.args.part xs =
    subst (λ (x : Intervals). AreIntervals g c.args.part x) (sym c.deref.ensures.value) c.in_ok-intervals.ensures.each in
    let long : length xs ≡ c.args.part.locals = ap (λ (x : Intervals). length x) c.deref.ensures.value ∙ c.in_ok-intervals.ensures.count in
    IfOk-weaker c.scan.result _ _ (λ o k. thread_of g c.args.part xs a long o k) c.scan.ensures
