use Rattle.std.proofs.Common.{◌≡◌, ◌∙◌, ◌+◌, [], ◌∷◌, ◌++◌, length, sym, ap, subst, arith}
use Rattle.std.proofs.lemmas.List.{length-append}
use Rattle.flow_graph.specs.Nodes.{graph_of}
use Rattle.reg_colour.specs.links.Intervals.{Intervals, AreIntervals}
use Rattle.reg_colour.proofs.AppendedIntervals.{one_interval_more}
use Rattle.reg_colour.proofs.intervals.intervals.Goals as goal

pub loop-local-preserved : goal.loop-local-preserved
loop-local-preserved c =
    let g = graph_of c.args.graph.now in
    let xs = c.loop-local.all.items in
    let o = c.interval_of.result in
    let e : c.push.new.self.items ≡ xs ++ o ∷ [] = c.in_ok-push.ensures.items in
    let long : length c.push.new.self.items ≡ length xs + 1 = ap (λ (x : Intervals). length x) e ∙ length-append xs (o ∷ []) in (
      omega (arith, long, c.loop-local.invariant.0),
      subst (λ (x : Intervals). AreIntervals g c.args.part x) (sym e)
          (one_interval_more g c.args.part xs o c.loop-local.local c.loop-local.invariant.0 c.loop-local.invariant.1 c.interval_of.ensures),
    )
