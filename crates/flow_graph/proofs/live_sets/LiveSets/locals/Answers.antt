use Rattle.std.proofs.Common.{◌≡◌, ◌≤◌, length, ap, ◌∙◌, arith}
use Rattle.flow_graph.proofs.Words.{none_at}
use Rattle.flow_graph.proofs.live_sets.LiveSets.locals.Goals as goal

pub returns-in-None-clause-each : goal.returns-in-None-clause-each
returns-in-None-clause-each c local =
    let same : c.deref.result.now ≡ c.args.self.now = c.deref.ensures.value ∙ c.self.view_is in
    let past : length c.args.self.now ≤ c.args.node = omega (arith, c.in-None.ensures.lookup.3, ap length same) in
    (λ k. absurd (omega (arith, k.1, ap length c.new.ensures.items)), λ h. absurd (none_at c.args.self.now c.args.node local past h))
