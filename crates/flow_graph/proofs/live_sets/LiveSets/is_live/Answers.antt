use Rattle.std.proofs.Common.{◌≡◌, ◌≤◌, length, ap, ◌∙◌, arith}
use Rattle.flow_graph.proofs.Words.{none_at}
use Rattle.flow_graph.proofs.live_sets.LiveSets.is_live.Goals as goal

pub returns-in-None : goal.returns-in-None
returns-in-None c =
    let same : c.deref.result.now ≡ c.args.self.now = c.deref.ensures.value ∙ c.self.view_is in
    let past : length c.args.self.now ≤ c.args.node = omega (arith, c.in-None.ensures.lookup.3, ap length same) in
    (λ no. cc, λ h. absurd (none_at c.args.self.now c.args.node c.args.local past h))
