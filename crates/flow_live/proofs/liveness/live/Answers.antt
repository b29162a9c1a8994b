use Rattle.std.proofs.Common.{◌≡◌, ◌↔◌, ℕ, List, length, refl, sym, subst, ap, ◌∙◌, arith}
use Rattle.flow_graph.specs.declared.graph.Node as code
use Rattle.flow_graph.specs.Nodes.{graph_of}
use Rattle.flow_graph.specs.Liveness.{IsLive}
use Rattle.flow_graph.specs.LocalSets.{HasAt, AreLive}
use Rattle.flow_live.specs.links.Passes.{AreLong, AreRead, IsLivenessPass}
use Rattle.flow_live.proofs.LivenessFixpoint.{reached_first, reached_all, written}
use Rattle.flow_live.proofs.liveness.live.Goals as goal

pub loop-init : goal.loop-init
loop-init c =
    let nodes = c.args.graph.now.nodes.items in
    let sets = c.in_ok-sets.sets.items in
    let words = length c.in_ok-coming.coming in
    let read : AreRead nodes sets = subst (λ (ns : List code.Node). AreRead ns sets) c.deref-2.ensures.value c.in_ok-sets.ensures.read in
    let long : AreLong sets words = subst (λ (w : ℕ). AreLong sets w) (sym c.in_ok-coming.ensures.long) c.in_ok-sets.ensures.long in
    reached_first (graph_of c.args.graph.now) nodes sets words refl read long

pub returns : goal.returns
returns c =
    let g = graph_of c.args.graph.now in
    let nodes = c.args.graph.now.nodes.items in
    let before = c.loop.sets.items in
    let after = c.add_both_ways.new.sets in
    let grows = c.add_both_ways.result in
    let passes : IsLivenessPass nodes 0 before after grows =
    subst (λ (ns : List code.Node). IsLivenessPass ns 0 before after grows) c.deref-in-loop.ensures.value
    (subst (λ (ss : List (List ℕ)). IsLivenessPass c.deref-in-loop.result.now 0 ss after grows) c.deref_mut.ensures.value c.add_both_ways.ensures.passes) in
    let count : length after ≡ c.loop.sets.len =
    omega (arith, c.add_both_ways.auto.sets, c.deref_mut.ensures.len, ap length c.deref_mut.ensures.value, c.loop.sets.ok.0) in
    let each : (node local : ℕ) → HasAt after node local ↔ IsLive g local node =
    reached_all g nodes before after (length c.loop.coming) grows refl c.loop-test.false c.loop.invariant passes in
    subst (λ (ss : List (List ℕ)). AreLive g ss) (sym (c.new.ensures ∙ written c.loop.sets.len after before count)) (record { each = each })
