use Rattle.std.proofs.Common.{◌≡◌, ◌⊎◌, Some, ap, ◌∙◌}
use Rattle.std.specs.Option.{option_map}
use Rattle.std.proofs.lemmas.Option.{slice_get-map}
use Rattle.flow_graph.specs.Nodes.{graph_of, node_of}
use Rattle.flow_graph.specs.IdempotentCuts.{boundaries_of}
use Rattle.region_cutter.specs.links.RemovalPaths.{Inside}
use Rattle.region_cutter.proofs.TrialParts.{inside_both}
use Rattle.region_cutter.proofs.GraphSearchComplete.{follows_as, follows_both}
use Rattle.region_cutter.proofs.local.go_on.Goals as goal

pub returns : goal.returns
returns c =
    let g = graph_of c.args.graph.now in
    let b = boundaries_of c.args.cuts.now in
    let n = c.args.number in
    let one = c.inside.result in
    let two = c.inside-2.result in
    let s = c.args.search.now in
    let s' = c.come_to_any.new.self in
    let s'' = c.come_to_any-2.new.self in
    follows_as (λ to. (one ≡ Some to) ⊎ (two ≡ Some to)) (Inside g b n) s.seen.items s.waiting.items s''.seen.items s''.waiting.items
    (inside_both g b n (node_of c.args.node.now) c.has_after-after.result c.next.result c.other.result one two
    (slice_get-map node_of c.args.graph.now.nodes.items n ∙ ap (option_map node_of) c.requires)
    c.has_after-after.ensures c.next.ensures c.other.ensures c.inside.ensures c.inside-2.ensures)
    (follows_both (λ to. one ≡ Some to)
    (λ to. two ≡ Some to) s.seen.items s.waiting.items s'.seen.items s'.waiting.items s''.seen.items s''.waiting.items c.in_ok-come_to_any.ensures
    c.in_ok-come_to_any-2.ensures)
