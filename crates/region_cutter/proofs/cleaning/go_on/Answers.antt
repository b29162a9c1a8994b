use Rattle.std.proofs.Common.{◌≡◌, ◌⊎◌, Some}
use Rattle.flow_graph.specs.Nodes.{node_of}
use Rattle.region_cutter.specs.links.Lines.{IsPast}
use Rattle.region_cutter.proofs.Lines.{past_both}
use Rattle.region_cutter.proofs.GraphSearchComplete.{follows_as, follows_both}
use Rattle.region_cutter.proofs.cleaning.go_on.Goals as goal

pub returns : goal.returns
returns c =
    let one = c.unless_cleaned.result in
    let two = c.unless_cleaned-2.result in
    let s = c.args.search.now in
    let s' = c.come_to_any.new.self in
    let s'' = c.come_to_any-2.new.self in
    follows_as (λ to. (one ≡ Some to) ⊎ (two ≡ Some to))
    (IsPast c.args.lines.now c.args.line (node_of c.args.node.now)) s.seen.items s.waiting.items s''.seen.items s''.waiting.items
    (past_both c.args.lines.now c.args.line
    (node_of c.args.node.now) c.next.result c.other.result one two c.next.ensures c.other.ensures c.unless_cleaned.ensures c.unless_cleaned-2.ensures)
    (follows_both (λ to. one ≡ Some to)
    (λ to. two ≡ Some to) s.seen.items s.waiting.items s'.seen.items s'.waiting.items s''.seen.items s''.waiting.items c.in_ok-come_to_any.ensures
    c.in_ok-come_to_any-2.ensures)
