use Rattle.std.proofs.Common.{◌≡◌, ◌+◌, suc, arith, true}
use Rattle.std.proofs.lemmas.List.{length-map}
use Rattle.flow_graph.specs.Nodes.{graph_of, node_of}
use Rattle.region_cutter.proofs.StraightCode.{plain_within, plain_first, plain_more, straight_more, straight_ends}
use Rattle.region_cutter.proofs.straight.straight_end.Goals as goal

pub loop-last-init : goal.loop-last-init
loop-last-init c =
    let g = graph_of c.args.graph.now in
    let lt = plain_within g c.args.first c.requires.plain in
    record {
      from_first = omega arith;
      exists = omega (arith, lt, length-map c.args.graph.now.nodes.items node_of);
      plain = plain_first g c.args.first c.requires.plain;
      straight = λ node a b. absurd (omega (arith, a, b));
    }

pub loop-last-preserved : goal.loop-last-preserved
loop-last-preserved c =
    let g = graph_of c.args.graph.now in
    let i = c.loop-last.invariant in
    let a = i.from_first in
    let straight = c.goes_straight.ensures.0 c.loop-last-test.true in
    let lt = plain_within g (suc c.loop-last.last) straight.plain in
    record {
      from_first = omega (arith, a);
      exists = omega (arith, lt, length-map c.args.graph.now.nodes.items node_of);
      plain = plain_more g c.args.first c.loop-last.last (c.loop-last.last + 1) (omega arith) i.plain straight;
      straight = straight_more g c.args.first c.loop-last.last (c.loop-last.last + 1) (omega arith) i.straight straight;
    }

pub returns : goal.returns
returns c =
    let i = c.loop-last.invariant in
    straight_ends (graph_of c.args.graph.now) c.args.first c.loop-last.last (c.loop-last.last + 1) (omega arith) i.from_first i.plain i.straight
    (λ s. let e : c.goes_straight.result ≡ true = c.goes_straight.ensures.1 s in cc (c.loop-last-test.false))
