use Rattle.std.proofs.Common.{◌<◌, ◌∙◌, length, refl, ap, Bool, arith, ◌++◌}
use Rattle.flow_graph.specs.IdempotentCuts.{boundaries_of}
use Rattle.flow_graph.specs.Nodes.{graph_of, node_of}
use Rattle.ido_cli.specs.Regions.{node_line}
use Rattle.ido_cli.proofs.NodeLines.{line_added, lines_whole, node_at}
use Rattle.ido_cli.proofs.regions.put_nodes.Goals as goal

pub loop-number-preserved : goal.loop-number-preserved
loop-number-preserved c =
    let number = c.loop-number.number in
    let x = node_of c.index-node.result.now in
    let inside : number < length c.args.graph.now.nodes.items = omega (arith, c.loop-number-test.true, c.requires.nodes) in
    record {
      end = refl;
      so_far =
          line_added c.args.text.now (graph_of c.args.graph.now) (boundaries_of c.args.cuts.now) number c.args.part.end x c.loop-number.out.items
          c.put_node.new.out.items _
          c.loop-number-test.true (node_at c.args.graph.now number c.index-node.result.now inside c.index-node.ensures)
          (c.in_ok-put_node.ensures ∙ ap (λ (chosen : Bool). c.loop-number.out.items ++ node_line c.args.text.now number x chosen) c.is_chosen-chosen.ensures)
          c.loop-number.invariant.so_far;
    }

pub returns : goal.returns
returns c =
    lines_whole c.args.text.now (graph_of c.args.graph.now) (boundaries_of c.args.cuts.now) c.loop-number.number c.args.part.end c.loop-number.out.items _
    c.loop-number-test.false c.loop-number.invariant.so_far
