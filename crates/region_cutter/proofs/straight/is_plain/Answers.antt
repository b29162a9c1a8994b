use Rattle.flow_graph.specs.Nodes.{graph_of, node_of}
use Rattle.region_cutter.proofs.StraightCode.{plain_is, plain_none, node_found, node_lacking}
use Rattle.region_cutter.proofs.straight.is_plain.Goals as goal

pub returns-in-Some : goal.returns-in-Some
returns-in-Some c =
    plain_is (graph_of c.args.graph.now) c.args.number (node_of c.in-Some.node.now) c.evaluates_or_stores.result
    (node_found c.args.graph.now c.deref.result.now c.args.number c.in-Some.node.now c.deref.ensures.value c.in-Some.ensures.lookup.3.0
    c.in-Some.ensures.lookup.1)
    c.evaluates_or_stores.ensures

pub returns-in-None : goal.returns-in-None
returns-in-None c =
    plain_none (graph_of c.args.graph.now) c.args.number
    (node_lacking c.args.graph.now c.deref.result.now c.args.number c.deref.ensures.value c.in-None.ensures.lookup.3)
