use Rattle.std.proofs.Common.{refl}
use Rattle.flow_graph.specs.Nodes.{graph_of}
use Rattle.flow_graph.specs.IdempotentCuts.{boundaries_of}
use Rattle.region_cutter.proofs.EachWrite.{at_each_write, with_assignments}
use Rattle.region_cutter.proofs.records.cut_each_write.Goals as goal

pub returns-clause-places : goal.returns-clause-places
returns-clause-places c =
    let old = boundaries_of c.in_ok-cuts.cuts in
    with_assignments (graph_of c.args.graph.now) c.args.held.now old (record old { before = c.add_assignments.new.before.items }) c.in_ok-cuts.ensures refl
    c.add_assignments.ensures

pub returns-clause-cuts : goal.returns-clause-cuts
returns-clause-cuts c =
    let old = boundaries_of c.in_ok-cuts.cuts in
    let new = record old { before = c.add_assignments.new.before.items } in
    at_each_write (graph_of c.args.graph.now) c.args.held.now new
    (with_assignments (graph_of c.args.graph.now) c.args.held.now old new c.in_ok-cuts.ensures refl c.add_assignments.ensures)
