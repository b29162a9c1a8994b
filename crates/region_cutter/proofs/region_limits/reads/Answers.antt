use Rattle.std.proofs.Common.{List, subst, ap, ◌∙◌}
use Rattle.std.specs.Option.{option_map}
use Rattle.std.specs.Prelude.{◌↔◌, Contains, IsTrue}
use Rattle.std.proofs.lemmas.Option.{slice_get-map}
use Rattle.ido_base.specs.declared.location.Location.{Location}
use Rattle.flow_graph.specs.Nodes.{graph_of, node_of}
use Rattle.region_cutter.proofs.RegionLimits.{reads_is}
use Rattle.region_cutter.proofs.region_limits.reads.Goals as goal

pub returns : goal.returns
returns c =
    let e = c.args.elements in
    let answer = c.is_among.result in
    reads_is (graph_of c.args.graph.now) c.args.number (node_of c.args.node.now) e answer
    (slice_get-map node_of c.args.graph.now.nodes.items c.args.number ∙ ap (option_map node_of) c.requires)
    (subst (λ (xs : List Location). IsTrue answer ↔ Contains xs e) c.deref.ensures.value c.is_among.ensures)
