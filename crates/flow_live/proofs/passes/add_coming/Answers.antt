use Rattle.std.proofs.Common.{◌≡◌, [], get_or}
use Rattle.std.proofs.lemmas.List.{get_or_default}
use Rattle.flow_graph.specs.Nodes.{node_of}
use Rattle.flow_live.proofs.CollectedSets.{grown}
use Rattle.flow_live.proofs.LivenessFixpoint.{adds}
use Rattle.flow_live.proofs.passes.add_coming.Goals as goal

pub returns-clause-adds : goal.returns-clause-adds
returns-clause-adds c =
    let x = node_of c.args.node.now in
    let sets = c.args.sets.now in
    let number = c.args.number in
    let old = get_or sets number c.index-sets-number.result in
    let to = c.add_all.new.self in
    let e : old ≡ get_or sets number [] = get_or_default sets number c.index-sets-number.result [] c.requires.number in
    adds x number sets to c.add_all.result
    (grown x number sets old c.collect.new.locals to c.add_all.result c.requires.number e c.add_all.ensures.long c.add_all.ensures.has c.collect.ensures.has
    c.add_all.ensures.new)
