use Rattle.flow_graph.proofs.GraphStateInvariants.{steps_go_along_edges}
use Rattle.flow_graph.proofs.Paths.{path_runs, length-solo_path}
use Rattle.flow_graph.proofs.laws.solo_paths_are_runs.Goals as goal

pub returns-clause-visits : goal.returns-clause-visits
returns-clause-visits c = λ g s thread steps i v h.
    let r = path_runs g thread steps s i v h in
    (r.whole, r.after)

pub returns-clause-whole : goal.returns-clause-whole
returns-clause-whole c = λ g s thread steps h. length-solo_path g thread steps s h

pub returns-clause-edges : goal.returns-clause-edges
returns-clause-edges c = steps_go_along_edges
