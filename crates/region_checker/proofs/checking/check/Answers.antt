use Rattle.std.proofs.Common.{Option, subst}
use Rattle.flow_graph.specs.Nodes.{graph_of}
use Rattle.flow_graph.specs.IdempotentCuts.{boundaries_of}
use Rattle.region_checker.specs.Conflicts.{AreThere}
use Rattle.region_checker.specs.declared.checking.Conflict as found
use Rattle.region_checker.specs.links.ConflictSearch.{IsFirstFound}
use Rattle.region_checker.proofs.FoundConflicts.{cuts_are, cuts_by, locks_after}
use Rattle.region_checker.proofs.checking.check.Goals as goal

pub returns-in-None-clause-accepted : goal.returns-in-None-clause-accepted
returns-in-None-clause-accepted c =
    let g = graph_of c.args.graph.now in
    let b = boundaries_of c.args.cuts.now in
    let there : AreThere g b = c.in_default.ensures in
    cuts_are g b there (subst (λ (o : Option found.Conflict). IsFirstFound g b o) c.in-None.is c.in_ok-read.ensures)

pub is_idempotent-requires : goal.is_idempotent-requires
is_idempotent-requires c = locks_after (graph_of c.args.graph.now) (boundaries_of c.args.cuts.now) c.in_default.ensures

pub returns-then-branch-clause-accepted : goal.returns-then-branch-clause-accepted
returns-then-branch-clause-accepted c =
    cuts_by (graph_of c.args.graph.now) (boundaries_of c.args.cuts.now) c.in_default.ensures (c.in_ok-is_idempotent.ensures.0 c.if-branch.true)
