use Rattle.std.proofs.Common.{◌≡◌, true, false, sym, ◌∙◌}
use Rattle.flow_graph.specs.Nodes.{graph_of}
use Rattle.region_checker.proofs.FoundConflicts.{hits_is, hits_exposes, hits_follows}
use Rattle.region_checker.proofs.conflicts.conflict.Goals as goal

pub returns-in_ok-follows : goal.returns-in_ok-follows
returns-in_ok-follows c b r =
    let g = graph_of c.args.graph.now in (
      λ t. hits_is g b c.args.read c.args.store ((c.in_ok-exposes_over.ensures b r).0 c.if-branch.true) ((c.in_ok-follows.ensures b r).0 t),
      λ h. (c.in_ok-follows.ensures b r).1 (hits_follows g b c.args.read c.args.store h),
    )

pub returns-else-branch : goal.returns-else-branch
returns-else-branch c b r =
    let g = graph_of c.args.graph.now in (
      λ t. let both : true ≡ false = sym t ∙ c.if-branch.false in absurd (cc),
      λ h. (c.in_ok-exposes_over.ensures b r).1 (hits_exposes g b c.args.read c.args.store h),
    )
