use Rattle.std.proofs.Common.{◌≡◌, ◌-◌, ℕ, List, length, get_or, ap, subst, ◌∙◌, arith}
use Rattle.flow_graph.specs.Nodes.{graph_of}
use Rattle.region_cutter.specs.FewestCuts.{AreLabels}
use Rattle.region_cutter.proofs.Public.{labels_bound}
use Rattle.region_checker.specs.links.LabelSearch.{AreAllLevel}
use Rattle.region_checker.proofs.SteepRegions.{none_steep}
use Rattle.region_checker.proofs.labels.check_labels.Goals as goal
use Rattle.region_checker.proofs.labels.check_labels.Goals.{After-drop-limits-2}

are_labels : (c : After-drop-limits-2) → AreLabels (graph_of c.args.graph.now) c.args.first c.args.past (length c.args.cuts.now) c.args.labels.now
are_labels c =
    let first = c.args.first in
    let labels = c.args.labels.now in
    let level : AreAllLevel first labels c.in_ok-limits.limits.items c.args.past =
    subst (λ (xs : List ℕ). AreAllLevel first labels xs c.args.past) c.deref.ensures.value c.in_default.ensures in
    let zero' : first - first ≡ 0 = omega arith in
    record {
      start = ap (λ k. get_or labels k 0) zero' ∙ c.if-labels-ne0.false;
      edges = none_steep (graph_of c.args.graph.now) first c.args.past labels c.in_ok-limits.limits.items c.in_ok-limits.ensures level;
      end = omega (arith, c.if-label-cuts.false);
    }

pub returns-clause-accepted : goal.returns-clause-accepted
returns-clause-accepted c = are_labels c

pub returns-clause-least : goal.returns-clause-least
returns-clause-least c =
    labels_bound (graph_of c.args.graph.now) c.args.first c.args.past (length c.args.cuts.now) c.args.labels.now c.requires.stretch (are_labels c)
