use Rattle.std.proofs.Common.{◌≡◌, ◌-◌, ℕ, List, map, get_or, subst, arith}
use Rattle.flow_graph.specs.Nodes.{graph_of}
use Rattle.region_cutter.specs.links.RegionLimits.{AreChosen, AreCounts}
use Rattle.region_cutter.proofs.FewestRegions.{AreBest, best_of, fewest_of, labels_of, chosen_write}
use Rattle.region_cutter.proofs.fewest_cuts.fewest.Goals as goal
use Rattle.region_cutter.proofs.fewest_cuts.fewest.Goals.{After-drop-limits-2}

are_counts : (c : After-drop-limits-2) → AreCounts c.args.first c.args.past c.args.first c.in_ok-limits.limits.items c.in_ok-counts.counts.items
are_counts c =
    subst (λ (xs : List ℕ). AreCounts c.args.first c.args.past c.args.first xs c.in_ok-counts.counts.items) c.deref.ensures.value c.in_ok-counts.ensures

are_chosen : (c : After-drop-limits-2) →
    AreChosen c.args.first c.args.past c.in_ok-limits.limits.items c.in_ok-counts.counts.items c.args.first c.in_ok-cuts.cuts.items
are_chosen c =
    subst (λ (xs : List ℕ). AreChosen c.args.first c.args.past xs c.in_ok-counts.counts.items c.args.first c.in_ok-cuts.cuts.items) c.deref-2.ensures.value
    (subst (λ (xs : List ℕ). AreChosen c.args.first c.args.past c.deref-2.result.now xs c.args.first c.in_ok-cuts.cuts.items) c.deref-3.ensures.value
    c.in_ok-cuts.ensures)

best : (c : After-drop-limits-2) → AreBest (graph_of c.args.graph.now) c.args.first c.args.past c.in_ok-counts.counts.items c.args.first c.in_ok-cuts.cuts.items
best c =
    best_of (graph_of c.args.graph.now) c.args.first c.args.past c.args.first c.in_ok-limits.limits.items c.in_ok-counts.counts.items c.in_ok-cuts.cuts.items
    c.in_ok-limits.ensures (are_counts c) (omega arith) c.requires.some (are_chosen c)

pub returns-clause-cuts : goal.returns-clause-cuts
returns-clause-cuts c =
    fewest_of (graph_of c.args.graph.now) c.args.first c.args.past c.in_ok-limits.limits.items c.in_ok-counts.counts.items c.in_ok-cuts.cuts.items
    c.in_ok-limits.ensures (are_counts c) (best c)

pub returns-clause-labels : goal.returns-clause-labels
returns-clause-labels c =
    let labels : c.in_ok-labels.labels.items ≡ map (λ count. get_or c.in_ok-counts.counts.items 0 0 - count) c.in_ok-counts.counts.items =
    subst (λ (xs : List ℕ). c.in_ok-labels.labels.items ≡ map (λ count. get_or xs 0 0 - count) xs) c.deref-4.ensures.value c.in_ok-labels.ensures in
    labels_of (graph_of c.args.graph.now) c.args.first c.args.past c.in_ok-limits.limits.items c.in_ok-counts.counts.items c.in_ok-labels.labels.items
    c.in_ok-cuts.cuts.items c.requires.some labels c.in_ok-limits.ensures (are_counts c) (best c)

pub returns-clause-writes : goal.returns-clause-writes
returns-clause-writes c =
    chosen_write (graph_of c.args.graph.now) c.args.first c.args.past c.args.first c.in_ok-limits.limits.items c.in_ok-counts.counts.items
    c.in_ok-cuts.cuts.items
    c.in_ok-limits.ensures (are_counts c) (omega arith) c.requires.some (are_chosen c)
