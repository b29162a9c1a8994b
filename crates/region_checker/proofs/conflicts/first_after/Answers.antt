use Rattle.std.proofs.Common.{ℕ, ◌+◌, Option, sym, subst, arith}
use Rattle.flow_graph.specs.Nodes.{graph_of}
use Rattle.region_checker.specs.links.ConflictSearch.{IsOver, IsLeastOf, IsPastMarked}
use Rattle.region_checker.proofs.LeastNumbers.{IsAfterBelow, first_more, least_same, boundary_after_is, after_all, after_none}
use Rattle.region_checker.proofs.conflicts.first_after.Goals as goal

pub loop-number-init : goal.loop-number-init
loop-number-init c = λ n h. after_none c.args.paths.now c.args.marks.now n h.is

pub loop-number-preserved : goal.loop-number-preserved
loop-number-preserved c =
    let g = graph_of c.args.graph.now in
    let paths = c.args.paths.now in
    let marks = c.args.marks.now in
    let n = c.loop-number.number in
    subst (λ (o : Option ℕ). IsLeastOf (IsOver g c.args.location (IsAfterBelow paths marks (n + 1))) o) (sym c.earlier-first.ensures)
    (first_more g c.args.location paths marks n c.loop-number.first c.first_from.result c.loop-number.invariant c.first_from.ensures)

pub returns : goal.returns
returns c =
    let g = graph_of c.args.graph.now in
    let paths = c.args.paths.now in
    let marks = c.args.marks.now in
    least_same (IsOver g c.args.location (IsAfterBelow paths marks c.loop-number.number)) (IsOver g c.args.location (IsPastMarked paths marks))
    c.loop-number.first
    c.loop-number.invariant
    (λ n h. record { is = boundary_after_is paths marks c.loop-number.number n h.is; writes = h.writes })
    (λ n h. record { is = after_all paths marks c.loop-number.number n (omega (arith, c.loop-number-test.false)) h.is; writes = h.writes })
