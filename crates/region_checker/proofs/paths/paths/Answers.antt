use Rattle.std.proofs.Common.{◌+◌, List, sym, subst, arith}
use Rattle.flow_graph.specs.IdempotentCuts.{boundaries_of}
use Rattle.flow_graph.specs.Nodes.{graph_of}
use Rattle.region_checker.specs.declared.paths.Path.{Path}
use Rattle.region_checker.proofs.Nodes.{ArePathsUpTo, paths_none, paths_more, paths_all}
use Rattle.region_checker.proofs.paths.paths.Goals as goal

pub loop-number-init : goal.loop-number-init
loop-number-init c =
    subst (λ (ws : List Path). ArePathsUpTo (graph_of c.args.graph.now) (boundaries_of c.args.cuts.now) 0 ws) (sym c.in_ok-paths.ensures.items)
    (paths_none (graph_of c.args.graph.now) (boundaries_of c.args.cuts.now))

pub loop-number-preserved : goal.loop-number-preserved
loop-number-preserved c =
    let g = graph_of c.args.graph.now in
    let b = boundaries_of c.args.cuts.now in
    let n = c.loop-number.number in
    subst (λ (ws : List Path). ArePathsUpTo g b (n + 1) ws) (sym c.in_ok-push.ensures.items)
    (paths_more g b n c.loop-number.paths.items c.paths_of.result c.loop-number.invariant c.paths_of.ensures)

pub returns : goal.returns
returns c =
    paths_all c.args.graph.now (boundaries_of c.args.cuts.now) c.loop-number.number c.loop-number.paths.items
    (omega (arith, c.loop-number-test.false, c.len-number-end.ensures, c.args.graph.now.nodes.ok.0))
    (omega (arith, c.loop-number.auto.number-end, c.len-number-end.ensures, c.args.graph.now.nodes.ok.0)) c.loop-number.invariant
