use Rattle.std.proofs.Common.{◌≡◌, ◌<◌, ◌≤◌, ◌∙◌, length, ap, arith, map, refl}
use Rattle.std.proofs.lemmas.Option.{slice_get_read}
use Rattle.c_tree.specs.Flats.{flat_of, thread_of}
use Rattle.flow_graph.specs.IdempotentCuts.{boundaries_of}
use Rattle.flow_graph.specs.Nodes.{Graph, graph_of}
use Rattle.ido_cli.specs.Regions.{Straight, regions, regions_of}
use Rattle.ido_cli.proofs.NodeLines.{left_whole, part_inside, thread_added, threads_many}
use Rattle.ido_cli.proofs.regions.regions.Goals as goal

pub index-thread-requires : goal.index-thread-requires
index-thread-requires c =
    omega (arith, threads_many c.args.analysis.now.flat.now c.args.analysis.now.graph c.requires.graph, c.loop-number-test.true, c.len-number-end.ensures)

pub put_nodes-requires-clause-nodes : goal.put_nodes-requires-clause-nodes
put_nodes-requires-clause-nodes c =
    part_inside (flat_of c.args.analysis.now.flat.now) c.args.analysis.now.graph c.loop-number.number c.index-part.result.now c.requires.graph
    (omega (arith, c.loop-number-test.true, c.len-number-end.ensures)) c.index-part.ensures

pub put_stretches-requires-clause-sets : goal.put_stretches-requires-clause-sets
put_stretches-requires-clause-sets c =
    let ps = c.args.analysis.now.graph.threads.items in
    c.requires.sets c.loop-number.number c.index-part.result.now
    (slice_get_read ps (length ps) c.loop-number.number c.index-part.result.now refl (omega (arith, c.loop-number-test.true, c.len-number-end.ensures))
    c.index-part.ensures)

pub loop-number-preserved : goal.loop-number-preserved
loop-number-preserved c =
    let threads = c.args.analysis.now.flat.now.threads.items in
    let ps = c.args.analysis.now.graph.threads.items in
    let number = c.loop-number.number in
    let many : length ps ≡ length threads = threads_many c.args.analysis.now.flat.now c.args.analysis.now.graph c.requires.graph in
    let below : number < length ps = omega (arith, c.loop-number-test.true, c.len-number-end.ensures) in
    let straight : Straight = record { stretches = c.args.stretches.now; held = c.args.analysis.now.held } in
    record {
      end = omega (arith, c.len-number-end.ensures);
      so_far =
          thread_added c.args.text.now (graph_of c.args.analysis.now.graph) (boundaries_of c.args.cuts.now) straight threads ps number
          c.index-thread.result.now c.index-part.result.now c.loop-number.out.items c.put_thread.new.out.items c.put_nodes.new.out.items
          c.put_stretches.new.out.items _ (omega (arith, many, below)) below c.index-thread.ensures c.index-part.ensures
          c.in_ok-put_thread.ensures c.in_ok-put_nodes.ensures c.in_ok-put_stretches.ensures c.loop-number.invariant.so_far;
    }

pub returns : goal.returns
unfolding regions
returns c =
    let threads = c.args.analysis.now.flat.now.threads.items in
    let ps = c.args.analysis.now.graph.threads.items in
    let straight : Straight = record { stretches = c.args.stretches.now; held = c.args.analysis.now.held } in
    let b = boundaries_of c.args.cuts.now in
    let past : length ps ≤ c.loop-number.number = omega (arith, c.loop-number-test.false, c.len-number-end.ensures) in
    left_whole c.args.text.now (graph_of c.args.analysis.now.graph) b straight threads ps c.loop-number.number c.loop-number.out.items _
    past c.loop-number.invariant.so_far
    ∙ ap (λ (y : Graph). regions_of c.args.text.now y b straight 0 (map thread_of threads) y.threads) c.requires.graph
