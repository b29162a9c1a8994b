use Rattle.std.proofs.Common.{◌≡◌, ◌++◌, drop, length, map}
use Rattle.c_tree.specs.Flats.{thread_of}
use Rattle.flow_graph.specs.IdempotentCuts.{boundaries_of}
use Rattle.flow_graph.specs.Nodes.{graph_of}
use Rattle.ido_cli.specs.Regions.{Straight, regions_of}
use Rattle.ido_cli.proofs.regions.regions.Given as goal

abbrev pub invariant-loop-number : goal.invariant-loop-number
invariant-loop-number l =
    let threads = l.analysis.flat.now.threads.items in
    let parts = l.analysis.graph.threads.items in
    let g = graph_of l.analysis.graph in
    let b = boundaries_of l.cuts in
    let straight : Straight = record { stretches = l.stretches; held = l.analysis.held } in
    record {
      end : l.number-end ≡ length parts;
      so_far : l.out.items ++ regions_of l.text g b straight l.number (map thread_of (drop l.number threads)) (drop l.number parts)
          ≡ regions_of l.text g b straight 0 (map thread_of threads) parts;
    }
