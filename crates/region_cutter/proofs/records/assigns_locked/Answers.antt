use Rattle.std.proofs.Common.{◌≡◌, ◌<◌, true, false, ap, length, refl, sym, ◌∙◌, arith}
use Rattle.std.specs.Option.{option_map}
use Rattle.std.proofs.lemmas.List.{length-map}
use Rattle.std.proofs.lemmas.Option.{slice_get_read, slice_get-map}
use Rattle.flow_graph.specs.Nodes.{graph_of, node_of}
use Rattle.flow_graph.specs.Liveness.{NodeAt}
use Rattle.region_cutter.proofs.EachWrite.{assigned, decided, few_steps, has_row, has_step}
use Rattle.region_cutter.proofs.records.assigns_locked.Goals as goal

pub overflow_cast-step : goal.overflow_cast-step
overflow_cast-step c =
    omega (
      arith,
      few_steps (graph_of c.args.graph.now) c.args.held.now c.requires.sets c.args.thread c.args.number c.args.part c.requires.part
          c.requires.from_first c.requires.below_end,
    )

pub count-requires-clause-thread : goal.count-requires-clause-thread
count-requires-clause-thread c =
    has_row (graph_of c.args.graph.now) c.args.held.now c.requires.sets c.args.thread c.args.part c.requires.part

pub count-requires-clause-step : goal.count-requires-clause-step
count-requires-clause-step c =
    has_step (graph_of c.args.graph.now) c.args.held.now c.requires.sets c.args.thread c.args.number c.args.part c.requires.part c.requires.from_first
    c.requires.below_end

pub returns-then-assigns_local : goal.returns-then-assigns_local
returns-then-assigns_local c =
    let nodes = c.args.graph.now.nodes.items in
    let n = c.args.number in
    let x = c.index.result.now in
    let within = c.requires.sets.within c.args.thread c.args.part c.requires.part in
    let lt : n < length nodes = omega (arith, within, c.requires.below_end, length-map nodes node_of) in
    let at : NodeAt (graph_of c.args.graph.now) n (node_of x) =
    slice_get-map node_of nodes n ∙ ap (option_map node_of) (slice_get_read nodes (length nodes) n x refl lt c.index.ensures) in
    decided (graph_of c.args.graph.now) c.args.held.now c.requires.sets c.args.thread n c.args.part (node_of x) c.count.result c.requires.part
    c.requires.from_first c.requires.below_end at (sym c.assigns_local.ensures ∙ c.if-assigns_local.true) c.count.ensures

pub returns-else-assigns_local : goal.returns-else-assigns_local
returns-else-assigns_local c =
    let nodes = c.args.graph.now.nodes.items in
    let n = c.args.number in
    let x = c.index.result.now in
    let within = c.requires.sets.within c.args.thread c.args.part c.requires.part in
    let lt : n < length nodes = omega (arith, within, c.requires.below_end, length-map nodes node_of) in
    let at : NodeAt (graph_of c.args.graph.now) n (node_of x) =
    slice_get-map node_of nodes n ∙ ap (option_map node_of) (slice_get_read nodes (length nodes) n x refl lt c.index.ensures) in
    let no : c.assigns_local.result ≡ false = c.if-assigns_local.false in (
      λ yes. absurd (cc),
      λ a.
          let yes : c.assigns_local.result ≡ true =
          c.assigns_local.ensures ∙ (assigned (graph_of c.args.graph.now) c.args.held.now c.args.thread n c.args.part (node_of x) c.requires.part at a).0 in
          absurd (cc),
    )
