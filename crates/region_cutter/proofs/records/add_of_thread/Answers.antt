use Rattle.std.proofs.Common.{◌+◌, ◌<◌, ◌≤◌, Bool, Vec, Global, length, subst, sym, arith}
use Rattle.std.proofs.lemmas.List.{length-map}
use Rattle.flow_graph.specs.Nodes.{graph_of, node_of}
use Rattle.region_cutter.specs.links.AddedBoundaries.{AreAdded}
use Rattle.region_cutter.proofs.EachWrite.{AssignsBelow, added_all, added_more, added_past}
use Rattle.region_cutter.proofs.records.add_of_thread.Goals as goal
use Rattle.region_cutter.proofs.records.add_of_thread.Goals.{then-assigns_locked, else-assigns_locked}

pub loop-number-preserved : goal.loop-number-preserved
loop-number-preserved c =
    let g = graph_of c.args.graph.now in
    let table = c.args.held.now in
    let thread = c.args.thread in
    let n = c.loop-number.number in
    let old = c.args.before.now.items in
    let now = c.loop-number.before.items in
    elim c.if-assigns_locked.branch [
      | then-assigns_locked w ↦ (
          let within = c.requires.sets.within thread c.args.part c.requires.part in
          let lt : n < length now =
          omega (arith, within, c.loop-number-test.true, c.requires.count, c.loop-number.invariant.count, length-map c.args.graph.now.nodes.items node_of) in
          subst (λ (v : Vec Bool Global). AreAdded (AssignsBelow g table thread (n + 1)) old v.items) (sym w.before-is)
          (added_more g table thread n old now lt (c.assigns_locked.ensures.0 w.if-assigns_locked.true) c.loop-number.invariant))
      | else-assigns_locked w ↦ (
          subst (λ (v : Vec Bool Global). AreAdded (AssignsBelow g table thread (n + 1)) old v.items) (sym w.before-is)
          (added_past g table thread n old now (λ does. let no = w.if-assigns_locked.false in let is = c.assigns_locked.ensures.1 does in cc)
          c.loop-number.invariant))
    ]

pub returns : goal.returns
returns c =
    let g = graph_of c.args.graph.now in
    let past : c.args.part.end ≤ c.loop-number.number = omega (arith, c.loop-number-test.false) in
    added_all g c.args.held.now c.requires.sets c.args.thread c.loop-number.number c.args.part c.requires.part past c.args.before.now.items
    c.loop-number.before.items c.loop-number.invariant
