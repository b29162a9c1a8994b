use Rattle.std.proofs.Common.{◌≡◌, ◌<◌, ◌≤◌, ℕ, false, Some, List, [], length, ap, sym, subst, refl, ◌∙◌, arith}
use Rattle.std.specs.Prelude.{slice_get, Contains}
use Rattle.std.specs.Option.{option_map}
use Rattle.std.proofs.lemmas.List.{length-map, length-replicate, length_push, nil_from_length}
use Rattle.std.proofs.lemmas.List.Elements.{Contains-push}
use Rattle.std.proofs.lemmas.Option.{slice_get-map, slice_get_read}
use Rattle.flow_graph.specs.Nodes.{graph_of, node_of}
use Rattle.flow_graph.specs.IdempotentCuts.{boundaries_of}
use Rattle.region_cutter.specs.links.GraphSearch.{left}
use Rattle.region_cutter.proofs.TrialParts.{collects_first, collects_step, collects_all, collects_ahead}
use Rattle.region_cutter.proofs.local.ahead_of.Goals as goal
use Rattle.region_cutter.proofs.local.ahead_of.Goals.{In-Some, After-index-node}

-- the number that was taken is one of a node
popped : (c : In-Some) → c.in-Some.number < length c.args.graph.now.nodes.items
popped c =
    let waits : Contains c.loop-number.search.waiting.items c.in-Some.number =
    subst (λ (x : List ℕ). Contains x c.in-Some.number) (sym c.in-Some.ensures.items) (Contains-push c.pop.new.self.items c.in-Some.number) in
    let lt = (c.loop-number.invariant.0.search.led c.in-Some.number waits).0 in
    omega (arith, lt, c.loop-number.invariant.1)

pub loop-number-init : goal.loop-number-init
loop-number-init c =
    let f = c.in_ok-search.ensures in (
      collects_first (graph_of c.args.graph.now) (boundaries_of c.args.cuts.now) c.args.from c.len.result c.in_ok-search.search.seen.items
          c.in_ok-search.search.waiting.items c.new-writes.result.items c.new-writes.ensures.items f,
      omega (arith, f.long, length-replicate c.len.result false, c.len.ensures, c.args.graph.now.nodes.ok.0),
    )

pub index-node-requires : goal.index-node-requires
index-node-requires c = omega (arith, popped (goal.at.index-node-requires c).In-Some, c.args.graph.now.nodes.ok.0)

found : (c : After-index-node) → c.in-Some.number < length c.args.graph.now.nodes.items → slice_get c.args.graph.now.nodes.items c.in-Some.number ≡
    Some c.index-node.result.now
found c lt = slice_get_read c.args.graph.now.nodes.items
    (length c.args.graph.now.nodes.items) c.in-Some.number c.index-node.result.now refl lt c.index-node.ensures

pub go_on-requires : goal.go_on-requires
go_on-requires c = found (goal.at.go_on-requires c).After-index-node (popped (goal.at.go_on-requires c).In-Some)

pub loop-number-preserved : goal.loop-number-preserved
loop-number-preserved c =
    let n = c.in-Some.number in
    let s = c.loop-number.search in
    let rest = c.pop.new.self.items in
    let s' = c.go_on.new.search in
    let f = c.in_ok-go_on.ensures in
    let at = slice_get-map node_of c.args.graph.now.nodes.items n ∙
    ap (option_map node_of) (found (goal.at.loop-number-preserved c).After-index-node (popped (goal.at.loop-number-preserved c).In-Some)) in (
      collects_step (graph_of c.args.graph.now) (boundaries_of c.args.cuts.now) c.args.from s.seen.items s.waiting.items rest c.loop-number.writes.items
          s'.seen.items s'.waiting.items c.add_written.new.writes.items n (node_of c.index-node.result.now) c.in-Some.ensures.items
          c.loop-number.invariant.0 at c.in_ok-add_written.ensures f,
      f.long ∙ c.loop-number.invariant.1,
    )

pub loop-number-smaller : goal.loop-number-smaller
loop-number-smaller c =
    let s = c.loop-number.search in
    let rest = c.pop.new.self.items in
    let s' = c.go_on.new.search in
    let less : left s'.seen.items s'.waiting.items ≤ left s.seen.items rest = c.in_ok-go_on.ensures.less in
    let one = ap length c.in-Some.ensures.items ∙ length_push rest c.in-Some.number in
    let falls : left s'.seen.items s'.waiting.items < left s.seen.items s.waiting.items = omega (arith, less, one) in
    falls

pub returns-clause-seen : goal.returns-clause-seen
returns-clause-seen c =
    let s = c.loop-number.search in
    let none : s.waiting.items ≡ [] = nil_from_length s.waiting.items (omega (arith, c.in_default.ensures.cases.0, s.waiting.ok.0)) in
    collects_ahead (graph_of c.args.graph.now) (boundaries_of c.args.cuts.now) c.args.from s.seen.items s.waiting.items c.loop-number.writes.items none
    (c.loop-number.invariant.1 ∙ sym (length-map c.args.graph.now.nodes.items node_of)) c.loop-number.invariant.0

pub returns-clause-writes : goal.returns-clause-writes
returns-clause-writes c =
    let s = c.loop-number.search in
    let none : s.waiting.items ≡ [] = nil_from_length s.waiting.items (omega (arith, c.in_default.ensures.cases.0, s.waiting.ok.0)) in
    collects_all (graph_of c.args.graph.now) (boundaries_of c.args.cuts.now) c.args.from s.seen.items s.waiting.items c.loop-number.writes.items none
    (c.loop-number.invariant.1 ∙ sym (length-map c.args.graph.now.nodes.items node_of)) c.loop-number.invariant.0
