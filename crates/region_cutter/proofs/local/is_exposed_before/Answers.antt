use Rattle.std.proofs.Common.{◌≡◌, ◌<◌, ◌≤◌, ℕ, Bool, true, false, Some, None, List, [], length, replicate, ap, sym, subst, ◌∙◌, arith, refl}
use Rattle.std.specs.Prelude.{slice_get, Contains}
use Rattle.std.proofs.lemmas.List.{length-map, length-replicate, length_push, nil_from_length}
use Rattle.std.proofs.lemmas.List.Elements.{Contains-push}
use Rattle.std.proofs.lemmas.Option.{slice_get_read}
use Rattle.flow_graph.specs.Nodes.{graph_of, node_of}
use Rattle.flow_graph.specs.IdempotentCuts.{boundaries_of}
use Rattle.region_cutter.specs.links.RemovalPaths.{ComesBack, ExposesOver, IsExposedBefore}
use Rattle.region_cutter.specs.links.GraphSearch.{IsSearchStep, left}
use Rattle.region_cutter.proofs.TrialParts.{back_within}
use Rattle.region_cutter.proofs.GraphSearchComplete.{searched_first, searched_step, searched_found, searched_nowhere}
use Rattle.region_cutter.proofs.local.is_exposed_before.Goals as goal
use Rattle.region_cutter.proofs.local.is_exposed_before.Goals.{In-Some, After-index-reader}

-- the number that was taken is one of a node
popped : (c : In-Some) → c.in-Some.number < length c.args.graph.now.nodes.items
popped c =
    let waits : Contains c.loop-number.search.waiting.items c.in-Some.number =
    subst (λ (x : List ℕ). Contains x c.in-Some.number) (sym c.in-Some.ensures.items) (Contains-push c.pop.new.self.items c.in-Some.number) in
    let lt = (c.loop-number.invariant.0.led c.in-Some.number waits).0 in
    omega (arith, lt, c.loop-number.invariant.1)

pub loop-number-init : goal.loop-number-init
loop-number-init c =
    let g = graph_of c.args.graph.now in
    let b = boundaries_of c.args.cuts.now in
    let writes = c.args.writes.now in
    let Step = ComesBack g b None in
    let Start = ComesBack g b None c.args.node in
    let n = c.len.result in
    let o = c.in_ok-search.search in
    let s = c.go_back.new.search in
    let f : IsSearchStep Start o.seen.items o.waiting.items s.seen.items s.waiting.items = c.in_ok-go_back.ensures in
    let f' : IsSearchStep Start (replicate n false) [] s.seen.items s.waiting.items =
    subst (λ (w : List ℕ). IsSearchStep Start (replicate n false) w s.seen.items s.waiting.items) c.in_ok-search.ensures.waiting
    (subst (λ (v : List Bool). IsSearchStep Start v o.waiting.items s.seen.items s.waiting.items) c.in_ok-search.ensures.seen f) in (
      searched_first Step (ExposesOver g b writes) Start (IsExposedBefore g b writes c.args.node) Start n s.seen.items s.waiting.items f'
          (λ m step comes. record { from = m; comes = step; exposes = comes }) (λ m step lt. step),
      omega (arith, f'.long, length-replicate n false, c.len.ensures, c.args.graph.now.nodes.ok.0),
      c.requires.found,
    )

pub index-reader-requires : goal.index-reader-requires
index-reader-requires c = omega (arith, popped (goal.at.index-reader-requires c).In-Some, c.args.graph.now.nodes.ok.0)

found : (c : After-index-reader) → c.in-Some.number < length c.args.graph.now.nodes.items → slice_get c.args.graph.now.nodes.items c.in-Some.number ≡
    Some c.index-reader.result.now
found c lt = slice_get_read c.args.graph.now.nodes.items
    (length c.args.graph.now.nodes.items) c.in-Some.number c.index-reader.result.now refl lt c.index-reader.ensures

pub exposes_over-requires-clause-node : goal.exposes_over-requires-clause-node
exposes_over-requires-clause-node c =
    found (goal.at.exposes_over-requires-clause-node c).After-index-reader (popped (goal.at.exposes_over-requires-clause-node c).In-Some)

pub go_back-requires-in-Some-clause-exists : goal.go_back-requires-in-Some-clause-exists
go_back-requires-in-Some-clause-exists c = popped (goal.at.go_back-requires-in-Some-clause-exists c).In-Some

pub returns-then-exposed-clause-exposed : goal.returns-then-exposed-clause-exposed
returns-then-exposed-clause-exposed c =
    let g = graph_of c.args.graph.now in
    let b = boundaries_of c.args.cuts.now in
    let writes = c.args.writes.now in (
      λ _. searched_found (ComesBack g b None) (ExposesOver g b writes) (ComesBack g b None c.args.node) (IsExposedBefore g b writes c.args.node)
          c.loop-number.search.seen.items c.loop-number.search.waiting.items c.pop.new.self.items c.in-Some.number
          c.in-Some.ensures.items c.loop-number.invariant.0 (c.in_ok-exposed.ensures.exposed.0 c.if-exposed.true),
      λ _. refl,
    )

pub loop-number-preserved : goal.loop-number-preserved
loop-number-preserved c =
    let g = graph_of c.args.graph.now in
    let b = boundaries_of c.args.cuts.now in
    let writes = c.args.writes.now in
    let Step = ComesBack g b None in
    let n = c.in-Some.number in
    let s = c.loop-number.search in
    let rest = c.pop.new.self.items in
    let s' = c.go_back-in-Some.new.search in
    let stays : ¬ (ExposesOver g b writes n) = λ h. let yes' : c.in_ok-exposed.exposed ≡ true = c.in_ok-exposed.ensures.exposed.1 h in
    let no' : c.in_ok-exposed.exposed ≡ false = c.if-exposed.false in cc in
    let f : IsSearchStep (λ to. Step n to) s.seen.items rest s'.seen.items s'.waiting.items = c.in_ok-go_back-2.ensures in (
      searched_step Step (ExposesOver g b writes) (ComesBack g b None c.args.node) (IsExposedBefore g b writes c.args.node) s.seen.items s.waiting.items rest
          s'.seen.items s'.waiting.items n c.in-Some.ensures.items c.loop-number.invariant.0 stays f,
      f.long ∙ c.loop-number.invariant.1,
      c.in_ok-exposed.ensures.found,
    )

pub loop-number-smaller : goal.loop-number-smaller
loop-number-smaller c =
    let s = c.loop-number.search in
    let rest = c.pop.new.self.items in
    let s' = c.go_back-in-Some.new.search in
    let less : left s'.seen.items s'.waiting.items ≤ left s.seen.items rest = c.in_ok-go_back-2.ensures.less in
    let one = ap length c.in-Some.ensures.items ∙ length_push rest c.in-Some.number in
    let falls : left s'.seen.items s'.waiting.items < left s.seen.items s.waiting.items = omega (arith, less, one) in
    falls

pub returns-clause-exposed : goal.returns-clause-exposed
returns-clause-exposed c =
    let g = graph_of c.args.graph.now in
    let b = boundaries_of c.args.cuts.now in
    let writes = c.args.writes.now in
    let s = c.loop-number.search in
    let none : s.waiting.items ≡ [] = nil_from_length s.waiting.items (omega (arith, c.in_default.ensures.cases.0, s.waiting.ok.0)) in
    let count : length s.seen.items ≡ length g.nodes = c.loop-number.invariant.1 ∙ sym (length-map c.args.graph.now.nodes.items node_of) in
    let within = λ (n from : ℕ) (step : ComesBack g b None n from). back_within g b None n from step in
    let no' = searched_nowhere (ComesBack g b None) (ExposesOver g b writes) (ComesBack g b None c.args.node) (IsExposedBefore g b writes c.args.node)
    s.seen.items s.waiting.items none (λ n from step. omega (arith, within n from step, count)) c.loop-number.invariant.0 in (
      λ t. let wrong : false ≡ true = t in absurd (cc),
      λ e. absurd (no' e.from e.comes (omega (arith, within c.args.node e.from e.comes, count)) e.exposes),
    )
