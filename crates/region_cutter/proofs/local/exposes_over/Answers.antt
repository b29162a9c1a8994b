use Rattle.std.proofs.Common.{◌≡◌, ◌≤◌, None, Some, true, false, List, length, get_or, subst, sym, ap, ◌∙◌, arith, refl}
use Rattle.std.specs.Prelude.{Contains, slice_get}
use Rattle.std.specs.Option.{option_map}
use Rattle.std.proofs.lemmas.Option.{slice_get-get_or, slice_get-map}
use Rattle.ido_base.specs.declared.location.Location.{Location}
use Rattle.flow_graph.specs.Nodes.{Node, graph_of, node_of}
use Rattle.flow_graph.specs.IdempotentCuts.{boundaries_of}
use Rattle.region_cutter.specs.links.RemovalPaths.{IsExposedOver}
use Rattle.region_cutter.proofs.Edges.{same_node}
use Rattle.region_cutter.proofs.TrialParts.{below_more, contained, found_contained}
use Rattle.region_cutter.proofs.local.exposes_over.Goals as goal

pub returns-then-exposed-clause-exposed : goal.returns-then-exposed-clause-exposed
returns-then-exposed-clause-exposed c =
    let items = c.deref-elements-items.result.now in
    let i = c.loop-place.place in
    let item : Location = get_or items i (record { variable = 0; lo = 0; hi = 0; key = None }) in (
      λ _. record {
        elements = item;
        reads = record {
          is = node_of c.args.node.now;
          at = slice_get-map node_of c.args.graph.now.nodes.items c.args.number ∙ ap (option_map node_of) c.requires.node;
          reads = subst (λ (xs : List Location). Contains xs item) c.deref-elements-items.ensures.value
              (found_contained items item i (slice_get-get_or items i (record { variable = 0; lo = 0; hi = 0; key = None }) c.loop-place-test.true));
        };
        exposed = c.in_ok-exposed.ensures.exposed.0 c.if-exposed.true;
      },
      λ _. refl,
    )

pub loop-place-preserved : goal.loop-place-preserved
loop-place-preserved c =
    let g = graph_of c.args.graph.now in
    let b = boundaries_of c.args.cuts.now in
    let i = c.loop-place.place in
    let items = c.deref-elements-items.result.now in
    let item : Location = get_or items i (record { variable = 0; lo = 0; hi = 0; key = None }) in
    let at = slice_get-get_or items i (record { variable = 0; lo = 0; hi = 0; key = None }) c.loop-place-test.true in
    let P : Location → Type 0 = λ e. ¬ (IsExposedOver g b c.args.writes.now c.args.number e) in
    let free : P item = λ e. let yes' : c.in_ok-exposed.exposed ≡ true = c.in_ok-exposed.ensures.exposed.1 e in let no' : c.in_ok-exposed.exposed ≡ false =
    c.if-exposed.false in cc in
    record { none = below_more P items i item at free c.loop-place.invariant.none; found = c.in_ok-exposed.ensures.found }

pub returns-clause-exposed : goal.returns-clause-exposed
returns-clause-exposed c =
    let g = graph_of c.args.graph.now in
    let x = node_of c.args.node.now in
    let items = c.deref-elements-items.result.now in
    let least : length items ≤ c.loop-place.place = c.loop-place-test.false in (
      λ t. let wrong : false ≡ true = t in absurd (cc),
      λ e.
          let here = same_node g c.args.number e.reads.is x e.reads.at
          (slice_get-map node_of c.args.graph.now.nodes.items c.args.number ∙ ap (option_map node_of) c.requires.node) in
          let k : Contains x.reads e.elements = subst (λ (y : Node). Contains y.reads e.elements) here e.reads.reads in
          let at = contained items e.elements (subst (λ (xs : List Location). Contains xs e.elements) (sym c.deref-elements-items.ensures.value) k) in
          let lt = at.1 in
          absurd (c.loop-place.invariant.none at.0 e.elements (omega (arith, lt, least)) at.2 e.exposed),
    )

pub is_exposed_over-requires-clause-read : goal.is_exposed_over-requires-clause-read
is_exposed_over-requires-clause-read c =
    let items = c.deref-elements-items.result.now in
    let i = c.loop-place.place in
    let none : Location = record { variable = 0; lo = 0; hi = 0; key = None } in
    record {
      is = node_of c.args.node.now;
      at = slice_get-map node_of c.args.graph.now.nodes.items c.args.number ∙ ap (option_map node_of) c.requires.node;
      reads = subst (λ (xs : List Location). slice_get xs i ≡ Some (get_or items i none)) c.deref-elements-items.ensures.value
          (slice_get-get_or items i none c.loop-place-test.true);
    }
