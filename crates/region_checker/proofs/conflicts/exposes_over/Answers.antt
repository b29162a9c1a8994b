use Rattle.std.proofs.Common.{◌≡◌, ◌<◌, ◌≤◌, List, length, true, false, Some, inl, inr, refl, ap, sym, subst, ◌∙◌, arith}
use Rattle.std.specs.Prelude.{slice_get}
use Rattle.std.proofs.lemmas.Option.{slice_get_read, slice_get-get_or}
use Rattle.ido_base.specs.declared.location.Location.{Location}
use Rattle.flow_graph.specs.Nodes.{graph_of}
use Rattle.flow_graph.proofs.Public.{same_or_other}
use Rattle.region_checker.specs.links.ConflictSearch.{IsExposedAt}
use Rattle.region_checker.proofs.FoundConflicts.{exposes_from, exposes_none}
use Rattle.region_checker.proofs.conflicts.exposes_over.Goals as goal

some_same : (a b : Location) → Some a ≡ Some b → a ≡ b
some_same a b e = cc

pub returns-then-branch : goal.returns-then-branch
returns-then-branch c b r =
    let g = c.args.graph.now in
    let nodes = g.nodes.items in
    let read = c.args.read in
    let x = c.index.result.now in
    let at : slice_get nodes read ≡ Some x = slice_get_read nodes (length nodes) read x refl c.requires.exists c.index.ensures in
    let items = c.deref-location-items.result.now in
    let k = c.loop-location.location-index in
    let lt : k < length items = omega (arith, c.loop-location-test.true) in (
      λ _. exposes_from g b read c.args.store k x
          _ at (ap (λ (xs : List Location). slice_get xs k) (sym c.deref-location-items.ensures.value) ∙ slice_get-get_or items k _ lt)
          ((c.in_ok-exposes_at.ensures b r).0 c.if-branch.true),
      λ _. refl,
    )

pub loop-location-preserved : goal.loop-location-preserved
loop-location-preserved c b r n z lt at e =
    let items = c.deref-location-items.result.now in
    let k = c.loop-location.location-index in
    let within : k < length items = omega (arith, c.loop-location-test.true) in
    elim (same_or_other n k) [
      | inl is ↦ (
          let t : c.in_ok-exposes_at.field-0 ≡ true = (c.in_ok-exposes_at.ensures b r).1
          (subst (λ (w : Location). IsExposedAt (graph_of c.args.graph.now) b c.args.read c.args.store w)
          (some_same z _ (sym at ∙ ap (λ i. slice_get items i) is ∙ slice_get-get_or items k _ within)) e) in
          let off : true ≡ false = sym t ∙ c.if-branch.false in
          absurd (cc))
      | inr other ↦ c.loop-location.invariant b r n z (omega (arith, lt)) at e
    ]

pub returns : goal.returns
returns c b r =
    let g = c.args.graph.now in
    let nodes = g.nodes.items in
    let read = c.args.read in
    let x = c.index.result.now in
    let at : slice_get nodes read ≡ Some x = slice_get_read nodes (length nodes) read x refl c.requires.exists c.index.ensures in
    let same = c.deref-location-items.ensures.value in
    let le : length x.reads.items ≤ c.loop-location.location-index = omega (arith, c.loop-location-test.false, ap length same) in (
      λ t. absurd (cc),
      λ e. absurd (exposes_none g b read c.args.store c.loop-location.location-index x at le
          (λ k y lt there. c.loop-location.invariant b r k y lt (ap (λ (xs : List Location). slice_get xs k) same ∙ there)) e),
    )
