use Rattle.std.proofs.Common.{ℕ, ◌<◌, List, [], ◌∷◌, ◌++◌, sym, subst, append_assoc, arith}
use Rattle.std.proofs.lemmas.List.{append-nil}
use Rattle.region_cutter.specs.links.RegionLimits.{AreChosen, one_left, one_chosen}
use Rattle.region_cutter.proofs.FewestRegions.{cut_before_past}
use Rattle.region_cutter.proofs.fewest_cuts.chosen.Goals as goal

pub loop-from-preserved : goal.loop-from-preserved
loop-from-preserved c =
    let first = c.args.first in
    let past = c.args.past in
    let limits = c.args.limits.now in
    let counts = c.args.counts.now in
    let from = c.loop-from.from in
    let cut = c.next_cut-from.result in
    let is = c.next_cut-from.ensures in
    let later = is.later in
    let i = c.loop-from.invariant in
    let a = i.from_first in
    let before : cut < past = cut_before_past first past from cut limits counts c.requires.limits c.requires.counts a i.before c.loop-from-test.true is in
    record {
      from_first = omega (arith, a, later);
      before = before;
      rest = λ cuts rest.
          subst (λ (xs : List ℕ). AreChosen first past limits counts first (xs ++ cuts)) (sym c.in_ok-push.ensures.items)
          (subst (λ (xs : List ℕ). AreChosen first past limits counts first xs) (sym (append_assoc c.loop-from.cuts.items (cut ∷ []) cuts))
          (i.rest (cut ∷ cuts) (one_chosen from cut cuts before is rest)));
    }

pub returns : goal.returns
returns c =
    subst (λ (xs : List ℕ). AreChosen c.args.first c.args.past c.args.limits.now c.args.counts.now c.args.first xs) (append-nil c.loop-from.cuts.items)
    (c.loop-from.invariant.rest [] (one_left c.loop-from.from c.loop-from-test.false))
