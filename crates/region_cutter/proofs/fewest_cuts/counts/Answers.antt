use Rattle.std.proofs.Common.{◌≡◌, ℕ, suc, ◌-◌, ◌++◌, ◌∷◌, [], List, length, set, sym, subst, arith}
use Rattle.region_cutter.specs.links.RegionLimits.{AreCounts, AreNearest}
use Rattle.region_cutter.proofs.RegionCounts.{counts_more, nearest_more}
use Rattle.region_cutter.proofs.fewest_cuts.counts.Goals as goal

pub loop-number-preserved : goal.loop-number-preserved
loop-number-preserved c =
    let first = c.args.first in
    let past = c.args.past in
    let limits = c.args.limits.now in
    let number = c.loop-number.number - 1 in
    let i = c.loop-number.invariant in
    let is : c.loop-number.number ≡ suc number = omega arith in
    let a = i.from_first in
    let b = i.to_past in
    let old = c.loop-number.counts.items in
    let mid = c.shorten.new.nearest.items in
    let counts = subst (λ (n : ℕ). AreCounts first past n limits old) is i.counts in
    let nearest = subst (λ (n : ℕ). AreNearest first past n old c.loop-number.nearest.items) is i.nearest in
    let count : c.len.result ≡ length mid = omega (arith, c.len.ensures, c.shorten.new.nearest.ok.0) in
    let new = λ (n : ℕ). set old (number - first) n in
    record {
      from_first = omega (arith, a);
      to_past = omega (arith, b);
      counts = subst (λ (n : ℕ). AreCounts first past number limits (new n)) (sym count)
          (counts_more first past number limits old c.loop-number.nearest.items mid (omega (arith, a)) (omega (arith, b)) c.requires.limits counts nearest
          c.shorten.ensures);
      nearest = subst (λ (xs : List ℕ). AreNearest first past number (new c.len.result) xs) (sym c.in_ok-push.ensures.items)
          (subst (λ (n : ℕ). AreNearest first past number (new n) (mid ++ number ∷ [])) (sym count)
          (nearest_more first past number limits old c.loop-number.nearest.items mid (omega (arith, a)) (omega (arith, b)) c.requires.limits counts nearest
          c.shorten.ensures));
    }
