-- Labels that are refused, and what none that is refused shows.
use Rattle.std.proofs.Common.{◌≡◌, inl, inr, ℕ, suc, ◌+◌, ◌<◌, ◌≤◌, List, subst, arith}
use Rattle.flow_graph.proofs.Public.{below_or_past}
use Rattle.flow_graph.specs.Nodes.{Graph}
use Rattle.region_cutter.specs.FewestCuts.{IsSteep, at}
use Rattle.region_cutter.specs.links.RegionLimits.{AreLimits}
use Rattle.region_cutter.proofs.Public.{within_limit}
use Rattle.region_checker.specs.Labels.{NoneSteep}
use Rattle.region_checker.specs.links.LabelSearch.{IsSteepTo, IsFirstSteepTo, AreAllLevel}

-- a region leads no further than the limit
within : (g : Graph) (first past from to : ℕ) (labels limits : List ℕ) → AreLimits g first past first limits → IsSteep g first past labels from to →
    IsSteepTo first labels from (at first limits from) to
within g first past from to labels limits are s =
    let a = s.from_first in
    let l = s.later in
    let e = s.to_past in
    record {
      later = l;
      within = within_limit g from past (at first limits from) to (are.each from a (omega (arith, l, e))) e s.free;
      greater = s.greater;
    }

pub none_steep : (g : Graph) (first past : ℕ) (labels limits : List ℕ) → AreLimits g first past first limits → AreAllLevel first labels limits past →
    NoneSteep g first past labels
none_steep g first past labels limits are level = λ from to s.
    let l = s.later in
    let e = s.to_past in
    level from s.from_first (omega (arith, l, e)) to (within g first past from to labels limits are s)

-- ---- The search

pub level_none : (first : ℕ) (labels : List ℕ) (from limit to : ℕ) → to ≤ from → ¬ (IsSteepTo first labels from limit to)
level_none first labels from limit to le s = let l = s.later in omega (arith, l, le)

pub level_more : (first : ℕ) (labels : List ℕ) (from limit before : ℕ) → ((to : ℕ) → to ≤ before → ¬ (IsSteepTo first labels from limit to)) →
    ¬ (suc (at first labels from) < at first labels (before + 1)) → (to : ℕ) → to ≤ before + 1 → ¬ (IsSteepTo first labels from limit to)
level_more first labels from limit before level flat to le s = elim (below_or_past before to) [
  | inr least ↦ level to least s
  | inl lt ↦ (
      let is : to ≡ before + 1 = omega (arith, lt, le) in
      flat (subst (λ (n : ℕ). suc (at first labels from) < at first labels n) is s.greater))
]

pub first_here : (first : ℕ) (labels : List ℕ) (from limit before : ℕ) → from ≤ before → before < limit →
    ((to : ℕ) → to ≤ before → ¬ (IsSteepTo first labels from limit to)) → suc (at first labels from) < at first labels (before + 1) →
    IsFirstSteepTo first labels from limit (before + 1)
first_here first labels from limit before a b level greater = record {
  steep = record { later = omega (arith, a); within = omega (arith, b); greater = greater };
  least = λ other s. elim (below_or_past before other) [
    | inl lt ↦ omega (arith, lt)
    | inr le ↦ absurd (level other le s)
  ];
}
