-- The search for a label that is more than one greater at a region's end.
use Rattle.std.specs.Prelude.{◌<◌, ◌≤◌, ℕ, suc, List}
use Rattle.region_cutter.specs.FewestCuts.{at}

-- the label at that later node, no later than the limit, is more than one greater
pub record IsSteepTo (first : ℕ) (labels : List ℕ) (from limit to : ℕ) : Type 0 where
  pub later : from < to
  pub within : to ≤ limit
  pub greater : suc (at first labels from) < at first labels to

abbrev pub AreLevel : (first : ℕ) → List ℕ → (from limit : ℕ) → Type 0
AreLevel first labels from limit = (to : ℕ) → ¬ (IsSteepTo first labels from limit to)

pub record IsFirstSteepTo (first : ℕ) (labels : List ℕ) (from limit to : ℕ) : Type 0 where
  pub steep : IsSteepTo first labels from limit to
  pub least : (other : ℕ) → IsSteepTo first labels from limit other → to ≤ other

-- of no node before that one the label is more than one greater within its limit
abbrev pub AreAllLevel : (first : ℕ) → (labels limits : List ℕ) → (before : ℕ) → Type 0
AreAllLevel first labels limits before = (from : ℕ) → first ≤ from → from < before → AreLevel first labels from (at first limits from)

pub record IsFirstEdge (first past : ℕ) (labels limits : List ℕ) (from to : ℕ) : Type 0 where
  pub from_first : first ≤ from
  pub before : from < past
  pub steep : IsFirstSteepTo first labels from (at first limits from) to
  pub least : AreAllLevel first labels limits from
