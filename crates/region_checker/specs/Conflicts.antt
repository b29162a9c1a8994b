-- Why cuts are refused.
use Rattle.std.specs.Prelude.{◌≡◌, ◌⊎◌, ◌<◌, ◌≤◌, ℕ, List, ◌∷◌, slice_get, Some, IsTrue}
use Rattle.ido_base.specs.declared.location.Location.{Location}
use Rattle.ido_base.specs.Locations.{overlap}
use Rattle.flow_graph.specs.Nodes.{Graph}
use Rattle.flow_graph.specs.IdempotentCuts.{Boundaries, IsLock, IsUnlock, HasBoundaryAfter, HasBefore}
use Rattle.flow_graph.specs.IdempotentCuts.{BeginsRegion, IsInside, ReadsAt, WritesAt, IsWrittenBefore}
use Rattle.region_checker.specs.declared.error.CheckError.{CheckError}
use Rattle.region_checker.specs.declared.error.CheckError.TheVariants as error

-- ---- Boundaries that are missing

pub record LacksAfter (g : Graph) (b : Boundaries) (node : ℕ) : Type 0 where
  pub locks : IsLock g node
  pub lacks : ¬ (HasBoundaryAfter g b node)

pub record LacksBefore (g : Graph) (b : Boundaries) (node : ℕ) : Type 0 where
  pub unlocks : IsUnlock g node
  pub lacks : ¬ (HasBefore b node)

-- no node below that one lacks a boundary
abbrev pub AreThereBelow : Graph → Boundaries → (node : ℕ) → Type 0
AreThereBelow g b node = (n : ℕ) → n < node → ¬ (LacksAfter g b n ⊎ LacksBefore g b n)

-- no node lacks one
abbrev pub AreThere : Graph → Boundaries → Type 0
AreThere g b = (n : ℕ) → ¬ (LacksAfter g b n ⊎ LacksBefore g b n)

-- ---- Conflicts

-- in a region, elements are read at the one node that weren't written before, and at the other one later some of them may be overwritten
pub record Conflict (g : Graph) (b : Boundaries) (read store : ℕ) : Type 0 where
  pub from : ℕ
  pub path : List ℕ
  pub begins : BeginsRegion g b from
  pub inside : IsInside g b (from ∷ path)
  pub i : ℕ
  pub j : ℕ
  pub later : i < j
  pub elements : Location
  pub written : Location
  pub at_read : slice_get (from ∷ path) i ≡ Some read
  pub at_store : slice_get (from ∷ path) j ≡ Some store
  pub reads : ReadsAt g (from ∷ path) i elements
  pub writes : WritesAt g (from ∷ path) j written
  pub overlaps : IsTrue (overlap written elements)
  pub exposed : ¬ (IsWrittenBefore g (from ∷ path) i elements)

-- the least store, and the least read of its conflicts
pub record IsFirstConflict (g : Graph) (b : Boundaries) (read store : ℕ) : Type 0 where
  pub is : Conflict g b read store
  pub first : (r s : ℕ) → Conflict g b r s → store ≤ s
  pub least : (r : ℕ) → Conflict g b r store → read ≤ r

-- ---- Refusals

pub record IsFirstAfter (g : Graph) (b : Boundaries) (node : ℕ) : Type 0 where
  pub lacks : LacksAfter g b node
  pub first : AreThereBelow g b node

pub record IsFirstBefore (g : Graph) (b : Boundaries) (node : ℕ) : Type 0 where
  pub lacks : LacksBefore g b node
  pub first : AreThereBelow g b node

-- the first fault is this one; want of memory may come at any time
abbrev pub IsRefusedCut : Graph → Boundaries → CheckError → Type 0
IsRefusedCut g b (error.MissingAfterAcquire node) = IsFirstAfter g b node
IsRefusedCut g b (error.MissingBeforeRelease node) = IsFirstBefore g b node
IsRefusedCut g b (error.Anti read store) = AreThere g b × IsFirstConflict g b read store
IsRefusedCut g b error.Memory = Unit {0}
