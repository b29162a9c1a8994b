-- At every moment the fences that a boundary has ahead, and those that are due for its point, differ by one at most.
use Rattle.std.proofs.Common.{◌≡◌, refl, ℕ, ◌+◌, ◌≤◌, List, [], ◌∷◌, ◌++◌, map, Bool, true, false, ◌||◌, if◌then◌else◌, ap, ◌∙◌, arith}
use Rattle.std.specs.List.{list_any}
use Rattle.log_schemes.specs.declared.log.Log.{Log}
use Rattle.rv64_isa.specs.Rows.{Effect}
use Rattle.boundary_code.specs.Boundaries.{commit_effects}
use Rattle.log_states.specs.Logs.{Record}
use Rattle.log_states.specs.Stages.{LogConfig, LogIs, Stage, Writing, Written, Pointed, PointQueued, Over, stores_of, cleans_of, frame_cleans}
use Rattle.log_states.specs.Stages.{is_store, fences_ahead}
use Rattle.crash_simulation.specs.BoundaryFences.{boundary_fences, fences_due}

-- what is ahead and what is due
abbrev pub AreWithinOne : (fences : ℕ) → List Effect → Type 0
AreWithinOne fences rest = (fences_ahead rest ≤ fences_due fences rest + 1) × (fences_due fences rest ≤ fences_ahead rest + 1)

-- ---- Lists of effects

ahead_append : (one more : List Effect) → fences_ahead (one ++ more) ≡ fences_ahead one + fences_ahead more
ahead_append [] more = omega arith
ahead_append (e ∷ es) more = let rest = ahead_append es more in omega (arith, rest)

none_ahead : {A : Type 0} (f : A → Effect) → ((a : A) → fences_ahead (f a ∷ []) ≡ 0) → (xs : List A) → fences_ahead (map f xs) ≡ 0
none_ahead f none [] = refl
none_ahead f none (x ∷ xs) = let rest = none_ahead f none xs in omega (arith, rest, none x)

or_true : (b : Bool) → (b || true) ≡ true
or_true true = refl
or_true false = refl

some_store : (one more : List Effect) → list_any is_store more ≡ true → list_any is_store (one ++ more) ≡ true
some_store [] more some = some
some_store (e ∷ es) more some = ap (λ (b : Bool). is_store e || b) (some_store es more some) ∙ or_true (is_store e)

-- ---- A boundary on its way

module _ (log : Log) (thread : ℕ) (old new : Record) (m : LogConfig) where
  -- with stores and cleans before it
  abbrev before : (slots lines framing : List ℕ) → List Effect
  before slots lines framing = stores_of log thread new slots ++ cleans_of log thread new lines ++ frame_cleans log thread framing

  abbrev whole : (slots lines framing : List ℕ) → List Effect
  whole slots lines framing = before slots lines framing ++ commit_effects log thread new.point

  whole_ahead : (slots lines framing : List ℕ) → fences_ahead (whole slots lines framing) ≡ 2
  whole_ahead slots lines framing =
      let stores : fences_ahead (stores_of log thread new slots) ≡ 0 = none_ahead _ (λ slot. refl) slots in
      let cleans : fences_ahead (cleans_of log thread new lines) ≡ 0 = none_ahead _ (λ line. refl) lines in
      let frames : fences_ahead (frame_cleans log thread framing) ≡ 0 = none_ahead _ (λ line. refl) framing in
      let commit : fences_ahead (commit_effects log thread new.point) ≡ 2 = refl in
      let all = ahead_append (before slots lines framing) (commit_effects log thread new.point) in
      let both = ahead_append (stores_of log thread new slots ++ cleans_of log thread new lines) (frame_cleans log thread framing) in
      let first = ahead_append (stores_of log thread new slots) (cleans_of log thread new lines) in
      omega (arith, stores, cleans, frames, commit, all, both, first)

  whole_due : (slots lines framing : List ℕ) → fences_due (boundary_fences log) (whole slots lines framing) ≡ 2
  whole_due slots lines framing =
      ap (λ (b : Bool). if b then boundary_fences log else 0) (some_store (before slots lines framing) (commit_effects log thread new.point) refl)

  by_stage : Stage log thread old new m → AreWithinOne (boundary_fences log) m.rest
  by_stage (Writing slots lines framing w recorded) =
      let ahead : fences_ahead m.rest ≡ 2 = ap fences_ahead w.rest ∙ whole_ahead slots lines framing in
      let due : fences_due (boundary_fences log) m.rest ≡ 2 = ap (fences_due (boundary_fences log)) w.rest ∙ whole_due slots lines framing in
      (omega (arith, ahead, due), omega (arith, ahead, due))
  by_stage (Written rest recorded bank frame) =
      let ahead : fences_ahead m.rest ≡ 1 = ap fences_ahead rest in
      let due : fences_due (boundary_fences log) m.rest ≡ 2 = ap (fences_due (boundary_fences log)) rest in
      (omega (arith, ahead, due), omega (arith, ahead, due))
  by_stage (Pointed rest pointed) =
      let ahead : fences_ahead m.rest ≡ 1 = ap fences_ahead rest in
      let due : fences_due (boundary_fences log) m.rest ≡ 0 = ap (fences_due (boundary_fences log)) rest in
      (omega (arith, ahead, due), omega (arith, ahead, due))
  by_stage (PointQueued rest pointed queued) =
      let ahead : fences_ahead m.rest ≡ 1 = ap fences_ahead rest in
      let due : fences_due (boundary_fences log) m.rest ≡ 0 = ap (fences_due (boundary_fences log)) rest in
      (omega (arith, ahead, due), omega (arith, ahead, due))
  by_stage (Over rest recorded) =
      let ahead : fences_ahead m.rest ≡ 0 = ap fences_ahead rest in
      let due : fences_due (boundary_fences log) m.rest ≡ 0 = ap (fences_due (boundary_fences log)) rest in
      (omega (arith, ahead, due), omega (arith, ahead, due))

  pub within_one : LogIs log thread old new m → AreWithinOne (boundary_fences log) m.rest
  within_one l = by_stage l.stage
