-- What a thread has stored is still on its way to be durable, after a step of its own.
use Rattle.crash_simulation.proofs.Common.{◌≡◌, ℕ, List, sym, arith, subst, true, false, refl, suc, ◌<◌, [], length, ◌⊎◌, inl, inr, ◌≤◌, Contains, nat_tests}
use Rattle.crash_simulation.proofs.Common.{PersistsThrough, word_at, Hart, World, Effect, below_or_past, contains_none, Writes, Attempt, attempt_at, Config}
use Rattle.crash_simulation.proofs.Common.{attempt_of, history_at, Memory, IsSince, Execution, memory_in, IsBeforeBoundary, RespectsAll, line_of, CleansSince}
use Rattle.crash_simulation.proofs.Common.{stores_are_cleaned, fences_ahead, is_clean, Code, AbstractRun, kept_of, attempts_of, abstract_next, System, IsSystem}
use Rattle.crash_simulation.proofs.Common.{flat_of, shapes_of, places_of, ThreadGhost, is_reached, is_ahead, IsFlushed, IsComing, HasStored}
use Rattle.crash_simulation.proofs.Common.{Some, last_position, IsWordOf, IsOnItsWay, durable_there, comes_with, recorded_in}
use Rattle.crash_simulation.proofs.Common.{◌∙◌, ap, IsFrameFlushed, IsFrameWord, IsSectioned, Log, frame_word, in_frame}
use Rattle.region_attempts.specs.PendingCleans.{Cleans}
use Rattle.crash_simulation.proofs.StatesMatchSource.{cuts, resumed}
use Rattle.crash_simulation.proofs.Elements.{word_of_element, position_durable}

-- the config with the same kept state, with other steps begun, in other memory
abbrev pub config_with : Config → (pending : List ℕ) → Memory → List Attempt → Config
config_with m pending memory attempts = record { kept = m.kept; uncommitted = pending; memory = memory; attempts = attempts }

-- how that comes about
abbrev pub Leads : (y : System) (b : AbstractRun y) (pending : List ℕ) → Memory → List Attempt → Type 0
Leads y b pending memory attempts = (l : Execution (flat_of y) b.origin.source (config_with b.config pending memory attempts) b.schedule) ×
    RespectsAll (flat_of y) y.plan.boundaries b.origin l

-- a step of a thread's own that keeps none, in its hart and its ghost state: before it, after it, and what is begun and in memory then
pub record Passage (y : System) (code : Code y.plan) : Type 0 where
  pub w : World
  pub b : AbstractRun y
  pub c : ThreadGhost
  pub old : Hart
  pub v : World
  pub pending : List ℕ
  pub memory : Memory
  pub attempts : List Attempt
  pub leads : Leads y b pending memory attempts
  pub new : ThreadGhost
  pub after : Hart

module _ {y : System} {code : Code y.plan} (p : Passage y code) where
  open p use {w, b, c, old, v, pending, memory, attempts, new, after}

  abbrev pub run_after : AbstractRun y
  run_after = abstract_next y b (config_with b.config pending memory attempts) p.leads.0 p.leads.1

  open code.thread use {number}

  abbrev before : ℕ
  before = (attempt_of b.config number).done

  abbrev now : ℕ
  now = (attempt_at attempts number).done

  -- the attempt's steps clean what they did
  pub as_before : (at line : ℕ) → Cleans (attempts_of y run_after) number at line → Cleans (attempts_of y b) number at line
  as_before at line k = grind (arith)

  -- what the step itself cleans is coming
  abbrev pub ComesNow : Type 0
  ComesNow = now ≡ suc before → (line : ℕ) → Cleans (attempts_of y b) number before line →
      (u e position : ℕ) → line_of (shapes_of y) u e ≡ line → IsComing y v new.cleans after u e position

  -- what was coming is so still
  abbrev pub StillComes : Type 0
  StillComes = (u e position : ℕ) → position < length (history_at b.config.memory u e).values → IsComing y w c.cleans old u e position →
      IsComing y v new.cleans after u e position

  abbrev pub Reaches : Type 0
  Reaches = (j position : ℕ) → PersistsThrough w.words old.queue j position → PersistsThrough v.words after.queue j position

  pub reaches_same : v.words ≡ w.words → after.queue ≡ old.queue → Reaches
  reaches_same words queue j position r = grind (arith, nat_tests)

  -- where no cleans are ahead
  no_clean : c.cleans ≡ [] → (clean : Effect) → Contains c.cleans clean → ⊥
  no_clean none clean has = contains_none clean (subst (λ (es : List Effect). Contains es clean) none has)

  pub still_reached : c.cleans ≡ [] → Reaches → StillComes
  still_reached none reach = grind (arith, nat_tests)

  -- then what the attempt has stored before a boundary is durable after a fence
  module _ (s : IsSystem y) (memory_is : memory_in (places_of y) w.words ≡ b.config.memory) (none : c.cleans ≡ [])
      (stands : IsBeforeBoundary (flat_of y) y.plan.boundaries (kept_of y b) b.config number)
      (settles : (j position : ℕ) → PersistsThrough w.words old.queue j position → position ≤ (word_at v.words j).durable) where
    pub fence_settles : (u e : ℕ) (f : IsFlushed y w b code c old u e) → f.position ≤ (history_at (memory_in (places_of y) v.words) u e).durable
    fence_settles u e f =
        let r = resumed y s b in
        by (f.comes (stores_are_cleaned (flat_of y) y.plan.boundaries (shapes_of y) y.left_out b.origin b.config b.schedule number f.before u e
        s.plan.formed (cuts y s b) s.left_out r.resumed.invariant r.resumed.kept (r.inside number) stands f.within f.writes))
      where
        by : IsComing y w c.cleans old u e f.position → f.position ≤ (history_at (memory_in (places_of y) v.words) u e).durable
        by (is_ahead variable element has line) = absurd (no_clean none _ has)
        by (is_reached reached) =
            position_durable y s w.words v.words u e f.position
            (subst (λ (m : Memory). f.position < length (history_at m u e).values) (sym memory_is) f.since.there)
            (settles (word_of_element y s u e) f.position reached)

  module _ (still : StillComes) (u e : ℕ) (since : (p : ℕ) → IsSince (history_at b.config.memory u e) p → IsSince (history_at memory u e) p)
      (f : IsFlushed y w b code c old u e) (fenced : new.committed ≡ false → fences_ahead new.rest < 2 → f.position ≤ (history_at memory u e).durable) where
    abbrev pub flushed_still : before ≤ now → now ≤ suc before → ComesNow → IsFlushed y v run_after code new after u e
    flushed_still grows at_most comes = record {
      before = f.before;
      within = omega (arith, f.within, grows);
      writes = f.writes;
      position = f.position;
      since = since f.position f.since;
      comes = λ cleaned. by cleaned (below_or_past cleaned.last before);
      fenced = fenced;
    }
      where
        by : (cleaned : CleansSince (attempts_of y run_after) number f.before now (line_of (shapes_of y) u e)) →
            (cleaned.last < before) ⊎ (before ≤ cleaned.last) → IsComing y v new.cleans after u e f.position
        by cleaned (inl less) =
            let at_before = as_before cleaned.last (line_of (shapes_of y) u e) cleaned.at in
            still u e f.position f.since.there (f.comes (record { last = cleaned.last; since = cleaned.since; within = less; at = at_before }))
        by cleaned (inr past) =
            let line : ℕ = line_of (shapes_of y) u e in
            let same : cleaned.last ≡ before = omega (arith, cleaned.within, past, at_most) in
            let cleans_it = subst (λ (n : ℕ). Cleans (attempts_of y b) number n line) same (as_before cleaned.last line cleaned.at) in
            comes (omega (arith, cleaned.within, past, at_most)) line cleans_it u e f.position refl

  -- one where the attempt is as long as it was
  module _ (still : StillComes) (since : (u e q : ℕ) → IsSince (history_at b.config.memory u e) q → IsSince (history_at memory u e) q)
      (fenced : (u e : ℕ) (f : IsFlushed y w b code c old u e) → new.committed ≡ false → fences_ahead new.rest < 2 →
      f.position ≤ (history_at memory u e).durable) (same : now ≡ before) where
    abbrev flushed_same : (u e : ℕ) → IsFlushed y w b code c old u e → IsFlushed y v run_after code new after u e
    flushed_same u e f =
        flushed_still still u e (since u e) f (fenced u e f) (omega (arith, same)) (omega (arith, same)) (λ longer. absurd (omega (arith, longer, same)))

  -- what is durable stays so
  abbrev pub StaysDurable : Type 0
  StaysDurable = (j position : ℕ) → position ≤ (word_at w.words j).durable → position ≤ (word_at v.words j).durable

  -- what is last then was last before, or is on its way
  abbrev pub LastsAre : Type 0
  LastsAre = (word position : ℕ) → new.last_stores word ≡ Some position →
      (c.last_stores word ≡ Some position) ⊎ IsOnItsWay y v run_after code new after word position

  -- what was stored for its record is so still, or durable
  abbrev pub RecordsStay : Type 0
  RecordsStay = (word position : ℕ) → IsWordOf w.log number c.new word → position ≤ last_position (word_at w.words word) →
      IsOnItsWay y v run_after code new after word position

  -- what was stored into a word of its frame is so still
  abbrev pub FramesStay : Type 0
  FramesStay = (own word position : ℕ) → IsFrameWord w.log own → frame_word w.log number own ≡ word → position ≤ last_position (word_at w.words word) →
      IsOnItsWay y v run_after code new after word position

  -- in a section its frame is on its way
  abbrev pub FrameFlushes : Type 0
  FrameFlushes = IsSectioned new → (word : ℕ) → IsFrameWord v.log word → IsFrameFlushed y v run_after code new after word

  pub frames_stay : v.log ≡ w.log → ((j position : ℕ) → position ≤ last_position (word_at w.words j) → position ≤ last_position (word_at v.words j)) →
      FramesStay
  frames_stay log longer own word position framed at low =
      in_frame own (subst (λ (l : Log). IsFrameWord l own) (sym log) framed) (ap (λ (l : Log). frame_word l number own) log ∙ at)
      (longer word position low)

  -- all that it has stored, where the attempt is as long as it was
  pub stored_same : ((effect : Effect) → Contains new.cleans effect → is_clean effect ≡ true) → StillComes →
      ((u e q : ℕ) → IsSince (history_at b.config.memory u e) q → IsSince (history_at memory u e) q) →
      ((u e : ℕ) (f : IsFlushed y w b code c old u e) → new.committed ≡ false → fences_ahead new.rest < 2 →
      f.position ≤ (history_at memory u e).durable) → now ≡ before → StaysDurable → LastsAre → RecordsStay → FramesStay → FrameFlushes →
      HasStored y w b code c old → HasStored y v run_after code new after
  stored_same clean still since fenced same durable lasts records frames frame stored = record {
    cleans = clean;
    flushed = λ u e writes. flushed_same still since fenced same u e (stored.flushed u e (subst (λ (k : ℕ). Writes b.config.kept number k u e) same writes));
    last = λ word position is. elim (lasts word position is) [
      | inl was ↦ elim (stored.last word position was) [
        | durable_there low ↦ durable_there (durable word position low)
        | comes_with u e f at low ↦ comes_with u e (flushed_same still since fenced same u e f) at low
        | recorded_in among low ↦ records word position among low
        | in_frame own framed at low ↦ frames own word position framed at low
      ]
      | inr own ↦ own
    ];
    frame = frame;
  }
