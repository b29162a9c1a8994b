-- Where a boundary begins in a section, the words of the frame on which its record counts are queued.
use Rattle.crash_simulation.proofs.Common.{◌⊎◌, ⊎_elim, true, ◌≡◌, ◌≢◌, ℕ, List, [], ◌++◌, sym, ◌∙◌, subst, inl, Contains, PersistsThrough, last_position}
use Rattle.crash_simulation.proofs.Common.{live_value, Log, World, Effect, Cleans, Boundary, Site, System, IsSystem, FrameIsComing, HasView, IsFrameComing}
use Rattle.crash_simulation.proofs.Common.{IsFrameWord, IsSectioned, LogView, contains_none, frame_ahead, frame_at, frame_in, frame_reached, frame_word}
use Rattle.crash_simulation.proofs.Common.{words_in, ◌∷◌, ◌/◌, ◌*◌, ◌+◌, ◌%◌, ◌^◌, ◌<◌, suc, zero, refl, arith, boundary_effects, map, is_empty}
use Rattle.crash_simulation.proofs.Common.{if◌then◌else◌, Contains-append_left, Contains-append_right, ◌≤◌, ap, Bool, false, Stores, cleans_in, few_cleans}
use Rattle.crash_simulation.proofs.Common.{length, read, seen_effects}
use Rattle.boundary_code.specs.Boundaries.{bank_effects, commit_effects, frame_lines, frame_lines_at, lines_in_use, other_side, pairs_kept, slots_kept}
use Rattle.log_schemes.specs.Layout.{slot_at}
use Rattle.log_schemes.specs.Schemes.{locals_of, register_slot}
use Rattle.log_schemes.specs.declared.locals.Locals.{Locals}
use Rattle.log_schemes.specs.declared.locals.Locals.TheVariants.{Registers}
use Rattle.log_schemes.specs.declared.locals.Locals.TheVariants.{Frame}
use Rattle.log_states.specs.Laws.{IsCleaned, IsQueued}
use Rattle.crash_simulation.proofs.OwnHartSteps.{view}

module _ {y : System} {s : IsSystem y} {w : World} {h : ℕ} (site : Site y s w h) where
  open view site use {b, code, c, t, n}

  pub frame_queued : c.cleans ++ c.rest ≡ [] → IsSectioned c → (word : ℕ) → IsFrameWord w.log word →
      PersistsThrough w.words t.log.hart.queue (frame_word w.log n word) (last_position (frame_in w.log w.words n word))
  frame_queued none sectioned word framed = by (t.stored.frame sectioned word framed).comes
    where
      by : IsFrameComing y w b code c t.log.hart word →
          PersistsThrough w.words t.log.hart.queue (frame_word w.log n word) (last_position (frame_in w.log w.words n word))
      by (frame_reached r) = r
      by (frame_ahead other has line) = absurd (contains_none _ (subst (λ (es : List Effect). Contains es (Cleans (frame_at w.log n other))) none has))

  pub frame_comes : (boundary : Boundary) → boundary.log ≡ y.plan.log → boundary.thread ≡ n → (framed : List ℕ) (old : LogView) → HasView w n old →
      ((word : ℕ) → Contains framed word → IsFrameWord y.plan.log word) → c.cleans ++ c.rest ≡ [] →
      (boundary.locks ≢ [] → (boundary.opens ≡ true) ⊎ (c.new.point ≢ 0)) →
      FrameIsComing boundary framed (words_in y.plan.log n old) w.words t.log.hart.queue
  frame_comes boundary log thread framed old has exist none some locked word among =
      let logs = site.stands.machine.log in
      let is : IsFrameWord w.log word = subst (λ (l : Log). IsFrameWord l word) logs (exist word among) in
      let live : live_value (frame_in boundary.log w.words boundary.thread word) ≡ words_in y.plan.log n old word =
      coe 0 1 (i. live_value (frame_in ((sym log) i) w.words ((sym thread) i) word) ≡ words_in y.plan.log n old word)
      (subst (λ (l : Log). live_value (frame_in l w.words n word) ≡ words_in l n old word) (sym logs) (has word is)) in
      let queued : c.new.point ≢ 0 → PersistsThrough w.words t.log.hart.queue (frame_word boundary.log boundary.thread word)
      (last_position (frame_in boundary.log w.words boundary.thread word)) =
      λ inside. coe 0 1 (i. PersistsThrough w.words t.log.hart.queue (frame_word ((sym (log ∙ logs)) i) ((sym thread) i) word)
      (last_position (frame_in ((sym (log ∙ logs)) i) w.words ((sym thread) i) word))) (frame_queued none (inl inside) word is) in
      record {
        in_frame = subst (λ (l : Log). IsFrameWord l word) (sym log) (exist word among);
        comes = ⊎_elim (λ opens. IsCleaned live opens) (λ inside. IsQueued live (queued inside)) (some locked);
      }

-- ---- A boundary that opens a section

-- the clean of a line
abbrev clean_of : Log → (thread line : ℕ) → Effect
clean_of log thread line = Cleans (frame_at log thread (8 * line))

line_cleaned : (log : Log) (thread line : ℕ) → line < 3 → Contains (map (clean_of log thread) (frame_lines_at Frame true)) (clean_of log thread line)
line_cleaned log thread zero l = (0, omega arith, refl)
line_cleaned log thread (suc zero) l = (1, omega arith, refl)
line_cleaned log thread (suc (suc zero)) l = (2, omega arith, refl)
line_cleaned log thread (suc (suc (suc line))) l = absurd (omega (arith, l))

-- it cleans each line of the frame
pub opening_cleans : (b : Boundary) (side resume : ℕ) (x : List ℕ) (word : ℕ) → b.opens ≡ true → IsFrameWord b.log word → b.locks ≢ [] →
    Contains (boundary_effects b side resume x) (Cleans (frame_at b.log b.thread (8 * (word / 8))))
opening_cleans b side resume x word opens is locked =
    let less = is.exists in
    let line : Contains (map (clean_of b.log b.thread) (frame_lines b.log b.opens)) (clean_of b.log b.thread (word / 8)) =
    coe 0 1 (i. Contains (map (clean_of b.log b.thread) (frame_lines_at ((sym is.frame) i) ((sym opens) i))) (clean_of b.log b.thread (word / 8)))
    (line_cleaned b.log b.thread (word / 8) (omega (arith, less))) in
    by b.locks refl
    (Contains-append_left (bank_effects b (other_side side) x) (commit_effects b.log b.thread ((resume + other_side side) % 2 ^ 64)) _
    (Contains-append_right _ (map (clean_of b.log b.thread) (frame_lines b.log b.opens)) _ line))
  where
    by : (locks : List ℕ) → b.locks ≡ locks →
        Contains (bank_effects b (other_side side) x ++ commit_effects b.log b.thread ((resume + other_side side) % 2 ^ 64))
        (clean_of b.log b.thread (word / 8)) →
        Contains (boundary_effects b side resume x) (clean_of b.log b.thread (word / 8))
    by [] none has = absurd (locked none)
    by (lock ∷ locks) some has =
        subst (λ (ls : List ℕ). Contains (if is_empty ls then commit_effects b.log b.thread 0
        else bank_effects b (other_side side) x ++ commit_effects b.log b.thread ((resume + other_side side) % 2 ^ 64)) (clean_of b.log b.thread (word / 8)))
        (sym some) has

-- ---- How many cleans a boundary has

-- with these lines of the frame
abbrev effects_with : Boundary → (side resume : ℕ) → (x : List ℕ) → (lines : List ℕ) → List Effect
effects_with b side resume x lines =
    if is_empty b.locks then commit_effects b.log b.thread 0
    else (map (λ (kept : ℕ × ℕ). Stores (slot_at b.log b.thread (other_side side) kept.0) 8 kept.1) (pairs_kept b.log b.locks b.written) ++
    map (λ (r : ℕ). Stores (slot_at b.log b.thread (other_side side) (register_slot b.log r)) 8 (read x r)) b.live ++
    map (λ (line : ℕ). Cleans (slot_at b.log b.thread (other_side side) (8 * line))) (lines_in_use b.log (slots_kept b.log b.locks b.written b.live)) ++
    map (λ (line : ℕ). Cleans (frame_at b.log b.thread (8 * line))) lines) ++ commit_effects b.log b.thread ((resume + other_side side) % 2 ^ 64)

-- seven, and one for each line of a frame
pub boundary_cleans : (b : Boundary) (side resume : ℕ) (x : List ℕ) →
    cleans_in (seen_effects (boundary_effects b side resume x)) ≤ 7 + length (frame_lines b.log true)
boundary_cleans b side resume x = by (locals_of b.log) refl
  where
    at_most : (opens : Bool) → (if opens then 3 else 0) ≤ 3
    at_most true = omega arith
    at_most false = omega arith

    by : (l : Locals) → locals_of b.log ≡ l → cleans_in (seen_effects (boundary_effects b side resume x)) ≤ 7 + length (frame_lines b.log true)
    by Registers none =
        let same : frame_lines b.log b.opens ≡ frame_lines b.log false =
        ap (λ (l : Locals). frame_lines_at l b.opens) none ∙ sym (ap (λ (l : Locals). frame_lines_at l false) none) in
        let effects : boundary_effects b side resume x ≡ boundary_effects (record b { opens = false }) side resume x =
        ap (effects_with b side resume x) same in
        let few = few_cleans (record b { opens = false }) side resume x in
        let count : cleans_in (seen_effects (boundary_effects b side resume x))
        ≡ cleans_in (seen_effects (boundary_effects (record b { opens = false }) side resume x)) =
        ap (λ (es : List Effect). cleans_in (seen_effects es)) effects in
        omega (arith, few, count)
    by Frame framed =
        let three : length (frame_lines b.log true) ≡ 3 = ap (λ (l : Locals). length (frame_lines_at l true)) framed in
        omega (arith, few_cleans b side resume x, three, at_most b.opens)
