-- Where no pending steps are durable none are kept, and after each event none are.
use Rattle.std.proofs.Common.{◌≡◌, ◌⊎◌, ℕ, zero, suc, ◌<◌, ◌≤◌, List, [], ◌∷◌, ◌++◌, length, map, filter, Some, None}
use Rattle.std.specs.Prelude.{if◌then◌else◌, is_none}
use Rattle.std.proofs.Common.{Bool, true, false, not, nat_le, ◌==◌, ◌&&◌, inl, inr, refl, ap, sym, subst, ◌∙◌, arith}
use Rattle.std.proofs.lemmas.Bool.{and_parts, cases_eq, eqb-true, leb-true, ne_eqb}
use Rattle.std.proofs.lemmas.List.{append-nil}
use Rattle.machine_model.specs.Frames.{IsWellFormedWorld}
use Rattle.machine_model.proofs.Public.{outcome_of, log_stays}
use Rattle.log_schemes.specs.declared.log.Log.{Log}
use Rattle.machine_events.specs.declared.event.Event.{Event}
use Rattle.machine_events.specs.declared.event.Event.TheVariants.{Step, Evict, Crash, Start}
use Rattle.ido_base.specs.Words.{Word, word_at}
use Rattle.rv64_isa.specs.declared.object.Slot.{Slot}
use Rattle.machine_model.specs.Machine.{World, after_event, can_start, happens}
use Rattle.machine_model.specs.Schedule.{PendingStep, Steps, harts_of, is_durable, next_life, steps_after, then_stored, with_all_kept, with_kept}
use Rattle.machine_model.specs.Schedule.{with_step}
use Rattle.run_tracker.specs.links.AccountRepresentation.{AreOpen, IsNoneDurable, point_word, step_at}
use Rattle.run_tracker.proofs.DurableWordsStay.{SameDurable}
use Rattle.run_tracker.proofs.Events.{begun_if, noted}
use Rattle.run_tracker.proofs.OwnSteps.{filter_no, left}

-- ---- Nothing is kept

module _ (h d : ℕ) where
  none_durable : (xs : List PendingStep) → IsNoneDurable h d xs → filter (is_durable h d) xs ≡ []
  none_durable [] none = refl
  none_durable (x ∷ xs) none = filter_no (is_durable h d) x xs none.0 ∙ none_durable xs none.1

  all_left : (xs : List PendingStep) → IsNoneDurable h d xs → filter (left h d) xs ≡ xs
  all_left [] none = refl
  all_left (x ∷ xs) none =
      ap (λ (b : Bool). if not b then x ∷ filter (left h d) xs else filter (left h d) xs) none.0
      ∙ ap (λ (ys : List PendingStep). x ∷ ys) (all_left xs none.1)

  -- among some of the steps none is durable either
  some_of : (test : PendingStep → Bool) (xs : List PendingStep) → IsNoneDurable h d xs → IsNoneDurable h d (filter test xs)
  some_of test [] none = tt
  some_of test (x ∷ xs) none = by (test x) (some_of test xs none.1)
    where
      by : (b : Bool) → IsNoneDurable h d (filter test xs) → IsNoneDurable h d (if b then x ∷ filter test xs else filter test xs)
      by true rest = (none.0, rest)
      by false rest = rest

  -- what is durable is no longer there once it is kept
  none_left : (xs : List PendingStep) → IsNoneDurable h d (filter (left h d) xs)
  none_left [] = tt
  none_left (x ∷ xs) = by (is_durable h d x) refl (none_left xs)
    where
      by : (b : Bool) → is_durable h d x ≡ b → IsNoneDurable h d (filter (left h d) xs) →
          IsNoneDurable h d (if not b then x ∷ filter (left h d) xs else filter (left h d) xs)
      by true is rest = rest
      by false is rest = (is, rest)

pub kept_none : (log : Log) (words : List Word) (h : ℕ) (s : Steps) → IsNoneDurable h (word_at words (point_word log h)).durable s.pending →
    with_kept log words h s ≡ s
kept_none log words h s none =
    let d = (word_at words (point_word log h)).durable in
    let kept : s.kept ++ harts_of (filter (is_durable h d) s.pending) ≡ s.kept =
    ap (λ (xs : List PendingStep). s.kept ++ harts_of xs) (none_durable h d s.pending none) ∙ append-nil s.kept in
    let pending : filter (left h d) s.pending ≡ s.pending = all_left h d s.pending none in
    λ i. record { begun = s.begun; earlier = s.earlier; kept = kept i; pending = pending i }

pub all_kept_none : (harts : ℕ) (log : Log) (words : List Word) (n : ℕ) (s : Steps) → n ≤ harts → AreOpen harts log words s → with_all_kept log words n s ≡ s
all_kept_none harts log words zero s within is_open = refl
all_kept_none harts log words (suc n) s within is_open =
    ap (with_kept log words n) (all_kept_none harts log words n s (omega (arith, within)) is_open) ∙ kept_none log words n s (is_open n (omega (arith, within)))

-- what is kept of some harts makes none durable
pub still_none : (log : Log) (words : List Word) (n : ℕ) (s : Steps) (h d : ℕ) → IsNoneDurable h d s.pending →
    IsNoneDurable h d (with_all_kept log words n s).pending
still_none log words zero s h d none = none
still_none log words (suc n) s h d none = some_of h d _ (with_all_kept log words n s).pending (still_none log words n s h d none)

-- ---- What is kept is no longer pending

open-kept : (log : Log) (words : List Word) (n : ℕ) (s : Steps) → AreOpen n log words (with_all_kept log words n s)
open-kept log words zero s h below = absurd (omega (arith, below))
open-kept log words (suc n) s h below = by (cases_eq h n) (λ less. open-kept log words n s h less)
  where
    before : Steps
    before = with_all_kept log words n s

    IsOpen : ℕ → Type 0
    IsOpen k = IsNoneDurable k (word_at words (point_word log k)).durable (with_kept log words n before).pending

    by : (h ≡ n) ⊎ (h ≡ n → ⊥) → (h < n → IsNoneDurable h (word_at words (point_word log h)).durable before.pending) → IsOpen h
    by (inl same) rest = subst IsOpen (sym same) (none_left n (word_at words (point_word log n)).durable before.pending)
    by (inr other) rest = some_of h (word_at words (point_word log h)).durable _ before.pending (rest (omega (arith, below, other)))

pub open-after : (marks : List (List ℕ)) (program : List (List Slot)) (w : World) (event : Event) (s : Steps) → IsWellFormedWorld w →
    AreOpen (length program) w.log w.words s →
    AreOpen (length program) (after_event program w event).log (after_event program w event).words (steps_after marks program w event s)
unfolding steps_after happens
open-after marks program w (Step h) s sound is_open =
    subst (λ (l : Log). AreOpen (length program) l (after_event program w (Step h)).words (steps_after marks program w (Step h) s))
    (sym (log_stays program w (Step h) sound))
    (open-kept w.log (after_event program w (Step h)).words (length program) (with_step marks program w h s))
open-after marks program w (Evict line mask) s sound is_open =
    subst (λ (l : Log). AreOpen (length program) l (after_event program w (Evict line mask)).words (steps_after marks program w (Evict line mask) s))
    (sym (log_stays program w (Evict line mask) sound)) (open-kept w.log (after_event program w (Evict line mask)).words (length program) s)
open-after marks program w Crash s sound is_open = λ h below. tt
open-after marks program w Start s sound is_open = by (can_start w)
  where
    by : (may : Bool) → AreOpen (length program) (outcome_of program w may).0.log (outcome_of program w may).0.words (if may then next_life s else s)
    by true = λ h below. tt
    by false = is_open

-- ---- A step that writes nothing back

and_none : (b : Bool) → (b && false) ≡ false
and_none true = refl
and_none false = refl

none_push : (g d h : ℕ) (xs : List PendingStep) → IsNoneDurable g d xs → IsNoneDurable g d (xs ++ step_at h None ∷ [])
none_push g d h [] none = (and_none (h == g), tt)
none_push g d h (x ∷ xs) none = (none.0, none_push g d h xs none.1)

module _ (g d h position : ℕ) (above : g ≡ h → d < position) where
  -- what the hart stores is past what is durable
  late : (n : ℕ) → n ≡ h → is_durable g d (step_at n (Some position)) ≡ false
  late n own = by (cases_eq g h)
    where
      by_test : (b : Bool) → nat_le position d ≡ b → d < position → ((n == g) && b) ≡ false
      by_test true le high = absurd (omega (arith, leb-true position d le, high))
      by_test false le high = and_none (n == g)

      by : (g ≡ h) ⊎ (g ≡ h → ⊥) → is_durable g d (step_at n (Some position)) ≡ false
      by (inl same) = by_test (nat_le position d) refl (above same)
      by (inr other) = ap (λ (b : Bool). b && nat_le position d) (ne_eqb n g (λ e. other (sym e ∙ own)))

  none_then : (x : PendingStep) → is_durable g d x ≡ false → is_durable g d (then_stored h position x) ≡ false
  none_then x none = by ((x.hart == h) && is_none x.stored) refl
    where
      by : (b : Bool) → ((x.hart == h) && is_none x.stored) ≡ b → is_durable g d (if b then record x { stored = Some position } else x) ≡ false
      by true is = late x.hart (eqb-true x.hart h (and_parts (x.hart == h) (is_none x.stored) is).0)
      by false is = none

  none_stored : (xs : List PendingStep) → IsNoneDurable g d xs → IsNoneDurable g d (map (then_stored h position) xs)
  none_stored [] none = tt
  none_stored (x ∷ xs) none = (none_then x none.0, none_stored xs none.1)

-- what it stores stands at a position that isn't durable
pub open-noted : (harts : ℕ) (log : Log) (words now : List Word) (mark point : Bool) (h position : ℕ) (s : Steps) →
    (point ≡ true → (word_at now (point_word log h)).durable < position) →
    SameDurable words now → AreOpen harts log words s → AreOpen harts log now (noted mark point h position s)
open-noted harts log words now mark point h position s above same is_open = by_point point above
  where
    still : AreOpen harts log now s
    still g below = subst (λ (d : ℕ). IsNoneDurable g d s.pending) (sym (same (point_word log g))) (is_open g below)

    by_mark : (m : Bool) → AreOpen harts log now (begun_if m h s)
    by_mark true = λ g below. none_push g (word_at now (point_word log g)).durable h s.pending (still g below)
    by_mark false = still

    by_point : (p : Bool) → (p ≡ true → (word_at now (point_word log h)).durable < position) → AreOpen harts log now (noted mark p h position s)
    by_point true above = λ g below.
        none_stored g (word_at now (point_word log g)).durable h position
        (λ e. subst (λ (k : ℕ). (word_at now (point_word log k)).durable < position) (sym e) (above refl)) (begun_if mark h s).pending (by_mark mark g below)
    by_point false above = by_mark mark
