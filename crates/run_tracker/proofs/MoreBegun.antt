-- Several steps of the source that a hart begins.
use Rattle.std.proofs.Common.{◌≡◌, ◌≢◌, ℕ, zero, suc, ◌+◌, ◌<◌, ◌≤◌, List, [], ◌∷◌, ◌++◌, length, drop, replicate, slice_set, None}
use Rattle.std.proofs.Common.{true, false, refl, ap, sym, subst, ◌∙◌, arith, append-nil, append_assoc}
use Rattle.log_schemes.specs.declared.log.Log.{Log}
use Rattle.ido_base.specs.Words.{Word}
use Rattle.machine_model.specs.Schedule.{PendingStep, Steps}
use Rattle.run_tracker.specs.declared.account.PointStore.{PointStore}
use Rattle.run_tracker.specs.declared.account.OpenSteps.{OpenSteps}
use Rattle.run_tracker.specs.declared.account.Account.{Account}
use Rattle.run_tracker.specs.links.AccountRepresentation.{AccountInv, AllBindSome, AreOpen, AreOrdered, all_kept, bound_in, each_step}
use Rattle.run_tracker.specs.links.AccountRepresentation.{open_at, own_steps, step_at, steps_of, weight}
use Rattle.run_tracker.specs.links.LocalRepresentation.{with_more_begun}
use Rattle.run_tracker.proofs.AccountUpdates.{updated}
use Rattle.run_tracker.proofs.OwnSteps.{each_begun, each_total, fewer, of_hart, other_push, own_push}
use Rattle.run_tracker.proofs.StepOrder.{ordered-begun}
use Rattle.run_tracker.proofs.StepTotals.{weight-begun}
use Rattle.run_tracker.proofs.StepsStayOpen.{open-noted}

kept-more : (h count : ℕ) (s : Steps) → all_kept (with_more_begun h count s) ≡ all_kept s
kept-more h zero s = refl
kept-more h (suc count) s = kept-more h count s

pub earlier-more : (h count : ℕ) (s : Steps) → (with_more_begun h count s).earlier ≡ s.earlier
earlier-more h zero s = refl
earlier-more h (suc count) s = earlier-more h count s

-- the hart's steps are more, and no other hart's
own-more : (h count : ℕ) (s : Steps) → own_steps h (with_more_begun h count s).pending ≡ own_steps h s.pending ++ replicate count (step_at h None)
own-more h zero s = sym (append-nil (own_steps h s.pending))
own-more h (suc count) s =
    let own = own_steps h s.pending in
    own_push h None (with_more_begun h count s).pending
    ∙ ap (λ (xs : List PendingStep). xs ++ step_at h None ∷ []) (own-more h count s)
    ∙ append_assoc own (replicate count (step_at h None)) (step_at h None ∷ [])
    ∙ ap (λ (xs : List PendingStep). own ++ xs) (one_more count)
  where
    one_more : (n : ℕ) → replicate n (step_at h None) ++ step_at h None ∷ [] ≡ replicate (suc n) (step_at h None)
    one_more zero = refl
    one_more (suc n) = ap (λ (xs : List PendingStep). step_at h None ∷ xs) (one_more n)

other-more : (h count g : ℕ) (s : Steps) → g ≢ h → own_steps g (with_more_begun h count s).pending ≡ own_steps g s.pending
other-more h zero g s other = refl
other-more h (suc count) g s other = other_push h g None (with_more_begun h count s).pending other ∙ other-more h count g s other

pub weight-more : (h count : ℕ) (s : Steps) → weight (with_more_begun h count s) ≡ weight s + count
weight-more h zero s = omega arith
weight-more h (suc count) s = omega (arith, weight-begun h (with_more_begun h count s), weight-more h count s)

pub ordered-more : (log : Log) (words : List Word) (h count : ℕ) (s : Steps) → AreOrdered log words s → AreOrdered log words (with_more_begun h count s)
ordered-more log words h zero s ordered = ordered
ordered-more log words h (suc count) s ordered = ordered-begun log words h (with_more_begun h count s) (ordered-more log words h count s ordered)

pub open-more : (harts : ℕ) (log : Log) (words : List Word) (h count : ℕ) (s : Steps) → AreOpen harts log words s →
    AreOpen harts log words (with_more_begun h count s)
open-more harts log words h zero s is_open = is_open
open-more harts log words h (suc count) s is_open =
    open-noted harts log words words true false h 0 (with_more_begun h count s) (λ e. cc) (λ j. refl) (open-more harts log words h count s is_open)

-- an account in which only the hart's free steps are more
pub more-stands : (before after : Account) (s : Steps) (h count : ℕ) → AccountInv before s → h < length before.harts.items →
    after.kept.items ≡ before.kept.items → after.stores.items ≡ before.stores.items →
    after.harts.items ≡ slice_set before.harts.items h (record (open_at before h) { free = (open_at before h).free + count }) →
    AccountInv after (with_more_begun h count s)
more-stands before after s h count stands within kept stores parts =
    let was : OpenSteps = open_at before h in
    let part : OpenSteps = record was { free = was.free + count } in
    let is : own_steps h (with_more_begun h count s).pending ≡ each_step h (steps_of after.stores.items h part) =
    own-more h count s ∙ ap (λ (xs : List PendingStep). xs ++ replicate count (step_at h None)) (stands.each h within)
    ∙ each_begun h count (steps_of before.stores.items h was)
    ∙ ap (λ (xs : List PointStore). each_step h (steps_of xs h part)) (sym stores) in
    updated before after s (with_more_begun h count s) h part stands within (kept-more h count s ∙ stands.kept ∙ sym kept)
    parts is (subst (λ (xs : List PointStore). AllBindSome (bound_in (drop was.first xs) h)) (sym stores) (stands.some h within))
    (subst (λ (xs : List PointStore). was.first ≤ length xs) (sym stores) (stands.within h within)) (omega (arith, ap length stores))
    (λ g ne. other-more h count g s ne)
    (λ g ne below. ap (λ (xs : List PointStore). steps_of xs g (open_at before g)) stores)

-- no more of a hart are free than there are steps
pub free_few : (account : Account) (s : Steps) (h : ℕ) → AccountInv account s → h < length account.harts.items → (open_at account h).free ≤ weight s
free_few account s h stands within =
    omega (
      arith,
      ap length (stands.each h within),
      each_total h (steps_of account.stores.items h (open_at account h)),
      fewer (of_hart h) s.pending,
    )
