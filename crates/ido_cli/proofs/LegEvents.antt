-- Events of a leg: how many there are, and of which kinds.
use Rattle.std.proofs.Common.{◌≡◌, ◌≢◌, refl, ℕ, ◌+◌, ◌≤◌, List, [], ◌∷◌, ◌++◌, length, Bool, true, false, cond, sym, ap, ap₂, ◌∙◌, arith}
use Rattle.std.proofs.Common.{length-append, append_assoc, ◌==◌, Some, None}
use Rattle.std.specs.Prelude.{count_by, if◌then◌else◌}
use Rattle.std.proofs.lemmas.Bool.{eq-eqb, ne_eqb}
use Rattle.std.proofs.lemmas.List.Sums.{sum_by-cons}
use Rattle.machine_events.specs.declared.event.Event.{Event}
use Rattle.machine_events.specs.declared.event.Event.TheVariants.{Step, Evict, Crash, Start}
use Rattle.hart_driver.specs.declared.stop.Stop.TheVariants.{Ended, Turns, Moment}
use Rattle.hart_driver.specs.Legs.{Leg, AreTurns, IsTurn, has_ended, is_event_of, made, stop_of}
use Rattle.machine_model.specs.Schedule.{HaveNoStart}
use Rattle.ido_cli.specs.ThreadedRuns.{is_crash, is_eviction}

count_more : (p : Event → Bool) (x : Event) (xs : List Event) → count_by p (x ∷ xs) ≡ cond (p x) 1 0 + count_by p xs
count_more p x xs = sum_by-cons (λ (e : Event). cond (p e) 1 0) x xs

-- why a worker may go on
no_moment : (ended turns moment : Bool) → (if ended then Some Ended else (if turns then Some Turns else (if moment then Some Moment else None))) ≡ None →
    moment ≡ false
no_moment true turns moment none = absurd (cc none)
no_moment false true moment none = absurd (cc none)
no_moment false false true none = absurd (cc none)
no_moment false false false none = refl

module _ {M : Type 0} (leg : Leg M) where
  not_full : (worker : ℕ) (events : List Event) → stop_of leg worker events ≡ None → length events ≢ leg.most
  not_full worker events none full =
      let no = no_moment (has_ended leg worker events) (made leg worker events == leg.turns) (length events == leg.most) none in
      let both : true ≡ false = sym (eq-eqb (length events) leg.most full) ∙ no in
      absurd (cc both)

  not_last : (before : List Event) (event : Event) → IsTurn leg before event → length before ≢ leg.most
  not_last before (Step hart) turn = not_full hart before turn.1
  not_last before (Evict line mask) turn = not_full leg.harts before turn.2
  not_last before Crash turn = absurd turn
  not_last before Start turn = absurd turn

  module _ (journal : List Event) (turns : AreTurns leg journal) where
    bounded_from : (before rest : List Event) → journal ≡ before ++ rest → length before ≤ leg.most → length journal ≤ leg.most
    bounded_from before [] is within = omega (arith, ap length is, length-append before [], within)
    bounded_from before (x ∷ xs) is within =
        let other = not_last before x (turns before xs x is) in
        bounded_from (before ++ x ∷ []) xs (is ∙ sym (append_assoc before (x ∷ []) xs)) (omega (arith, length-append before (x ∷ []), within, other))

    crashless_from : (before rest : List Event) → journal ≡ before ++ rest → count_by is_crash rest ≡ 0
    crashless_from before [] is = refl
    crashless_from before (x ∷ xs) is =
        count_more is_crash x xs
        ∙ ap₂ (λ (b : Bool) (n : ℕ). cond b 1 0 + n) (none x (turns before xs x is))
        (crashless_from (before ++ x ∷ []) xs (is ∙ sym (append_assoc before (x ∷ []) xs)))
      where
        none : (x : Event) → IsTurn leg before x → is_crash x ≡ false
        none (Step hart) turn = refl
        none (Evict line mask) turn = refl
        none Crash turn = absurd turn
        none Start turn = absurd turn

    startless_from : (before rest : List Event) → journal ≡ before ++ rest → HaveNoStart rest
    startless_from before [] is = tt
    startless_from before (x ∷ xs) is =
        none x (turns before xs x is) (startless_from (before ++ x ∷ []) xs (is ∙ sym (append_assoc before (x ∷ []) xs)))
      where
        none : (x : Event) → IsTurn leg before x → HaveNoStart xs → HaveNoStart (x ∷ xs)
        none (Step hart) turn rest = rest
        none (Evict line mask) turn rest = rest
        none Crash turn rest = absurd turn
        none Start turn rest = absurd turn

    evictions_from : (before rest : List Event) → journal ≡ before ++ rest → made leg leg.harts rest ≡ count_by is_eviction rest
    evictions_from before [] is = refl
    evictions_from before (x ∷ xs) is =
        count_more (is_event_of leg.harts leg.harts) x xs
        ∙ ap₂ (λ (b : Bool) (n : ℕ). cond b 1 0 + n) (same x (turns before xs x is))
        (evictions_from (before ++ x ∷ []) xs (is ∙ sym (append_assoc before (x ∷ []) xs)))
        ∙ sym (count_more is_eviction x xs)
      where
        same : (x : Event) → IsTurn leg before x → is_event_of leg.harts leg.harts x ≡ is_eviction x
        same (Step hart) turn = ne_eqb hart leg.harts (λ e. omega (arith, e, turn.0))
        same (Evict line mask) turn = eq-eqb leg.harts leg.harts refl
        same Crash turn = absurd turn
        same Start turn = absurd turn

    -- a leg has no more events than it may
    pub leg_bounded : length journal ≤ leg.most
    leg_bounded = bounded_from [] journal refl (omega arith)

    pub leg_crashless : count_by is_crash journal ≡ 0
    leg_crashless = crashless_from [] journal refl

    -- no life begins in it
    pub leg_startless : HaveNoStart journal
    leg_startless = startless_from [] journal refl

    -- its worker for evictions makes all of them
    pub leg_evictions : made leg leg.harts journal ≡ count_by is_eviction journal
    leg_evictions = evictions_from [] journal refl
