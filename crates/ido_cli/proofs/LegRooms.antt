-- A leg without evictions has no more events than its harts have turns; so it is the same leg where there is more room.
use Rattle.std.proofs.Common.{◌≡◌, ◌≢◌, refl, ℕ, suc, zero, ◌+◌, ◌*◌, ◌<◌, ◌≤◌, List, [], ◌∷◌}
use Rattle.std.proofs.Common.{◌++◌, length, Bool, true, false, cond, sym, ap, subst, ◌∙◌, arith}
use Rattle.std.proofs.Common.{length-append, append_assoc, append-nil, ◌==◌, Some, None, nat_lt}
use Rattle.std.specs.Prelude.{count_by, if◌then◌else◌}
use Rattle.std.proofs.lemmas.Bool.{eqb-true, eq-eqb, ne_eqb}
use Rattle.std.proofs.lemmas.Bool.Decides.{nat_tests}
use Rattle.std.proofs.lemmas.List.Sums.{sum_by-cons, sum_by_push}
use Rattle.machine_events.specs.declared.event.Event.{Event}
use Rattle.machine_events.specs.declared.event.Event.TheVariants.{Step, Evict, Crash, Start}
use Rattle.machine_events.specs.Cores.{Behaviour}
use Rattle.hart_driver.specs.declared.stop.Stop.TheVariants.{Ended, Turns, Moment}
use Rattle.hart_driver.specs.Legs.{Leg, IsLeg, AreTurns, IsTurn, has_ended, is_event_of, made, stop_of}

-- ---- Steps by their harts

-- a step of a hart below this one
abbrev step_below : ℕ → Event → Bool
step_below n (Step hart) = nat_lt hart n
step_below n (Evict line mask) = false
step_below n Crash = false
step_below n Start = false

abbrev one : (Event → Bool) → Event → ℕ
one p x = cond (p x) 1 0

module _ (harts : ℕ) where
  one_more : (n : ℕ) (x : Event) → n < harts → one (step_below (suc n)) x ≡ one (step_below n) x + one (is_event_of harts n) x
  one_more n (Step hart) within = grind (arith, nat_tests)
  one_more n (Evict line mask) within =
      let none : one (is_event_of harts n) (Evict line mask) ≡ 0 = ap (λ (b : Bool). cond {A = ℕ} b 1 0) (ne_eqb harts n (λ e. omega (arith, e, within))) in
      omega (arith, none)
  one_more n Crash within = refl
  one_more n Start within = refl

  below_more : (n : ℕ) (xs : List Event) → n < harts → count_by (step_below (suc n)) xs ≡ count_by (step_below n) xs + count_by (is_event_of harts n) xs
  below_more n [] within = refl
  below_more n (x ∷ xs) within =
      let here = one_more n x within in
      let more = below_more n xs within in
      let a = sum_by-cons (one (step_below (suc n))) x xs in
      let b = sum_by-cons (one (step_below n)) x xs in
      let c = sum_by-cons (one (is_event_of harts n)) x xs in
      omega (arith, here, more, a, b, c)

  none_below : (xs : List Event) → count_by (step_below 0) xs ≡ 0
  none_below [] = refl
  none_below (x ∷ xs) = sum_by-cons (one (step_below 0)) x xs ∙ omega (arith, by x, none_below xs)
    where
      by : (x : Event) → one (step_below 0) x ≡ 0
      by (Step hart) = grind (arith, nat_tests)
      by (Evict line mask) = refl
      by Crash = refl
      by Start = refl

  few_below : (t n : ℕ) (xs : List Event) → n ≤ harts → ((w : ℕ) → count_by (is_event_of harts w) xs ≤ t) → count_by (step_below n) xs ≤ n * t
  few_below t zero xs few each = let none : count_by (step_below zero) xs ≡ 0 = none_below xs in omega (arith, none)
  few_below t (suc n) xs few each =
      let less = few_below t n xs (omega (arith, few)) each in
      let more = below_more n xs (omega (arith, few)) in
      let whole : suc n * t ≡ n * t + t = omega arith in
      omega (arith, less, more, each n, whole)

-- ---- A leg without evictions

module _ {M : Type 0} (b : Behaviour M) (opening : M) (harts turns : ℕ) where
  -- where so many events are made at most
  abbrev leg_with : ℕ → Leg M
  leg_with most = record { behaviour = b; opening = opening; harts = harts; turns = turns; most = most; evictions = None }

  -- why a worker may go on
  turns_left : (ended none full : Bool) →
      (if ended then Some Ended else (if none then Some Turns else (if full then Some Moment else None))) ≡ None → none ≡ false
  turns_left true none full is = absurd (cc is)
  turns_left false true full is = absurd (cc is)
  turns_left false false full is = refl

  module _ (most : ℕ) (journal : List Event) (each : AreTurns (leg_with most) journal) where
    goes_on : (w : ℕ) (before : List Event) → stop_of (leg_with most) w before ≡ None → made (leg_with most) w before ≢ turns
    goes_on w before none all =
        let no = turns_left (has_ended (leg_with most) w before) (made (leg_with most) w before == turns) (length before == most) none in
        let both : true ≡ false = sym (eq-eqb (made (leg_with most) w before) turns all) ∙ no in
        absurd (cc both)

    own_turn : (w : ℕ) (before : List Event) (x : Event) → IsTurn (leg_with most) before x → is_event_of harts w x ≡ true →
        made (leg_with most) w before ≢ turns
    own_turn w before (Step hart) turn own =
        subst (λ (v : ℕ). made (leg_with most) v before ≢ turns) (eqb-true hart w own) (goes_on hart before turn.1)
    own_turn w before (Evict line mask) turn own = absurd (cc turn.1)
    own_turn w before Crash turn own = absurd turn
    own_turn w before Start turn own = absurd turn

    made_from : (w : ℕ) (before rest : List Event) → journal ≡ before ++ rest → made (leg_with most) w before ≤ turns → made (leg_with most) w journal ≤ turns
    made_from w before [] is few = subst (λ (xs : List Event). made (leg_with most) w xs ≤ turns) (sym (is ∙ append-nil before)) few
    made_from w before (x ∷ xs) is few =
        made_from w (before ++ x ∷ []) xs (is ∙ sym (append_assoc before (x ∷ []) xs)) (by (is_event_of harts w x) refl)
      where
        more : made (leg_with most) w (before ++ x ∷ []) ≡ made (leg_with most) w before + cond (is_event_of harts w x) 1 0
        more = sum_by_push (λ (e : Event). cond (is_event_of harts w e) 1 0) before x

        by : (own : Bool) → is_event_of harts w x ≡ own → made (leg_with most) w (before ++ x ∷ []) ≤ turns
        by true own =
            let left = own_turn w before x (each before xs x is) own in
            let now = more ∙ ap (λ (b : Bool). made (leg_with most) w before + cond b 1 0) own in
            omega (arith, left, now, few)
        by false own =
            let now = more ∙ ap (λ (b : Bool). made (leg_with most) w before + cond b 1 0) own in
            omega (arith, now, few)

    made_few : (w : ℕ) → made (leg_with most) w journal ≤ turns
    made_few w = made_from w [] journal refl (omega arith)

    all_below : (before rest : List Event) → journal ≡ before ++ rest → count_by (step_below harts) rest ≡ length rest
    all_below before [] is = refl
    all_below before (x ∷ xs) is =
        let here = by x (each before xs x is) in
        let more = all_below (before ++ x ∷ []) xs (is ∙ sym (append_assoc before (x ∷ []) xs)) in
        sum_by-cons (one (step_below harts)) x xs ∙ omega (arith, here, more)
      where
        by : (x : Event) → IsTurn (leg_with most) before x → one (step_below harts) x ≡ 1
        by (Step hart) turn = let within = turn.0 in grind (arith, nat_tests, within)
        by (Evict line mask) turn = absurd (cc turn.1)
        by Crash turn = absurd turn
        by Start turn = absurd turn

    -- no more than all turns
    few_events : length journal ≤ harts * turns
    few_events =
        let few = few_below harts turns harts journal (omega arith) made_few in
        let all = all_below [] journal refl in
        omega (arith, few, all)

  same_stop : (most more w : ℕ) (events : List Event) → length events < most → length events < more →
      stop_of (leg_with most) w events ≡ stop_of (leg_with more) w events
  same_stop most more w events less below =
      ap (λ (full : Bool). if has_ended (leg_with most) w events then Some Ended
      else (if made (leg_with most) w events == turns then Some Turns else (if full then Some Moment else None)))
      (ne_eqb (length events) most (λ e. omega (arith, e, less)) ∙ sym (ne_eqb (length events) more (λ e. omega (arith, e, below))))

  -- where all turns fit in, more room changes nothing
  pub in_more_room : (most more : ℕ) → harts * turns < most → harts * turns < more → (journal : List Event) → IsLeg (leg_with most) journal →
      IsLeg (leg_with more) journal
  in_more_room most more fits below journal is = record {
    each = λ before after event e.
        let few = few_events most journal is.each in
        let shorter = ap length e ∙ length-append before (event ∷ after) in
        by before event (omega (arith, few, shorter, fits)) (omega (arith, few, shorter, below)) (is.each before after event e);
    ends = λ w within none.
        let few = few_events most journal is.each in
        is.ends w within (same_stop most more w journal (omega (arith, few, fits)) (omega (arith, few, below)) ∙ none);
  }
    where
      by : (before : List Event) (event : Event) → length before < most → length before < more → IsTurn (leg_with most) before event →
          IsTurn (leg_with more) before event
      by before (Step hart) less more_less turn = (turn.0, sym (same_stop most more hart before less more_less) ∙ turn.1)
      by before (Evict line mask) less more_less turn = absurd (cc turn.1)
      by before Crash less more_less turn = turn
      by before Start less more_less turn = turn
