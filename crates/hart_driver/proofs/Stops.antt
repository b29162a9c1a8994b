-- Stops of workers.
use Rattle.std.proofs.Common.{◌≡◌, ◌≢◌, ◌⊎◌, refl, ℕ, zero, suc, ◌+◌, ◌<◌, ◌≤◌, List, [], ◌∷◌, ◌++◌, length, Bool, true, false, cond, sym, ap, ◌∙◌}
use Rattle.std.proofs.Common.{inl, inr, ⊎_elim, subst, arith, eqb, eq-eqb, ne_eqb, Option, Some, None, ◌&&◌}
use Rattle.std.specs.Prelude.{nat_lt, map}
use Rattle.std.proofs.lemmas.Bool.{cases_eq, cases_lt, ltb-true}
use Rattle.std.proofs.lemmas.List.{map-append}
use Rattle.machine_events.specs.declared.event.Event.{Event}
use Rattle.machine_events.specs.declared.event.Event.TheVariants.{Step, Evict, Crash, Start}
use Rattle.machine_events.specs.Cores.{played}
use Rattle.hart_board.specs.BoardRule.{numbers_from}
use Rattle.hart_board.proofs.Public.{cut_more, numbers_more}
use Rattle.hart_driver.specs.declared.stop.Stop.{Stop}
use Rattle.hart_driver.specs.declared.stop.Stop.TheVariants.{Ended, Turns, Moment}
use Rattle.hart_driver.specs.Legs.{AreTurns, IsTurn, Leg, has_ended, made, stop_of}

-- the first of three reasons that holds
abbrev pub first_stop : (ended turned full : Bool) → Option Stop
first_stop a b c = cond a (Some Ended) (cond b (Some Turns) (cond c (Some Moment) None))

-- a list is cut at each of its places
cut_at : {A : Type 0} (n : ℕ) (xs : List A) → n < length xs → (before : List A) × (x : A) × (after : List A) × (xs ≡ before ++ x ∷ after) × (length before ≡ n)
cut_at n [] inside = absurd (omega arith)
cut_at zero (x ∷ xs) inside = ([], x, xs, refl, refl)
cut_at (suc n) (x ∷ xs) inside =
    let c = cut_at n xs (omega (arith, inside)) in (x ∷ c.0, c.1, c.2, ap (λ (z : List _). x ∷ z) c.3, ap (λ (k : ℕ). suc k) c.4)

module _ {M : Type 0} (leg : Leg M) where
  pub stop_is : (w : ℕ) (events : List Event) (a b c : Bool) → has_ended leg w events ≡ a → eqb (made leg w events) leg.turns ≡ b →
      eqb (length events) leg.most ≡ c →
      stop_of leg w events ≡ first_stop a b c
  stop_is w events a b c p q r = λ i. first_stop (p i) (q i) (r i)

  abbrev pub still : ℕ → List Event → Bool
  still w events = leg.behaviour.is_stopped (played leg.behaviour leg.opening events) w

  -- a worker without any of the reasons has no stop
  pub no_stop : (w : ℕ) (events : List Event) → (w < leg.harts → still w events ≡ true → ⊥) → made leg w events ≢ leg.turns → length events ≢ leg.most →
      stop_of leg w events ≡ None
  no_stop w events goes left room =
      stop_is w events false false false (by (nat_lt w leg.harts) (still w events) refl refl) (ne_eqb (made leg w events) leg.turns left)
      (ne_eqb (length events) leg.most room)
    where
      by : (a c : Bool) → nat_lt w leg.harts ≡ a → still w events ≡ c → has_ended leg w events ≡ false
      by true true p q = absurd (goes (ltb-true w leg.harts p) q)
      by true false p q = λ i. p i && q i
      by false c p q = λ i. p i && q i

  some_reason : (a b : Bool) → first_stop a b true ≡ None → ⊥
  some_reason true b e = cc e
  some_reason false true e = cc e
  some_reason false false e = cc e

  -- where the leg has all its events each worker has a stop
  pub not_full : (w : ℕ) (events : List Event) → stop_of leg w events ≡ None → length events ≢ leg.most
  not_full w events none full =
      some_reason (has_ended leg w events) (eqb (made leg w events) leg.turns)
      (sym (stop_is w events (has_ended leg w events) (eqb (made leg w events) leg.turns) true refl refl (eq-eqb (length events) leg.most full)) ∙ none)

  pub who_goes : (before : List Event) (event : Event) → IsTurn leg before event → (w : ℕ) × (stop_of leg w before ≡ None)
  who_goes before (Step hart) t = (hart, t.1)
  who_goes before (Evict line mask) t = (leg.harts, t.2)
  who_goes before Crash t = absurd t
  who_goes before Start t = absurd t

  -- a leg has no more events than it may have
  pub within_most : (journal : List Event) → AreTurns leg journal → length journal ≤ leg.most
  within_most journal each = by (cases_lt leg.most (length journal))
    where
      by : (leg.most < length journal) ⊎ (length journal ≤ leg.most) → length journal ≤ leg.most
      by (inl more) =
          let c = cut_at leg.most journal more in let who = who_goes c.0 c.1 (each c.0 c.2 c.1 c.3) in absurd (not_full who.0 c.0 who.1 c.4)
      by (inr few) = few

  -- one more event of a leg
  pub turns_more : (journal : List Event) (event : Event) → AreTurns leg journal → IsTurn leg journal event → AreTurns leg (journal ++ event ∷ [])
  turns_more journal event each turn before after x q =
      ⊎_elim (λ (t : (journal ≡ before) × (event ≡ x)). subst (λ (z : List Event × Event). IsTurn leg z.0 z.1) (λ i. (t.0 i, t.1 i)) turn)
      (λ (t : (rest : List Event) × (journal ≡ before ++ x ∷ rest)). each before t.0 x t.1) (cut_more journal before after event x q)

  -- the stop of one worker more
  pub stops_more : (events : List Event) (count : ℕ) (stops : List Stop) (stop : Stop) →
      map Some stops ≡ map (λ w. stop_of leg w events) (numbers_from 0 count) → Some stop ≡ stop_of leg count events →
      map Some (stops ++ stop ∷ []) ≡ map (λ w. stop_of leg w events) (numbers_from 0 (count + 1))
  stops_more events count stops stop are is =
      map-append Some stops (stop ∷ []) ∙ ((λ i. are i ++ is i ∷ [])
      ∙ (sym (map-append (λ (w : ℕ). stop_of leg w events) (numbers_from 0 count) (count ∷ []))
      ∙ ap (map (λ (w : ℕ). stop_of leg w events))
      (ap (λ (n : ℕ). numbers_from 0 count ++ n ∷ []) (zero-add' count) ∙ (numbers_more 0 count ∙ ap (numbers_from 0) (add-one' count)))))
    where
      zero-add' : (n : ℕ) → n ≡ 0 + n
      zero-add' n = omega arith

      add-one' : (n : ℕ) → suc n ≡ n + 1
      add-one' n = omega arith

  -- each of these workers has a stop
  pub stops_end : (events : List Event) (at count : ℕ) (stops : List Stop) → map Some stops ≡ map (λ w. stop_of leg w events) (numbers_from at count) →
      (w : ℕ) → at ≤ w → w < at + count → stop_of leg w events ≢ None
  stops_end events at zero stops are w from to none = absurd (omega (arith, from, to))
  stops_end events at (suc count) [] are w from to none = absurd (cc are)
  stops_end events at (suc count) (s ∷ ss) are w from to none =
      ⊎_elim (λ (same : at ≡ w).
      let here : Some s ≡ stop_of leg at events = cc are in
      let both : Some s ≡ None = here ∙ (ap (λ (n : ℕ). stop_of leg n events) same ∙ none) in cc both)
      (λ (other : at ≡ w → ⊥). stops_end events (at + 1) count ss (cc are) w (above at w from other) (omega (arith, to)) none) (cases_eq at w)
    where
      above : (at w : ℕ) → at ≤ w → (at ≡ w → ⊥) → at + 1 ≤ w
      above at w from other = omega (arith, from, other)
