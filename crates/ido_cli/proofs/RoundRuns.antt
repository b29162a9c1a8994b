-- Rounds over the harts of a life.
use Rattle.std.proofs.Common.{◌≡◌, refl, ℕ, ◌+◌, ◌<◌, ◌≤◌, ◌⊎◌, inl, inr, List, [], ◌∷◌, ◌++◌, length, sym, ap, ◌∙◌, subst, arith, length-append, append_assoc}
use Rattle.std.proofs.Common.{true, false}
use Rattle.std.proofs.lemmas.Bool.{cases_eq}
use Rattle.std.proofs.lemmas.List.{append-nil}
use Rattle.machine_events.specs.declared.event.Event.{Event}
use Rattle.machine_events.specs.declared.event.Event.TheVariants.{Step}
use Rattle.run_tracker.specs.ObjectLives.{Course, LifeConfig, is_stopped, opening_of, world_of}
use Rattle.run_tracker.proofs.Public.{played_is}
use Rattle.ido_cli.specs.ThreadedRuns.{AreRounds, all_stopped, full, is_stopped_after, most_leg_events, next_round, passes, steps}
use Rattle.ido_cli.specs.links.LegRuns.{AreQuiet, HasRounds, IsQuiet, LeadsTo, enough, more, quiet, stopped}

-- whether a hart is stopped, of a life that began so
pub stopped_is : (life : Course) (opening : LifeConfig) (hart : ℕ) → opening_of life ≡ opening →
    is_stopped_after opening life.journal hart ≡ is_stopped (world_of life) hart
stopped_is life opening hart same =
    ap (λ (m : LifeConfig). is_stopped_after m life.journal hart) (sym same)
    ∙ ap (λ (m : LifeConfig). is_stopped m.world hart) (played_is (opening_of life) life.journal)

module _ (opening : LifeConfig) where
  -- ---- Ways from the turn of one hart to that of another

  pub leads_none : (hart : ℕ) (es : List Event) → LeadsTo opening hart es hart es
  leads_none hart es = record { made = []; is = sym (append-nil es); then = λ rest h. h }

  pub leads_on : (a b c : ℕ) (es fs gs : List Event) → LeadsTo opening a es b fs → LeadsTo opening b fs c gs → LeadsTo opening a es c gs
  leads_on a b c es fs gs l m = record {
    made = l.made ++ m.made;
    is = m.is ∙ ap (λ (xs : List Event). xs ++ m.made) l.is ∙ append_assoc es l.made m.made;
    then = λ rest h.
        subst (λ (xs : List Event). AreRounds opening a es xs) (sym (append_assoc l.made m.made rest)) (l.then (m.made ++ rest) (m.then rest h));
  }

  leads_step : (hart : ℕ) (es : List Event) → hart < length opening.runs.program → is_stopped_after opening es hart ≡ false → length es < most_leg_events →
      LeadsTo opening hart es (hart + 1) (es ++ Step hart ∷ [])
  leads_step hart es within goes room = record { made = Step hart ∷ []; is = refl; then = λ rest h. steps hart es rest within goes room h }

  leads_past : (hart : ℕ) (es : List Event) → hart < length opening.runs.program → is_stopped_after opening es hart ≡ true →
      LeadsTo opening hart es (hart + 1) es
  leads_past hart es within still = record { made = []; is = sym (append-nil es); then = λ rest h. passes hart es rest within still h }

  -- with enough events none is made
  none_made : (hart : ℕ) (es rest : List Event) → AreRounds opening hart es rest → most_leg_events ≤ length es → rest ≡ []
  none_made hart es rest (all_stopped _ _ still) all = refl
  none_made hart es rest (full _ _ big) all = refl
  none_made hart es rest (passes _ _ _ within still r) all = none_made (hart + 1) es rest r all
  none_made hart es rest (steps _ _ _ within goes room r) all = absurd (omega (arith, room, all))
  none_made hart es rest (next_round _ _ r) all = none_made 0 es rest r all

  leads_full : (hart : ℕ) (es : List Event) → most_leg_events ≤ length es → LeadsTo opening hart es (hart + 1) es
  leads_full hart es all = record {
    made = [];
    is = sym (append-nil es);
    then = λ rest h. subst (λ (xs : List Event). AreRounds opening hart es xs) (sym (none_made (hart + 1) es rest h all)) (full hart es all);
  }

  pub leads_round : (from : ℕ) (es fs : List Event) → LeadsTo opening from es (length opening.runs.program) fs → LeadsTo opening from es 0 fs
  leads_round from es fs l = record { made = l.made; is = l.is; then = λ rest h. l.then rest (next_round fs rest h) }

  -- ---- A round, of which the harts below one have had their turn

  module _ (before now : List Event) (hart : ℕ) (l : LeadsTo opening 0 before hart now) (q : IsQuiet opening before hart now) where
    pub step_leads : hart < length opening.runs.program → is_stopped_after opening now hart ≡ false → length now < most_leg_events →
        LeadsTo opening 0 before (hart + 1) (now ++ Step hart ∷ [])
    step_leads within goes room =
        leads_on 0 hart (hart + 1) before now (now ++ Step hart ∷ []) l (leads_step hart now within goes room)

    pub step_more : length now < most_leg_events → IsQuiet opening before (hart + 1) (now ++ Step hart ∷ [])
    step_more room =
        let long = length-append now (Step hart ∷ []) in
        let from = ap length l.is ∙ length-append before l.made in
        more (omega (arith, long, from)) (omega (arith, from, room))

    pub past_leads : hart < length opening.runs.program → (most_leg_events ≤ length now) ⊎ (is_stopped_after opening now hart ≡ true) →
        LeadsTo opening 0 before (hart + 1) now
    past_leads within (inl all) = leads_on 0 hart (hart + 1) before now now l (leads_full hart now all)
    past_leads within (inr still) = leads_on 0 hart (hart + 1) before now now l (leads_past hart now within still)

    quiet_more : now ≡ before → AreQuiet opening before hart → (most_leg_events ≤ length now) ⊎ (is_stopped_after opening now hart ≡ true) →
        AreQuiet opening before (hart + 1)
    quiet_more same (enough all) stop = enough all
    quiet_more same (stopped each) (inl all) = enough (omega (arith, ap length same, all))
    quiet_more same (stopped each) (inr still) = stopped (λ h below. by h below (cases_eq h hart))
      where
        by : (h : ℕ) → h < hart + 1 → (h ≡ hart) ⊎ (h ≡ hart → ⊥) → is_stopped_after opening before h ≡ true
        by h below (inl own) =
            ap (is_stopped_after opening before) own ∙ ap (λ (es : List Event). is_stopped_after opening es hart) (sym same) ∙ still
        by h below (inr other) = each h (omega (arith, below, other))

    pub past_quiet : (most_leg_events ≤ length now) ⊎ (is_stopped_after opening now hart ≡ true) → IsQuiet opening before (hart + 1) now
    past_quiet stop = by q
      where
        by : IsQuiet opening before hart now → IsQuiet opening before (hart + 1) now
        by (quiet same all) = quiet same (quiet_more same all stop)
        by (more grown room) = more grown room

  -- ---- After a round

  pub ends_quiet : (before now : List Event) → IsQuiet opening before (length opening.runs.program) now → length now ≤ length before →
      AreRounds opening 0 now []
  ends_quiet before now (quiet same (enough all)) none = full 0 now (omega (arith, ap length same, all))
  ends_quiet before now (quiet same (stopped each)) none =
      subst (λ (es : List Event). AreRounds opening 0 es []) (sym same) (all_stopped 0 before each)
  ends_quiet before now (more grown room) none = absurd (omega (arith, grown, none))

  pub goes_more : (before now : List Event) (hart : ℕ) → IsQuiet opening before hart now → length before < length now →
      (length before < length now) × (length before < most_leg_events)
  goes_more before now hart (quiet same all) grown = absurd (omega (arith, ap length same, grown))
  goes_more before now hart (more grown room) some = (grown, room)

  -- all rounds
  pub has_rounds : (before now : List Event) → LeadsTo opening 0 before 0 now → AreRounds opening 0 now [] → HasRounds opening before now
  has_rounds before now l ends = record {
    made = l.made;
    is = l.is;
    rounds = subst (λ (xs : List Event). AreRounds opening 0 before xs) (append-nil l.made) (l.then [] ends);
  }
