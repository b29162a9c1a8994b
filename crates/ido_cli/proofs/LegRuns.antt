-- A life that runs legs with crashes between them.
use Rattle.std.proofs.Common.{◌≡◌, refl, ℕ, ◌+◌, ◌-◌, ◌<◌, ◌≤◌, List, [], ◌∷◌, ◌++◌, length, sym, ap, ◌∙◌, subst, arith, length-append, append_assoc}
use Rattle.std.proofs.Common.{drop, Option, Some, None, min, Bool, true, false, cond, ◌≢◌, ◌==◌}
use Rattle.std.specs.Prelude.{count_by, option_map, slice_index_or, IfSome, if◌then◌else◌}
use Rattle.std.proofs.lemmas.Bool.{eq-eqb, ne_eqb}
use Rattle.std.proofs.lemmas.List.{at_drop_more, drop_all}
use Rattle.std.proofs.lemmas.List.Sums.{sum_by-append}
use Rattle.log_schemes.specs.declared.log.Log.{Log}
use Rattle.machine_events.specs.declared.event.Event.{Event}
use Rattle.machine_events.specs.declared.event.Event.TheVariants.{Crash}
use Rattle.machine_events.specs.Cores.{played}
use Rattle.machine_model.specs.Machine.{IsEviction}
use Rattle.hart_driver.specs.declared.stop.Stop.{Stop}
use Rattle.hart_driver.specs.Driven.{HasAdvanced, IsDriven, evictions_of as coming_of}
use Rattle.hart_driver.specs.Legs.{Leg, IsLeg}
use Rattle.run_scripts.specs.declared.evictor.Evictor.{Evictor}
use Rattle.run_scripts.specs.Draws.{drawn_evictions}
use Rattle.run_scripts.specs.links.Evictors.{evictions_of}
use Rattle.run_tracker.specs.ObjectLives.{Course, LifeConfig, living, opening_of, with_event}
use Rattle.ido_cli.specs.declared.live.Run.{Run}
use Rattle.ido_cli.specs.ThreadedRuns.{AreLegs, crashed, evictions_at, evictions_from, is_crash, is_eviction, last, leg_after, moment_after, most_leg_events}
use Rattle.ido_cli.specs.links.LegRuns.{CanRun, HasCrashed, HasRunLegs, IsBetween, leg_from}
use Rattle.ido_cli.proofs.LegEvents.{leg_bounded, leg_crashless, leg_evictions}

-- what `drive` leaves of a life
abbrev pub IsLifeDriven : (life : Course) → (turns moment : ℕ) → Option Evictor → (left : Course) → List Stop → Option Evictor → Type 0
IsLifeDriven life turns moment evict left stops evict_left =
    IsDriven living opening_of (λ x. x.journal) (λ x. length x.runs.program) evictions_of (λ x. x.cap - length x.journal)
    (λ x. IsEviction x.runs.log (length x.runs.program))
    life turns moment evict left stops evict_left

-- ---- What is still to come of a stream

-- what an evictor has still to draw, after so many of the evictions of the first one
coming_is : (first now : Option Evictor) (count : ℕ) → HasAdvanced evictions_of first count now →
    coming_of evictions_of now ≡ option_map (λ s. evictions_from s count) (coming_of evictions_of first)
coming_is None None count h = refl
coming_is (Some v) (Some w) count h = λ i. Some (λ n. h n i)
coming_is None (Some w) count h = absurd h
coming_is (Some v) None count h = absurd h

-- the evictions that a seed draws, where there are threads and a seed
pub drawn_none : (log : Log) (threads lines : ℕ) (seed : Option ℕ) → threads ≡ 0 → coming_of evictions_of None ≡ evictions_at log threads lines seed
drawn_none log threads lines seed none =
    ap (λ (b : Bool). if b then None else option_map (λ s. drawn_evictions s log threads lines) seed) (sym (eq-eqb threads 0 none))

pub undrawn_none : (log : Log) (threads lines : ℕ) → coming_of evictions_of None ≡ evictions_at log threads lines None
undrawn_none log threads lines = by (threads == 0)
  where
    by : (b : Bool) → None ≡ (if b then None else (let none : Option (ℕ → ℕ × ℕ) = None in none))
    by true = refl
    by false = refl

pub drawn_some : (log : Log) (threads lines seed : ℕ) (v : Evictor) → threads ≢ 0 → ((n : ℕ) → evictions_of v n ≡ drawn_evictions seed log threads lines n) →
    coming_of evictions_of (Some v) ≡ evictions_at log threads lines (Some seed)
drawn_some log threads lines seed v some each =
    (λ i. Some (λ n. each n i)) ∙ ap (λ (b : Bool). if b then None else Some (drawn_evictions seed log threads lines)) (sym (ne_eqb threads 0 some))

none_over : (first : Option Evictor) → HasAdvanced evictions_of first 0 first
none_over None = tt
none_over (Some v) = λ n. ap (evictions_of v) (omega arith)

more_over : (first next now : Option Evictor) (m n : ℕ) → HasAdvanced evictions_of first m next → HasAdvanced evictions_of next n now →
    HasAdvanced evictions_of first (m + n) now
more_over None None None m n f g = tt
more_over (Some u) (Some v) (Some w) m n f g = λ k. g k ∙ f (k + n) ∙ ap (evictions_of u) (omega arith)
more_over None (Some v) now m n f g = absurd f
more_over (Some u) None now m n f g = absurd f
more_over None None (Some w) m n f g = absurd g
more_over (Some u) (Some v) None m n f g = absurd g

-- ---- A leg of a life, as it is defined

module _ (turns : ℕ) (first : Option Evictor) {opening : LifeConfig} (word : Option ℕ) (moment : ℕ) (life : Course) (evict : Option Evictor)
    (same : opening_of life ≡ opening) (is : moment ≡ moment_after life.journal word)
    (over : HasAdvanced evictions_of first (count_by is_eviction life.journal) evict) where
  -- a leg by what it opens with, by its moment, and by what is still to come
  abbrev leg_by : LifeConfig → ℕ → Option (ℕ → ℕ × ℕ) → Leg LifeConfig
  leg_by m k stream = record {
    behaviour = living;
    opening = played living m life.journal;
    harts = length m.runs.program;
    turns = turns;
    most = k - length life.journal;
    evictions = stream;
  }

  leg_is : leg_from turns moment life evict ≡ leg_after opening turns (coming_of evictions_of first) life.journal word
  leg_is =
      ap (λ (m : LifeConfig). leg_by m moment (coming_of evictions_of evict)) same
      ∙ ap (λ (k : ℕ). leg_by opening k (coming_of evictions_of evict)) is
      ∙ ap (leg_by opening (moment_after life.journal word)) (coming_is first evict (count_by is_eviction life.journal) over)

  pub is_leg_after : (leg : List Event) → IsLeg (leg_from turns moment life evict) leg →
      IsLeg (leg_after opening turns (coming_of evictions_of first) life.journal word) leg
  is_leg_after leg h = subst (λ (l : Leg LifeConfig). IsLeg l leg) leg_is h

-- ---- A leg and a crash

module _ (turns word most moment : ℕ) (run : Run) (is : moment ≡ min (length run.life.journal + word) most) (can : CanRun (most + 1) run)
    (within : length run.life.journal ≤ most) {core : Course} {stops : List Stop} {evict : Option Evictor}
    (d : IsLifeDriven run.life turns moment run.evict core stops evict) where
  few : length d.journal ≤ moment - length run.life.journal
  few = leg_bounded (leg_from turns moment run.life run.evict) d.journal d.leg.each

  grown : length core.journal ≡ length run.life.journal + length d.journal
  grown = ap length d.plays.events_are ∙ length-append run.life.journal d.journal

  pub crash_fits : length core.journal < core.cap
  crash_fits = omega (arith, few, grown, d.plays.room, can.room, within, is)

  pub has_crashed : (life : Course) → life ≡ with_event core Crash → HasCrashed turns word most run (record { life = life; evict = evict })
  has_crashed life now = record {
    leg = d.journal;
    is = subst (λ (k : ℕ). IsLeg (leg_from turns k run.life run.evict) d.journal) is d.leg;
    opens = ap opening_of now ∙ d.plays.opens;
    journal = ap (λ (x : Course). x.journal) now ∙ ap (λ (es : List Event). es ++ Crash ∷ []) d.plays.events_are;
    room =
        let long = ap (λ (x : Course). length x.journal) now ∙ length-append core.journal (Crash ∷ []) in
        let cap : life.cap ≡ core.cap = ap (λ (x : Course). x.cap) now in
        omega (arith, long, cap, grown, d.plays.room, crash_fits);
    advanced =
        subst (λ (n : ℕ). HasAdvanced evictions_of run.evict n evict)
        (leg_evictions (leg_from turns moment run.life run.evict) d.journal d.leg.each) d.advanced;
  }

-- ---- All legs

-- what holds of what is there, where it holds of whatever is there
pub if_some : {A : Type 0} (P : A → Type 0) (o : Option A) → ((x : A) → o ≡ Some x → P x) → IfSome o P
if_some P None each = tt
if_some P (Some x) each = each x refl

module _ (turns : ℕ) (words : List ℕ) (begun : Run) where
  pub begins_between : (run : Run) → run ≡ begun → begun.life.journal ≡ [] → CanRun (most_leg_events + length words) begun →
      IsBetween turns words begun 0 most_leg_events run
  begins_between run is none can =
      subst (λ (x : Run). IsBetween turns words begun 0 most_leg_events x) (sym is) (record {
        opens = refl;
        room = can.room;
        most_is = omega arith;
        crashes = ap (count_by is_crash) none;
        within = omega (arith, ap length none);
        advanced = subst (λ (n : ℕ). HasAdvanced evictions_of begun.evict n begun.evict) (sym (ap (count_by is_eviction) none)) (none_over begun.evict);
        legs = λ rest h.
            let here = subst (λ (es : List Event).
            AreLegs (opening_of begun.life) turns (coming_of evictions_of begun.evict) words es rest) none h in
            subst (λ (es : List Event). AreLegs (opening_of begun.life) turns (coming_of evictions_of begun.evict) words [] (es ++ rest)) (sym none) here;
      })

  module _ (made most : ℕ) (run : Run) (between : IsBetween turns words begun made most run) (can : CanRun (most_leg_events + length words) begun) where
    same_log : run.life.runs.log ≡ begun.life.runs.log
    same_log = ap (λ (m : LifeConfig). m.runs.log) between.opens

    same_harts : length run.life.runs.program ≡ length begun.life.runs.program
    same_harts = ap (λ (m : LifeConfig). length m.runs.program) between.opens

    -- what is still to come is valid, as all of it is
    still_valid : (first now : Option Evictor) (count : ℕ) → HasAdvanced evictions_of first count now →
        ((v : Evictor) → first ≡ Some v → (n : ℕ) → IsEviction begun.life.runs.log (length begun.life.runs.program) (evictions_of v n).0 (evictions_of v n).1) →
        (w : Evictor) → now ≡ Some w → (n : ℕ) → IsEviction run.life.runs.log (length run.life.runs.program) (evictions_of w n).0 (evictions_of w n).1
    still_valid None now count h valid w is n = absurd (none_left now h is)
      where
        none_left : (now : Option Evictor) → HasAdvanced evictions_of None count now → now ≡ Some w → ⊥
        none_left None h is = cc is
        none_left (Some x) h is = h
    still_valid (Some v) now count h valid w is n = by now h is
      where
        by : (now : Option Evictor) → HasAdvanced evictions_of (Some v) count now → now ≡ Some w →
            IsEviction run.life.runs.log (length run.life.runs.program) (evictions_of w n).0 (evictions_of w n).1
        by None h is = absurd h
        by (Some x) h is =
            let same : x ≡ w = cc in
            let at : evictions_of w n ≡ evictions_of v (n + count) = ap (λ (y : Evictor). evictions_of y n) (sym same) ∙ h n in
            subst (λ (l : Log). IsEviction l (length run.life.runs.program) (evictions_of w n).0 (evictions_of w n).1) (sym same_log)
            (subst (λ (k : ℕ). IsEviction begun.life.runs.log k (evictions_of w n).0 (evictions_of w n).1) (sym same_harts)
            (subst (λ (e : ℕ × ℕ). IsEviction begun.life.runs.log (length begun.life.runs.program) e.0 e.1) (sym at) (valid v refl (n + count))))

    pub valid_now : (w : Evictor) → run.evict ≡ Some w → (n : ℕ) →
        IsEviction run.life.runs.log (length run.life.runs.program) (evictions_of w n).0 (evictions_of w n).1
    valid_now = still_valid begun.evict run.evict (count_by is_eviction run.life.journal) between.advanced can.valid

    pub can_run : (all : ℕ) → all ≤ most_leg_events + length words → CanRun all run
    can_run all less = record {
      room = omega (arith, between.room, less);
      few = omega (arith, same_harts, can.few);
      valid = valid_now;
    }

    counted : (word : ℕ) (left : Run) (c : HasCrashed turns word most run left) (p : Event → Bool) →
        count_by p left.life.journal ≡ count_by p run.life.journal + count_by p c.leg + count_by p (Crash ∷ [])
    counted word left c p =
        let one : Event → ℕ = λ e. cond (p e) 1 0 in
        ap (count_by p) c.journal ∙ sum_by-append one (run.life.journal ++ c.leg) (Crash ∷ [])
        ∙ ap (λ (k : ℕ). k + count_by p (Crash ∷ [])) (sum_by-append one run.life.journal c.leg)

    pub between_more : made < length words → (left : Run) → HasCrashed turns (slice_index_or words made 0) most run left → (more : ℕ) → more ≡ most + 1 →
        IsBetween turns words begun (made + 1) more left
    between_more below left c more more_is =
        let opening = opening_of begun.life in
        let stream = coming_of evictions_of begun.evict in
        let word = slice_index_or words made 0 in
        let latest = min (length run.life.journal + word) most in
        let moment : latest ≡ moment_after run.life.journal (Some word) =
        ap (λ (k : ℕ). min (length run.life.journal + word) k) (between.most_is ∙ ap (λ (k : ℕ). most_leg_events + k) (sym between.crashes)) in
        let bounded = leg_bounded (leg_from turns latest run.life run.evict) c.leg c.is.each in
        let crashless = leg_crashless (leg_from turns latest run.life run.evict) c.leg c.is.each in
        let long = ap length c.journal ∙ length-append (run.life.journal ++ c.leg) (Crash ∷ []) in
        let longer = length-append run.life.journal c.leg in
        let leg = is_leg_after turns begun.evict (Some word) latest run.life run.evict between.opens moment between.advanced c.leg c.is in
        let crashes = counted word left c is_crash in
        let one : count_by is_crash (Crash ∷ []) ≡ 1 = refl in
        let evictions = counted word left c is_eviction in
        let none : count_by is_eviction (Crash ∷ []) ≡ 0 = refl in
        record {
          opens = c.opens ∙ between.opens;
          room = omega (arith, c.room, between.room);
          most_is = omega (arith, more_is, between.most_is);
          crashes = omega (arith, crashes, one, between.crashes, crashless);
          within = omega (arith, long, longer, bounded, more_is, between.within);
          advanced =
              subst (λ (n : ℕ). HasAdvanced evictions_of begun.evict n left.evict) (omega (arith, evictions, none))
              (more_over begun.evict run.evict left.evict (count_by is_eviction run.life.journal) (count_by is_eviction c.leg) between.advanced c.advanced);
          legs = λ rest h.
              let here = subst (λ (es : List Event). AreLegs opening turns stream (drop (made + 1) words) es rest) c.journal h in
              let all = crashed word (drop (made + 1) words) run.life.journal c.leg rest leg here in
              let words_are : word ∷ drop (made + 1) words ≡ drop made words = sym (at_drop_more (λ (ws : List ℕ). ws) words made 0 below) in
              let whole = between.legs (c.leg ++ Crash ∷ rest)
              (subst (λ (ws : List ℕ). AreLegs opening turns stream ws run.life.journal (c.leg ++ Crash ∷ rest)) words_are all) in
              let joined : run.life.journal ++ (c.leg ++ Crash ∷ rest) ≡ left.life.journal ++ rest =
              sym (append_assoc run.life.journal c.leg (Crash ∷ rest)) ∙ sym (append_assoc (run.life.journal ++ c.leg) (Crash ∷ []) rest)
              ∙ ap (λ (es : List Event). es ++ rest) (sym c.journal) in
              subst (λ (es : List Event). AreLegs opening turns stream words [] es) joined whole;
        }

    -- the leg after all words
    pub all_run : length words ≤ made → (core : Course) (stops : List Stop) (evict : Option Evictor) →
        IsLifeDriven run.life turns most run.evict core stops evict →
        HasRunLegs turns words begun core
    all_run over core stops evict d =
        let opening = opening_of begun.life in
        let stream = coming_of evictions_of begun.evict in
        let moment : most ≡ moment_after run.life.journal None = between.most_is ∙ ap (λ (k : ℕ). most_leg_events + k) (sym between.crashes) in
        let leg = is_leg_after turns begun.evict None most run.life run.evict between.opens moment between.advanced d.journal d.leg in
        let none : [] ≡ drop made words = sym (drop_all made words over) in
        record {
          opens = d.plays.opens ∙ between.opens;
          legs =
              subst (λ (es : List Event). AreLegs opening turns stream words [] es) (sym d.plays.events_are)
              (between.legs d.journal
              (subst (λ (ws : List ℕ). AreLegs opening turns stream ws run.life.journal d.journal) none (last run.life.journal d.journal leg)));
        }
