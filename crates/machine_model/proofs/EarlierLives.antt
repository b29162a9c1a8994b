-- No event changes what the lives before this one have kept, but one that begins another life.
use Rattle.std.proofs.Common.{◌≡◌, refl, ℕ, zero, suc, List, [], ◌∷◌, length, ap, ◌∙◌, Bool, true, false}
use Rattle.std.specs.Prelude.{if◌then◌else◌}
use Rattle.log_schemes.specs.declared.log.Log.{Log}
use Rattle.machine_events.specs.declared.event.Event.{Event}
use Rattle.machine_events.specs.declared.event.Event.TheVariants.{Step, Evict, Crash, Start}
use Rattle.ido_base.specs.Words.{Word, word_at, last_position}
use Rattle.ido_base.specs.Layout.{word_number}
use Rattle.log_schemes.specs.Layout.{point_at}
use Rattle.rv64_isa.specs.declared.object.Slot.{Slot}
use Rattle.machine_model.specs.Machine.{World, after_event}
use Rattle.machine_model.specs.Schedule.{HaveNoStart, Steps, passes_mark, stores_point, with_begun}
use Rattle.machine_model.specs.Schedule.{with_stored, with_all_kept, with_step, begins_life, next_life}
use Rattle.machine_model.specs.Schedule.{steps_after, steps_along}

pub all_kept_earlier : (log : Log) (words : List Word) (count : ℕ) (s : Steps) → (with_all_kept log words count s).earlier ≡ s.earlier
all_kept_earlier log words zero s = refl
all_kept_earlier log words (suc h) s = all_kept_earlier log words h s

counted_earlier : (begun points : Bool) (h position : ℕ) (s : Steps) →
    (let started = if begun then with_begun h s else s in if points then with_stored h position started else started).earlier ≡ s.earlier
counted_earlier false false h position s = refl
counted_earlier false true h position s = refl
counted_earlier true false h position s = refl
counted_earlier true true h position s = refl

pub first_stays : (event : Event) (events : List Event) → HaveNoStart (event ∷ events) → ((w : World) → begins_life w event ≡ false) × HaveNoStart events
first_stays (Step h) events none = (λ w. refl, none)
first_stays (Evict line mask) events none = (λ w. refl, none)
first_stays Crash events none = (λ w. refl, none)
first_stays Start events none = absurd none

module _ (marks : List (List ℕ)) (program : List (List Slot)) where
  pub step_earlier : (w : World) (h : ℕ) (s : Steps) → (with_step marks program w h s).earlier ≡ s.earlier
  step_earlier w h s =
      counted_earlier (passes_mark marks program w h) (stores_point program w (Step h) h) h
      (last_position (word_at (after_event program w (Step h)).words (word_number (point_at w.log h)))) s

  pub event_earlier : (w : World) (event : Event) (s : Steps) → begins_life w event ≡ false → (steps_after marks program w event s).earlier ≡ s.earlier
  unfolding steps_after
  event_earlier w (Step h) s none =
      all_kept_earlier w.log (after_event program w (Step h)).words (length program) (with_step marks program w h s) ∙ step_earlier w h s
  event_earlier w (Evict line mask) s none = all_kept_earlier w.log (after_event program w (Evict line mask)).words (length program) s
  event_earlier w Crash s none = refl
  event_earlier w Start s none = ap (λ (b : Bool). (if b then next_life s else s).earlier) none

  pub along_earlier : (events : List Event) (w : World) (s : Steps) → HaveNoStart events → (steps_along marks program w events s).earlier ≡ s.earlier
  along_earlier [] w s none = refl
  along_earlier (event ∷ events) w s none =
      let first = first_stays event events none in
      along_earlier events (after_event program w event) (steps_after marks program w event s) first.1 ∙ event_earlier w event s (first.0 w)
