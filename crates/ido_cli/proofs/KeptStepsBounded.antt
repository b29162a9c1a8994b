-- No more steps are kept than there are events, whatever events they are.
use Rattle.std.proofs.Common.{◌≡◌, ℕ, ◌+◌, ◌≤◌, List, [], ◌∷◌, length, Bool, true, false, refl, ap}
use Rattle.std.proofs.Common.{arith, flat_map, length-append}
use Rattle.std.specs.Prelude.{if◌then◌else◌, sum_by}
use Rattle.std.proofs.lemmas.List.Concat.{length-flat_map}
use Rattle.std.proofs.lemmas.List.Sums.{sum_by-cons, sum_by_push}
use Rattle.machine_events.specs.declared.event.Event.{Event}
use Rattle.machine_events.specs.declared.event.Event.TheVariants.{Step, Evict, Crash, Start}
use Rattle.rv64_isa.specs.declared.object.Slot.{Slot}
use Rattle.machine_model.specs.Machine.{World, after_event, can_start}
use Rattle.machine_model.specs.Schedule.{LifeSchedules, Steps, all_lives, first_steps, next_life, only_life, schedules, steps_after, steps_along}
use Rattle.machine_model.proofs.Public.{event_earlier}
use Rattle.run_tracker.specs.links.AccountRepresentation.{all_kept, weight}
use Rattle.run_tracker.proofs.Public.{weight-after}

-- ---- Events

module _ (marks : List (List ℕ)) (program : List (List Slot)) where
  all_events : (w : World) (events : List Event) (s : Steps) → weight (steps_along marks program w events s) ≤ weight s + length events
  all_events w [] s = omega arith
  all_events w (e ∷ es) s =
      omega (arith, all_events (after_event program w e) es (steps_after marks program w e s), weight-after marks program w e s)

  -- over all lives, and those that were kept before
  pub all_kept_few : (w : World) (events : List Event) (kept : LifeSchedules) →
      sum_by length (schedules (steps_along marks program w events (first_steps kept))) ≤ sum_by length (all_lives kept) + length events
  all_kept_few w events kept =
      let first = first_steps kept in
      let s = steps_along marks program w events first in
      omega (arith, all_events w events first, so_many s, so_many first)
    where
      so_many : (s : Steps) → sum_by length (schedules s) ≡ length (all_kept s)
      so_many s =
          let flat : length (flat_map (λ (steps : List ℕ). steps) s.earlier) ≡ sum_by length s.earlier =
          length-flat_map (λ (steps : List ℕ). steps) s.earlier in
          let one = sum_by_push length s.earlier s.kept in
          let sum = length-append (flat_map (λ (steps : List ℕ). steps) s.earlier) s.kept in
          omega (arith, flat, one, sum)

  -- from the first life on
  pub first_kept_few : (w : World) (events : List Event) →
      sum_by length (schedules (steps_along marks program w events (first_steps (only_life [])))) ≤ length events
  first_kept_few w events =
      let none : List ℕ = [] in
      omega (arith, all_kept_few w events (only_life none), sum_by-cons length none [])

-- ---- Lives

module _ (marks : List (List ℕ)) (program : List (List Slot)) where
  one_start : (w : World) (event : Event) (s : Steps) → length (steps_after marks program w event s).earlier ≤ length s.earlier + 1
  unfolding steps_after
  one_start w (Step h) s = omega (arith, ap length (event_earlier marks program w (Step h) s refl))
  one_start w (Evict line mask) s = omega (arith, ap length (event_earlier marks program w (Evict line mask) s refl))
  one_start w Crash s = omega (arith, ap length (event_earlier marks program w Crash s refl))
  one_start w Start s = by (can_start w)
    where
      by : (starts : Bool) → length (if starts then next_life s else s).earlier ≤ length s.earlier + 1
      by true = omega (arith, length-append s.earlier (s.kept ∷ []))
      by false = omega arith

  all_starts : (w : World) (events : List Event) (s : Steps) → length (steps_along marks program w events s).earlier ≤ length s.earlier + length events
  all_starts w [] s = omega arith
  all_starts w (e ∷ es) s = omega (arith, all_starts (after_event program w e) es (steps_after marks program w e s), one_start w e s)

  -- each of them but the first begins by an event
  pub first_lives_few : (w : World) (events : List Event) →
      length (schedules (steps_along marks program w events (first_steps (only_life [])))) ≤ length events + 1
  first_lives_few w events =
      let first = first_steps (only_life []) in
      let s = steps_along marks program w events first in
      omega (arith, all_starts w events first, length-append s.earlier (s.kept ∷ []))
