-- What stays so of a machine by every event, and what is so of each of its threads since it is so of one and of all others.
use Rattle.crash_simulation.proofs.Common.{◌≡◌, ◌≢◌, ℕ, List, sym, ◌∙◌, ap, arith, subst, ◌<◌, length, inl, inr, slice_get, props, nat_tests, refl, Event, Step}
use Rattle.crash_simulation.proofs.Common.{Evict, Crash, IsWellFormedWorld, World, after_event, Slot, Phase, log_stays, evictions_touch, steps_touch}
use Rattle.crash_simulation.proofs.Common.{queues_stand, IsInPhase, queues_stay_short, crashes_step, same_there, same_or_other, with_ghost, SimulatesBut}
use Rattle.crash_simulation.proofs.Common.{IsMachineOf, System, IsSystem, thread_count, ThreadGhost, InPhase}
use Rattle.machine_events.specs.declared.event.Event.TheVariants.{Start}
use Rattle.machine_model.proofs.Public.{after_start}
use Rattle.crash_simulation.proofs.LocksAfterStep.{own_ghost, other_ghost}

-- ---- The machine

pub mutexes_stay : (program : List (List Slot)) (w : World) (event : Event) → IsWellFormedWorld w →
    length (after_event program w event).holders ≡ length w.holders
mutexes_stay program w (Step h) sound = (steps_touch program w h sound).locks
mutexes_stay program w (Evict line mask) sound = ap (λ (v : World). length v.holders) (evictions_touch program w line mask).1
mutexes_stay program w Crash sound = (crashes_step program w).locks
mutexes_stay program w Start sound = after_start program w (λ (v : World). length v.holders ≡ length w.holders) refl refl

pub machine_stays : (y : System) (s : IsSystem y) (w : World) (event : Event) → IsMachineOf y w → IsMachineOf y (after_event y.runs.program w event)
machine_stays y s w event m =
    let stand = queues_stand y.runs.program w event (s.count ∙ sym m.count) m.sound in
    record {
      count = stand.1 ∙ m.count;
      log = m.log ∙ sym (log_stays y.runs.program w event m.sound);
      mutexes = mutexes_stay y.runs.program w event m.sound ∙ m.mutexes;
      sound = stand.0;
      short = queues_stay_short y.runs.program w event m.short;
    }

-- ---- Its threads

abbrev pub OfEach : (count : ℕ) → ((n : ℕ) → n < count → Type 0) → Type 0
OfEach count P = (n : ℕ) (inside : n < count) → P n inside

-- what is so of one thread and of all others is so of each
pub each_thread : (count h : ℕ) (below : h < count) (P : (n : ℕ) → n < count → Type 0) → P h below → ((n : ℕ) (inside : n < count) → n ≢ h → P n inside) →
    OfEach count P
each_thread count h below P own others n inside = elim (same_or_other n h) [
  | inl same ↦ subst (λ (k : ℕ). (within : k < count) → P k within) (sym same) (λ within. subst (P h) (prop below within) own) inside
  | inr other ↦ others n inside other
]
  where
    prop : IsProp (h < count)
    prop = hlevel props

-- each thread is placed with its ghost state, where the one thread has another
pub each_placed : (count : ℕ) (ghosts : ℕ → ThreadGhost) (h : ℕ) (below : h < count) (ghost : ThreadGhost)
    (P : (n : ℕ) → n < count → ThreadGhost → Type 0) → P h below ghost → ((n : ℕ) (inside : n < count) → n ≢ h → P n inside (ghosts n)) →
    OfEach count (λ n inside. P n inside (with_ghost ghosts h ghost n))
each_placed count ghosts h below ghost P own others =
    each_thread count h below (λ (n : ℕ) (inside : n < count). P n inside (with_ghost ghosts h ghost n))
    (subst (P h below) (sym (own_ghost ghosts h ghost)) own)
    (λ n inside other. subst (P n inside) (sym (other_ghost ghosts h ghost n other)) (others n inside other))

-- a thread whose hart is in a phase, by it
pub phase_of : (y : System) (s : IsSystem y) (w : World) (h : ℕ) {waiting : ℕ → Type 0} (stands : SimulatesBut y s w waiting) (phase : Phase)
    (i : IsInPhase w h phase) (below : h < thread_count y) →
    InPhase y w stands.abstract (s.codes.each h below) (stands.ghosts h) i.hart (stands.each h below).graph_thread phase
phase_of y s w h stands phase i below = grind (arith, nat_tests, same_there, slice_get)
