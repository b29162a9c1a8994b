-- Whatever happens, each lock is held by a hart that goes on: one that has ended, or whose recovery is done, holds nothing.
use Rattle.std.proofs.Common.{◌≡◌, ◌≢◌, ◌⊎◌, inl, inr, refl, ℕ, zero, suc, ◌+◌, List, [], ◌∷◌, length, replicate, ap, sym, ◌∙◌, subst, cond, Bool, true, false}
use Rattle.std.proofs.Common.{Option, Some, None, arith}
use Rattle.std.specs.Prelude.{slice_get, is_none, ◌==◌}
use Rattle.std.proofs.lemmas.Bool.{cases_eq, cond_both}
use Rattle.log_schemes.specs.declared.log.Log.{Log}
use Rattle.machine_events.specs.declared.event.Event.{Event}
use Rattle.machine_events.specs.declared.event.Event.TheVariants.{Step, Evict, Crash, Start}
use Rattle.machine_events.specs.declared.event.Reply.TheVariants.{Waits}
use Rattle.ido_base.specs.Locks.{is_held_by, held_from, holds_none, least_missing}
use Rattle.rv64_isa.specs.declared.object.Slot.{Slot}
use Rattle.machine_model.specs.declared.phase.Phase.{Phase}
use Rattle.machine_model.specs.declared.phase.Phase.TheVariants.{Take, Wait, Resume, Run, Done, Ended}
use Rattle.machine_model.specs.Machine.{Hart, World, Outcome, moved, with_hart, with_holder, happens, after_event, after_events, taken, waited, taking_from}
use Rattle.machine_model.specs.Machine.{anew, phase_step, record_of, run_step, start_of, started_anew, after_crash_of}
use Rattle.machine_model.specs.Frames.{IsHeldOn, Stays, Takes, Gives, Touches, IsWellFormedWorld}
use Rattle.machine_model.proofs.Public.{after_start, anew_there, get-set_same, queues_stand, starts_simulate, steps_touch}
use Rattle.deadlock_freedom.proofs.HartReplies.{HasNotStopped, has_not_stopped, run_goes_on, run_leads, by_phase, none_there}

-- each holder of a lock is a hart that goes on
pub record HoldersGoOn (w : World) : Type 0 where
  pub each : (lock h : ℕ) → slice_get w.holders lock ≡ Some (Some h) → (hart : Hart) × (slice_get w.harts h ≡ Some hart) × HasNotStopped hart

-- ---- One that holds nothing holds no lock

same_number : (h : ℕ) → (h == h) ≡ true
same_number h = grind arith

some_is : {X : Type 0} (a b : X) → Some a ≡ Some b → a ≡ b
some_is a b h = cc

held_when_there : (at : ℕ) (holders : List (Option ℕ)) (lock h : ℕ) → slice_get holders lock ≡ Some (Some h) → is_none (held_from at holders h) ≡ false
held_when_there at [] lock h e = cc
held_when_there at (o ∷ os) zero h e =
    let same : o ≡ Some h = some_is o (Some h) e in
    let held : is_held_by h o ≡ true = ap (λ (x : Option ℕ). is_held_by h x) same ∙ same_number h in
    ap (λ (b : Bool). is_none (cond b (Some at) (held_from (at + 1) os h))) held
held_when_there at (o ∷ os) (suc lock) h e =
    cond_both (is_held_by h o) (Some at) (held_from (at + 1) os h) (λ (x : Option ℕ). is_none x ≡ false) (λ _. refl) (λ _. held_when_there (at + 1) os lock h e)

holds_none_is : (holders : List (Option ℕ)) (lock h : ℕ) → holds_none holders h ≡ true → slice_get holders lock ≡ Some (Some h) → ⊥
holds_none_is holders lock h none e = let no : true ≡ false = sym none ∙ held_when_there 0 holders lock h e in cc

none_free : (n lock h : ℕ) → slice_get (replicate n None) lock ≡ Some (Some h) → ⊥
none_free zero lock h e = cc
none_free (suc n) zero h e = cc
none_free (suc n) (suc lock) h e = none_free n lock h e

-- ---- The hart that steps

-- the hart is there, and on or holding nothing
record IsLeft (h : ℕ) (v : World) : Type 0 where
  after : Hart
  there : slice_get v.harts h ≡ Some after
  on : HasNotStopped after ⊎ (holds_none v.holders h ≡ true)

module _ (w : World) (h : ℕ) (hart : Hart) (here : slice_get w.harts h ≡ Some hart) where
  goes : (v : World) (after : Hart) → v.harts ≡ w.harts → HasNotStopped after → IsLeft h (with_hart v h after)
  goes v after same on = record {
    after = after;
    there = get-set_same v.harts h after hart (ap (λ (hs : List Hart). slice_get hs h) same ∙ here);
    on = inl on;
  }

  takes : hart.phase ≡ Take → (lock : Option ℕ) → IsLeft h (taken w h hart lock).0
  takes is None = goes w (record hart { phase = Wait }) refl (has_not_stopped (record hart { phase = Wait }) Wait refl (λ e. cc) (λ e. cc))
  takes is (Some lock) = by_holder (slice_get w.holders lock) refl
    where
      on : HasNotStopped hart
      on = has_not_stopped hart Take is (λ e. cc) (λ e. cc)

      took : Option (Option ℕ) → Outcome
      took x = elim x [
        | Some (Some holder) ↦ (w, Waits lock holder)
        | _ ↦ moved (with_holder w lock (Some h)) h hart
      ]

      by_slot : (holder : Option (Option ℕ)) → slice_get w.holders lock ≡ holder → IsLeft h (took holder).0 → IsLeft h (taken w h hart (Some lock)).0
      by_slot holder e left = subst (λ (x : Option (Option ℕ)). IsLeft h (took x).0) (sym e) left

      by_holder : (holder : Option (Option ℕ)) → slice_get w.holders lock ≡ holder → IsLeft h (taken w h hart (Some lock)).0
      by_holder None e = by_slot None e (goes (with_holder w lock (Some h)) hart refl on)
      by_holder (Some None) e = by_slot (Some None) e (goes (with_holder w lock (Some h)) hart refl on)
      by_holder (Some (Some holder)) e = by_slot (Some (Some holder)) e (record { after = hart; there = here; on = inl on })

  waits : hart.phase ≡ Wait → (found : Option ℕ) → IsLeft h (waited w h hart found).0
  waits is None = goes w (record hart { phase = Resume }) refl (has_not_stopped (record hart { phase = Resume }) Resume refl (λ e. cc) (λ e. cc))
  waits is (Some g) = record { after = hart; there = here; on = inl (has_not_stopped hart Wait is (λ e. cc) (λ e. cc)) }

  module _ (program : List (List Slot)) where
    runs : hart.phase ≡ Run → IsLeft h (run_step program w h hart).0
    runs is = let l = run_leads w h hart here is program in record { after = l.after; there = l.there; on = l.on }

    -- what the step leaves, or the world stays
    left : (phase : Phase) → hart.phase ≡ phase → IsLeft h (phase_step program w h hart phase).0 ⊎ ((phase_step program w h hart phase).0 ≡ w)
    left Take is = inl (takes is (least_missing w.holders (record_of w.log w.words h) h))
    left Wait is = inl (waits is (taking_from 0 w.harts))
    left Resume is = inl (goes w _ refl (run_goes_on _ refl))
    left Run is = inl (runs is)
    left Done is = inr refl
    left Ended is = inr refl

    stepped_left : IsLeft h (after_event program w (Step h)) ⊎ (after_event program w (Step h) ≡ w)
    stepped_left =
        subst (λ (o : Outcome). IsLeft h o.0 ⊎ (o.0 ≡ w)) (sym (by_phase program w h hart here hart.phase refl)) (left hart.phase refl)

-- ---- Every event

own_by : (program : List (List Slot)) (w : World) (h lock : ℕ) → HoldersGoOn w → (x : Option Hart) → slice_get w.harts h ≡ x →
    slice_get (after_event program w (Step h)).holders lock ≡ Some (Some h) →
    (hart : Hart) × (slice_get (after_event program w (Step h)).harts h ≡ Some hart) × HasNotStopped hart
own_by program w h lock on None missing held =
    let same : after_event program w (Step h) ≡ w = ap (λ (o : Outcome). o.0) (none_there program w h missing) in
    subst (λ (v : World). (hart : Hart) × (slice_get v.harts h ≡ Some hart) × HasNotStopped hart) (sym same)
    (on.each lock h (sym (ap (λ (v : World). slice_get v.holders lock) same) ∙ held))
own_by program w h lock on (Some hart) here held = elim (stepped_left w h hart here program) [
  | inl l ↦ elim (l.on) [
    | inl goes ↦ (l.after, l.there, goes)
    | inr none ↦ absurd (holds_none_is (after_event program w (Step h)).holders lock h none held)
  ]
  | inr same ↦ subst (λ (v : World). (hart : Hart) × (slice_get v.harts h ≡ Some hart) × HasNotStopped hart) (sym same)
      (on.each lock h (sym (ap (λ (v : World). slice_get v.holders lock) same) ∙ held))
]

-- another hart holds what it held
other_by : (g h : ℕ) (w v : World) (lock : ℕ) → h ≢ g → Touches g w v → HoldersGoOn w → slice_get v.holders lock ≡ Some (Some h) →
    IsHeldOn g (slice_get w.holders lock) (slice_get v.holders lock) → (hart : Hart) × (slice_get v.harts h ≡ Some hart) × HasNotStopped hart
other_by g h w v lock ne t on held (Stays is) =
    let o = on.each lock h (sym is ∙ held) in
    (o.0, t.others h ne ∙ o.1, o.2)
other_by g h w v lock ne t on held (Takes free is) =
    let other : g ≡ h = some_is g h (some_is (Some g) (Some h) (sym is ∙ held)) in
    absurd (ne (sym other))
other_by g h w v lock ne t on held (Gives own is) = absurd (let no : Some None ≡ Some (Some h) = sym is ∙ held in cc)

-- where another life begins, each hart goes on
anew_on : (program : List (List Slot)) (w : World) → HoldersGoOn w → HoldersGoOn (started_anew program w)
anew_on program w on = record {
  each = λ lock h held.
      let o = on.each lock h held in
      let it : Hart = anew program (0 + h) o.0 in
      (it, anew_there program 0 w.harts h o.0 o.1, has_not_stopped it Run refl (λ e. cc) (λ e. cc));
}

stays_on : (program : List (List Slot)) (w : World) (event : Event) → IsWellFormedWorld w → HoldersGoOn w → HoldersGoOn (after_event program w event)
unfolding happens after_crash_of
stays_on program w (Step g) sound on =
    let t = steps_touch program w g sound in
    record {
      each = λ lock h held. elim (cases_eq h g) [
        | inl is ↦
            let own : slice_get (after_event program w (Step g)).holders lock ≡ Some (Some g) = held ∙ ap (λ (n : ℕ). Some (Some n)) is in
            subst (λ (n : ℕ). (hart : Hart) × (slice_get (after_event program w (Step g)).harts n ≡ Some hart) × HasNotStopped hart) (sym is)
            (own_by program w g lock on (slice_get w.harts g) refl own)
        | inr ne ↦ other_by g h w (after_event program w (Step g)) lock ne t on held (t.holders lock)
      ];
    }
stays_on program w (Evict line mask) sound on = record { each = on.each }
stays_on program w Crash sound on = record { each = λ lock h held. absurd (none_free (length w.holders) lock h held) }
stays_on program w Start sound on = after_start program w HoldersGoOn (anew_on program w on) on

along : (program : List (List Slot)) (w : World) (events : List Event) → length program ≡ length w.harts → IsWellFormedWorld w → HoldersGoOn w →
    HoldersGoOn (after_events program w events)
along program w [] count sound on = on
along program w (event ∷ events) count sound on =
    let next = queues_stand program w event count sound in
    along program (after_event program w event) events (count ∙ sym next.1) next.0 (stays_on program w event sound on)

start_on : (log : Log) (program : List (List Slot)) (locks : ℕ) (initial : List ℕ) → HoldersGoOn (start_of log program locks initial)
unfolding start_of
start_on log program locks initial = record { each = λ lock h held. absurd (none_free locks lock h held) }

counts : (program : List (List Slot)) (w : World) (events : List Event) → length program ≡ length w.harts → IsWellFormedWorld w →
    length (after_events program w events).harts ≡ length program
counts program w [] count sound = sym count
counts program w (event ∷ events) count sound =
    let next = queues_stand program w event count sound in
    counts program (after_event program w event) events (count ∙ sym next.1) next.0

-- there goes on to be a hart for each thread
pub harts_stay : (log : Log) (program : List (List Slot)) (locks : ℕ) (initial : List ℕ) (events : List Event) →
    length (after_events program (start_of log program locks initial) events).harts ≡ length program
harts_stay log program locks initial events =
    let starts = starts_simulate log program locks initial in
    counts program (start_of log program locks initial) events (sym starts.1) starts.0

pub holders_go_on : (log : Log) (program : List (List Slot)) (locks : ℕ) (initial : List ℕ) (events : List Event) →
    HoldersGoOn (after_events program (start_of log program locks initial) events)
holders_go_on log program locks initial events =
    let starts = starts_simulate log program locks initial in
    along program (start_of log program locks initial) events (sym starts.1) starts.0 (start_on log program locks initial)
