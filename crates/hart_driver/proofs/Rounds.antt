-- A leg that goes on by an event.
use Rattle.std.proofs.Common.{◌≡◌, ◌≢◌, ◌⊎◌, inl, inr, ℕ, ◌+◌, ◌<◌, ◌≤◌, List, [], ◌∷◌, ◌++◌, length, Bool, true, false, cond, sym, ap, ◌∙◌}
use Rattle.std.proofs.Common.{subst, arith, ne_eqb, drop, length-append, get_or, set, Option, ◌&&◌}
use Rattle.std.specs.Prelude.{nat_lt}
use Rattle.std.proofs.lemmas.Bool.{cases_eq, eqb-true}
use Rattle.std.proofs.lemmas.List.{get_or-set_same, get_or-set_other, length-set}
use Rattle.std.proofs.lemmas.List.Sums.{sum_by_push}
use Rattle.std.proofs.Math.Seq.{drop-append_seam}
use mathlib.Core.List.{append_assoc}
use Rattle.machine_events.specs.declared.event.Event.{Event}
use Rattle.machine_events.specs.declared.event.Event.TheVariants.{Step, Evict, Crash}
use Rattle.machine_events.specs.declared.event.Event.TheVariants as events
use Rattle.machine_events.specs.declared.machine.Core.{Ghosts}
use Rattle.machine_events.specs.Cores.{IsValid, played}
use Rattle.machine_events.proofs.Public.{played-append}
use Rattle.hart_board.specs.CoreTurns.{IsPlayed}
use Rattle.hart_driver.specs.declared.start.Start.{Start}
use Rattle.hart_driver.specs.Legs.{AreTurns, Leg, has_ended, is_event_of, made, workers}
use Rattle.hart_driver.specs.Driven.{HasAdvanced}
use Rattle.hart_driver.specs.links.UnderWay.{IsNext, IsUnderWay, leg_from, since}
use Rattle.hart_driver.proofs.Stops.{not_full, turns_more, who_goes}

-- an event is one worker's
other_event : (harts w v : ℕ) (event : Event) → is_event_of harts w event ≡ true → v ≢ w → is_event_of harts v event ≡ false
other_event harts w v (Step hart) own other = ne_eqb hart v (λ e. other (sym e ∙ eqb-true hart w own))
other_event harts w v (Evict line mask) own other = ne_eqb harts v (λ e. other (sym e ∙ eqb-true harts w own))
other_event harts w v Crash own other = absurd (cc own)
other_event harts w v events.Start own other = absurd (cc own)

module _ {C L V : Type 0} (members : Ghosts C L) (coming : V → ℕ → ℕ × ℕ) (s : Start C V) where
  open members use {Meaning as M, behaviour as b, opening, history, hart_count, space, evictable}

  abbrev leg : Leg M
  leg = leg_from b opening history hart_count coming s

  abbrev UnderWay : C → List ℕ → Option V → Type 0
  UnderWay core counts evict = IsUnderWay b opening history hart_count coming space evictable s core counts evict

  abbrev Plays : C → Type 0
  Plays core = IsPlayed opening history hart_count space evictable s.core.value (since history s core) core

  -- an event that might be asked at first may be asked now
  pub valid_now : (core : C) (event : Event) → Plays core → IsValid (hart_count s.core.value) (evictable s.core.value) event →
      IsValid (hart_count core) (evictable core) event
  valid_now core (Step hart) p v = let h = p.harts in omega (arith, h, v)
  valid_now core (Evict line mask) p v = (p.evicts line mask).1 v
  valid_now core Crash p v = tt
  valid_now core events.Start p v = absurd v

  -- how many events the core has had
  pub events_now : (core : C) → Plays core → length (history core) ≡ length (history s.core.value) + length (since history s core)
  events_now core p = ap length p.events_are ∙ length-append (history s.core.value) (since history s core)

  -- whether a worker's hart has ended, by the core
  pub ended_now : (core : C) (w : ℕ) (ended : Bool) → Plays core →
      ended ≡ (nat_lt w (hart_count core) && b.is_stopped (played b (opening core) (history core)) w) → has_ended leg w (since history s core) ≡ ended
  ended_now core w ended p is =
      let whole : played b (opening core) (history core) ≡ played b (played b (opening s.core.value) (history s.core.value)) (since history s core) =
      ap (λ (m : M). played b m (history core)) p.opens ∙ (ap (played b (opening s.core.value)) p.events_are
      ∙ played-append b (opening s.core.value) (history s.core.value) (since history s core)) in
      sym (is ∙ (λ i. nat_lt w (p.harts i) && b.is_stopped (whole i) w))

  -- whether the leg has all its events, by the core
  pub full_now : (core : C) → Plays core → length (history s.core.value) ≤ s.moment →
      (length (since history s core) ≡ leg.most → length (history core) ≡ s.moment)
      × (length (history core) ≡ s.moment → length (since history s core) ≡ leg.most)
  full_now core p begun = let n = events_now core p in ((λ e. omega (arith, e, n, begun)), λ e. omega (arith, e, n, begun))

  -- a worker's next event is made
  module _ {core new : C} {counts : List ℕ} {w : ℕ} {evict evict_new : Option V} {event : Event} (u : UnderWay core counts evict)
      (next : IsNext hart_count coming evictable s leg (since history s core) w event evict_new) (inside : w < workers leg)
      (played_on : IsPlayed opening history hart_count space evictable core (event ∷ []) new) where
    whole : history new ≡ history s.core.value ++ (since history s core ++ event ∷ [])
    whole =
        played_on.events_are ∙ (ap (λ (z : List Event). z ++ event ∷ []) u.plays.events_are
        ∙ append_assoc (history s.core.value) (since history s core) (event ∷ []))

    pub since_more : since history s new ≡ since history s core ++ event ∷ []
    since_more = ap (drop (length (history s.core.value))) whole ∙ drop-append_seam (history s.core.value) (since history s core ++ event ∷ [])

    plays_on : Plays new
    plays_on = record {
      opens = played_on.opens ∙ u.plays.opens;
      events_are = whole ∙ ap (λ (z : List Event). history s.core.value ++ z) (sym since_more);
      harts = played_on.harts ∙ u.plays.harts;
      room =
          (let n = u.plays.room in let m = ap length since_more in let k = length-append (since history s core) (event ∷ []) in let l = played_on.room in
          omega (arith, n, m, k, l));
      evicts = λ line mask. let x = played_on.evicts line mask in let y = u.plays.evicts line mask in ((λ h. y.0 (x.0 h)), λ h. x.1 (y.1 h));
    }

    room_left : length (since history s core) ≢ leg.most
    room_left = let who = who_goes leg (since history s core) event next.turn in not_full leg who.0 (since history s core) who.1

    made_more : (v : ℕ) → made leg v (since history s new) ≡ made leg v (since history s core) + cond (is_event_of leg.harts v event) 1 0
    made_more v = ap (made leg v) since_more ∙ sum_by_push (λ (x : Event). cond (is_event_of leg.harts v x) 1 0) (since history s core) event

    counted_on : (v : ℕ) → v < workers leg → get_or (set counts w (get_or counts w 0 + 1)) v 0 ≡ made leg v (since history s new)
    counted_on v within = by (cases_eq v w)
      where
        by : (v ≡ w) ⊎ (v ≡ w → ⊥) → get_or (set counts w (get_or counts w 0 + 1)) v 0 ≡ made leg v (since history s new)
        by (inl same) =
            ap (λ (k : ℕ). get_or (set counts w (get_or counts w 0 + 1)) k 0) same
            ∙ (get_or-set_same counts w (get_or counts w 0 + 1) 0 (let n = u.size in omega (arith, n, inside))
            ∙ (ap (λ (k : ℕ). k + 1) (u.counted w inside)
            ∙ (sym (made_more w ∙ ap (λ (z : Bool). made leg w (since history s core) + cond z 1 0) next.own)
            ∙ ap (λ (k : ℕ). made leg k (since history s new)) (sym same))))
        by (inr other) =
            get_or-set_other counts w v (get_or counts w 0 + 1) 0 other
            ∙ (u.counted v within
            ∙ sym (made_more v ∙ (ap (λ (z : Bool). made leg v (since history s core) + cond z 1 0) (other_event leg.harts w v event next.own other)
            ∙ omega arith)))

    pub goes_on : UnderWay new (set counts w (get_or counts w 0 + 1)) evict_new
    goes_on = record {
      drives = u.drives;
      plays = plays_on;
      each = subst (AreTurns leg) (sym since_more) (turns_more leg (since history s core) event u.each next.turn);
      within =
          (let full = full_now core u.plays u.drives.begun in let few = u.within in
          let left : length (history core) ≢ s.moment = (λ e. room_left (full.1 e)) in
          let n = ap length played_on.events_are in let m = length-append (history core) (event ∷ []) in omega (arith, left, few, n, m));
      size = length-set counts w (get_or counts w 0 + 1) ∙ u.size;
      counted = counted_on;
      advanced =
          subst (λ (z : List Event). HasAdvanced coming s.evict.value (made leg (hart_count s.core.value) z) evict_new) (sym since_more) next.advanced;
    }
