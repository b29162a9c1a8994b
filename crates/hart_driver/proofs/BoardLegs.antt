-- The journal of a board, as the events of a leg.
use Rattle.std.proofs.Common.{◌≡◌, inl, inr, refl, ℕ, ◌+◌, ◌<◌, ◌≤◌, List, [], ◌∷◌, ◌++◌, length, Bool, cond, sym, ap, ◌∙◌}
use Rattle.std.proofs.Common.{subst, arith, length-append, eqb, eq-eqb, ne_eqb, drop, Option, Some, None}
use Rattle.std.specs.Prelude.{All}
use Rattle.std.proofs.lemmas.List.Elements.{All-nil, All-cons, All-head, All-tail}
use Rattle.std.proofs.Math.Seq.{drop-append_seam}
use mathlib.Core.List.{append_assoc}
use Rattle.machine_events.specs.declared.event.Event.{Event}
use Rattle.machine_events.specs.declared.event.Event.TheVariants.{Step, Evict, Crash}
use Rattle.machine_events.specs.declared.event.Event.TheVariants as events
use Rattle.machine_events.specs.declared.machine.Core.{Ghosts}
use Rattle.machine_events.specs.Cores.{played}
use Rattle.machine_events.proofs.Public.{played-append}
use Rattle.hart_board.specs.declared.journal.Entry.{Entry}
use Rattle.hart_board.specs.CoreTurns.{IsPlayed}
use Rattle.hart_board.specs.Journals.{IsOwn, IsTurn as IsTurnOf, entries_by, events_of, made_by, play_from}
use Rattle.hart_board.proofs.Public.{entries-append, events-append}
use Rattle.hart_driver.specs.declared.start.Start.{Start}
use Rattle.hart_driver.specs.Legs.{AreTurns, IsTurn, Leg, eviction, made, stop_of, workers}
use Rattle.hart_driver.specs.Driven.{HasAdvanced, leg_of}
use Rattle.hart_driver.specs.links.BoardRuns.{HasEvicted, HasRunBoard}
use Rattle.hart_driver.specs.links.Parts.{first_evictions}
use Rattle.hart_driver.specs.links.UnderWay.{IsUnderWay, since}
use Rattle.hart_driver.proofs.BoardEvents.{All-at, All-both, All-first, AreOwn, EventIn, count_both, count_own, count_turns, each_own, event_in}
use Rattle.hart_driver.proofs.OwnEvictions.{count_first, eviction_at}
use Rattle.hart_driver.proofs.Stops.{no_stop, within_most}

-- the threads of a board have run a core, with so many turns for each seat, up to a moment
module _ {C L V : Type 0} (members : Ghosts C L) (coming : V → ℕ → ℕ × ℕ) (core : C) (turns moment : ℕ) (evict : Option V) {left : C} {counts : List ℕ}
    {evict_left : Option V} (ran : HasRunBoard members.behaviour members.opening members.history members.hart_count coming members.space members.evictable
    core turns moment evict left counts evict_left) where
  open members use {Meaning as M, behaviour as b, opening, history, hart_count}
  open ran use {some, journal, seats, legal, theirs, evictor}

  abbrev harts : ℕ
  harts = hart_count core

  abbrev leg : Leg M
  leg = leg_of b opening history hart_count coming core turns moment evict

  seats_few : (v w : Option V) → HasEvicted coming harts seats journal v w → seats ≤ harts + 1
  seats_few None None is = omega (arith, is)
  seats_few (Some v) (Some w) is = omega (arith, is.0)
  seats_few None (Some w) is = absurd is
  seats_few (Some v) None is = absurd is

  low : All (λ (e : Entry). e.seat ≤ harts) journal
  low = lower journal theirs
    where
      lower : (es : List Entry) → All (λ (e : Entry). e.seat < seats) es → All (λ (e : Entry). e.seat ≤ harts) es
      lower [] each = All-nil _
      lower (e ∷ es) each =
          All-cons (λ (e : Entry). e.seat ≤ harts) e es
          (let few = seats_few evict evict_left evictor in let here = All-head (λ (e : Entry). e.seat < seats) e es each in omega (arith, few, here))
          (lower es (All-tail (λ (e : Entry). e.seat < seats) e es each))

  pub own : AreOwn harts journal
  own = All-both (λ (e : Entry). e.seat ≤ harts) (λ (e : Entry). All (IsOwn harts e.seat) e.events) journal low
      (each_own (play_from b (opening core) (history core) harts seats) turns moment journal legal)

  pub made_is : (w : ℕ) → w ≤ harts → made leg w (events_of journal) ≡ made_by w journal
  made_is w few = count_turns harts w journal few own

  workers_are : (v w : Option V) → v ≡ evict → HasEvicted coming harts seats journal v w → workers leg ≡ seats
  workers_are None None which is =
      subst (λ (o : Option V). workers (leg_of b opening history hart_count coming core turns moment o) ≡ seats) which
      (ap (λ (z : Bool). cond z 0 (harts + 0)) (ne_eqb harts 0 (λ e. omega (arith, e, some))) ∙ omega (arith, is))
  workers_are None (Some w) which is = absurd is
  workers_are (Some v) None which is = absurd is
  workers_are (Some v) (Some w) which is =
      subst (λ (o : Option V). workers (leg_of b opening history hart_count coming core turns moment o) ≡ seats) which
      (ap (λ (z : Bool). cond z 0 (harts + 1)) (ne_eqb harts 0 (λ e. omega (arith, e, some))) ∙ omega (arith, is.0))

  pub workers_is : workers leg ≡ seats
  workers_is = workers_are evict evict_left refl evictor

  module _ (before after : List Event) (event : Event) (q : events_of journal ≡ before ++ event ∷ after) where
    abbrev at : EventIn journal before event
    at = event_in journal before after event q

    abbrev turn : IsTurnOf (play_from b (opening core) (history core) harts seats) turns moment at.turns at.turn
    turn = legal at.turns at.turn at.later at.journal_is

    abbrev seat : ℕ
    seat = at.turn.seat

    all_own : AreOwn harts (at.turns ++ at.turn ∷ at.later)
    all_own = subst (AreOwn harts) at.journal_is own

    few : seat ≤ harts
    few = (All-at (λ (e : Entry). (e.seat ≤ harts) × All (IsOwn harts e.seat) e.events) at.turns at.later at.turn all_own).0

    turn_own : All (IsOwn harts seat) (at.xs ++ event ∷ at.ys)
    turn_own = subst (All (IsOwn harts seat)) at.events_are turn.own

    made_before : made leg seat before ≡ made_by seat at.turns + length at.xs
    made_before =
        let a = count_both harts seat (events_of at.turns) at.xs in
        let c = count_turns harts seat at.turns few
        (All-first (λ (e : Entry). (e.seat ≤ harts) × All (IsOwn harts e.seat) e.events) at.turns (at.turn ∷ at.later) all_own) in
        let d = count_own harts seat seat at.xs few few (All-first (IsOwn harts seat) at.xs (event ∷ at.ys) turn_own) in
        let e : cond (eqb seat seat) (length at.xs) 0 ≡ length at.xs = ap (λ (z : Bool). cond z (length at.xs) 0) (eq-eqb seat seat refl) in
        ap (λ (z : List Event). made leg seat z) at.before_is ∙ (a ∙ omega (arith, c, d, e))

    goes : stop_of leg seat before ≡ None
    goes = no_stop leg seat before
        (λ inside still.
        turn.each at.xs at.ys event at.events_are
        (inl (
          inside,
          ap (λ (m : M). b.is_stopped m seat) (played-append b (opening core) (history core) (events_of at.turns ++ at.xs)
              ∙ ap (played b (played b (opening core) (history core))) (sym at.before_is)) ∙ still,
        )))
        (λ all. turn.each at.xs at.ys event at.events_are (inr (inl (sym made_before ∙ all))))
        (λ full. turn.each at.xs at.ys event at.events_are (inr (inr
        (let n = ap length at.before_is in let m = length-append (events_of at.turns) at.xs in let begun = ran.drives.begun in
        omega (arith, n, m, full, begun)))))

    inside : seat < seats
    inside = All-at (λ (e : Entry). e.seat < seats) at.turns at.later at.turn (subst (All (λ (e : Entry). e.seat < seats)) at.journal_is theirs)

    event_own : IsOwn harts seat event
    event_own = All-at (IsOwn harts seat) at.xs at.ys event turn_own

    -- where it is the seat without a hart, its event is the next eviction
    next_eviction : seat ≡ harts → (v w : Option V) → HasEvicted coming harts seats journal v w →
        (line mask : ℕ) → event ≡ Evict line mask → v ≡ evict → eviction leg (made leg harts before) ≡ Some (line, mask)
    next_eviction same None None is line mask e which = absurd (let s = inside in omega (arith, s, same, is))
    next_eviction same None (Some w) is line mask e which = absurd is
    next_eviction same (Some v) None is line mask e which = absurd is
    next_eviction same (Some v) (Some w) is line mask e which =
        let mine : entries_by harts journal ≡ entries_by harts at.turns ++ at.turn ∷ entries_by harts at.later =
        ap (entries_by harts) at.journal_is ∙ (entries-append harts at.turns (at.turn ∷ at.later)
        ∙ ap (λ (z : Bool). entries_by harts at.turns ++ cond z (at.turn ∷ entries_by harts at.later) (entries_by harts at.later))
        (eq-eqb seat harts same)) in
        let cut : first_evictions (coming v) is.1.0
        ≡ (events_of (entries_by harts at.turns) ++ at.xs) ++ event ∷ (at.ys ++ events_of (entries_by harts at.later)) =
        sym is.1.1 ∙ (ap events_of mine ∙ (events-append (entries_by harts at.turns) (at.turn ∷ entries_by harts at.later)
        ∙ (ap (λ (z : List Event). events_of (entries_by harts at.turns) ++ (z ++ events_of (entries_by harts at.later))) at.events_are
        ∙ (ap (λ (z : List Event). events_of (entries_by harts at.turns) ++ z) (append_assoc at.xs (event ∷ at.ys) (events_of (entries_by harts at.later)))
        ∙ sym (append_assoc (events_of (entries_by harts at.turns)) at.xs (event ∷ (at.ys ++ events_of (entries_by harts at.later)))))))) in
        let place : length (events_of (entries_by harts at.turns) ++ at.xs) ≡ made leg harts before =
        length-append (events_of (entries_by harts at.turns)) at.xs ∙ (ap (λ (n : ℕ). made_by n at.turns + length at.xs) (sym same)
        ∙ (sym made_before ∙ ap (λ (n : ℕ). made leg n before) same)) in
        let found = eviction_at (coming v) is.1.0 (events_of (entries_by harts at.turns) ++ at.xs)
        (at.ys ++ events_of (entries_by harts at.later)) event cut in
        let now : event ≡ Evict (coming v (made leg harts before)).0 (coming v (made leg harts before)).1 =
        found ∙ ap (λ (k : ℕ). Evict (coming v k).0 (coming v k).1) place in
        let both : Evict line mask ≡ Evict (coming v (made leg harts before)).0 (coming v (made leg harts before)).1 = sym e ∙ now in
        let l : line ≡ (coming v (made leg harts before)).0 = cc both in
        let m : mask ≡ (coming v (made leg harts before)).1 = cc both in
        subst (λ (o : Option V). eviction (leg_of b opening history hart_count coming core turns moment o) (made leg harts before) ≡ Some (line, mask)) which
        (λ i. Some (sym l i, sym m i))

    by_event : (x : Event) → event ≡ x → IsOwn harts seat x → IsTurn leg before x
    by_event (Step hart) e mine = (mine.1, ap (λ (n : ℕ). stop_of leg n before) mine.0 ∙ goes)
    by_event (Evict line mask) e mine =
        let same : seat ≡ harts = omega (arith, few, mine) in
        let count = workers_is in let s = inside in
        (omega (arith, count, s, same), next_eviction same evict evict_left evictor line mask e refl, ap (λ (n : ℕ). stop_of leg n before) (sym same) ∙ goes)
    by_event Crash e mine = absurd mine
    by_event events.Start e mine = absurd mine

    turns_at : IsTurn leg before event
    turns_at = by_event event refl event_own

  pub are_turns : AreTurns leg (events_of journal)
  are_turns before after event q = turns_at before after event q

  -- as many evictions are over as the leg has
  pub has_advanced : (v w : Option V) → HasEvicted coming harts seats journal v w → HasAdvanced coming v (made leg harts (events_of journal)) w
  has_advanced None None is = tt
  has_advanced None (Some w) is = absurd is
  has_advanced (Some v) None is = absurd is
  has_advanced (Some v) (Some w) is =
      let k = made_is harts (omega arith) in let l = ap length is.1.1 in let m = count_first (coming v) is.1.0 in
      λ n. is.1.2 n ∙ ap (coming v) (omega (arith, k, l, m))

  pub few_seats : seats ≤ harts + 1
  few_seats = seats_few evict evict_left evictor

module _ {C L V : Type 0} (members : Ghosts C L) (coming : V → ℕ → ℕ × ℕ) where
  open members use {behaviour as b, opening, history, hart_count, space, evictable}

  -- once the threads are joined, the leg is under way
  pub under_way : (s : Start C V) {left : C} {counts : List ℕ} {evict_left : Option V} →
      HasRunBoard b opening history hart_count coming space evictable s.core.value s.turns s.moment s.evict.value left counts evict_left →
      IsUnderWay b opening history hart_count coming space evictable s left counts evict_left
  under_way s {left} {counts} {evict_left} r =
      let core = s.core.value in let evict = s.evict.value in let journal = r.journal in
      let all : since history s left ≡ events_of journal =
      ap (drop (length (history core))) r.plays.events_are ∙ drop-append_seam (history core) (events_of journal) in
      let leg = leg_of b opening history hart_count coming core s.turns s.moment evict in
      let each : AreTurns leg (events_of journal) =
      are_turns members coming core s.turns s.moment evict r in
      let size = workers_is members coming core s.turns s.moment evict r in
      let few = few_seats members coming core s.turns s.moment evict r in
      record {
        drives = r.drives;
        plays = subst (λ (z : List Event). IsPlayed opening history hart_count space evictable core z left) (sym all) r.plays;
        each = subst (AreTurns leg) (sym all) each;
        within =
            let n = within_most leg (events_of journal) each in let m = ap length r.plays.events_are in
            let k = length-append (history core) (events_of journal) in
            let g = r.drives.begun in omega (arith, n, m, k, g);
        size = r.size ∙ sym size;
        counted = λ w inside.
            r.counted w (omega (arith, inside, size))
            ∙ (sym (made_is members coming core s.turns s.moment evict r w
            (omega (arith, inside, size, few))) ∙ ap (made leg w) (sym all));
        advanced = subst (λ (z : List Event). HasAdvanced coming evict (made leg (hart_count core) z) evict_left) (sym all)
            (has_advanced members coming core s.turns s.moment evict r evict evict_left r.evictor);
      }
