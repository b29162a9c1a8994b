-- What a seat in its turn may do, and what it knows after it.
use Rattle.std.proofs.Common.{◌≡◌, ℕ, ◌+◌, ◌≤◌, List, [], ◌∷◌, ◌++◌, length, Some, None, Option, sym, refl, ap, ◌∙◌, subst, arith, length-append}
use Rattle.machine_events.specs.declared.event.Event.{Event}
use Rattle.machine_events.specs.declared.event.Event.TheVariants.{Step, Evict, Crash, Start}
use Rattle.machine_events.specs.declared.machine.Core.{Ghosts}
use Rattle.machine_events.specs.Cores.{Behaviour, IsValid}
use Rattle.atomic_table.specs.Table.{Me}
use Rattle.hart_board.specs.declared.journal.Entry.{Entry}
use Rattle.hart_board.specs.declared.views.Known.{Known}
use Rattle.hart_board.specs.declared.views.View.{View}
use Rattle.hart_board.specs.declared.views.View.TheVariants.{Seated}
use Rattle.hart_board.specs.declared.core_turn.Quota.{Quota}
use Rattle.hart_board.specs.declared.core_turn.Made.{Made}
use Rattle.hart_board.specs.declared.seat.Seat.{Seat}
use Rattle.hart_board.specs.Journals.{events_of, made_by, IsOwn, IsTurn, IsLegal, last_reply}
use Rattle.hart_board.specs.CoreTurns.{BeginsAt, IsPlayed, TurnGives, IsWithin, events_made, count_made, made_entry}
use Rattle.hart_board.specs.BoardRule.{IsPlayOf, play_of, turn_of, with_turn}
use Rattle.hart_board.specs.Seats.{BeginsAgain, Represents, HasTicket, IsInTurn, IsInReach, quota_of, seen_in}
use Rattle.hart_board.proofs.StepsKeepInv.{is_seated}
use Rattle.hart_board.proofs.Journals.{legal_more}
use Rattle.hart_board.proofs.CoreTurns.{turn_is, is_turn, last_is, goes_after, legal_under, made_more, count_is}

pub is_within : {C M : Type 0} (b : Behaviour M) (opening : C → M) (history : C → List Event) (hart_count : C → ℕ) (core : C) (q : Quota) (event : Event)
    (most : ℕ) (result : Option Made)
    → TurnGives b opening history hart_count core q event most result → IsWithin most result
is_within b opening history hart_count core q event most None h = tt
is_within b opening history hart_count core q event most (Some made) h = (h.some, h.few)

pub still_valid : {C M : Type 0} (opening : C → M) (history : C → List Event) (hart_count space : C → ℕ) (evictable : C → ℕ → ℕ → Type 0) (from to : C)
    (events : List Event) (event : Event)
    → IsPlayed opening history hart_count space evictable from events to → IsValid (hart_count from) (evictable from) event →
    IsValid (hart_count to) (evictable to) event
still_valid opening history hart_count space evictable from to events (Step hart) p v = let h = p.harts in omega (arith, h, v)
still_valid opening history hart_count space evictable from to events (Evict line mask) p v = (p.evicts line mask).1 v
still_valid opening history hart_count space evictable from to events Crash p v = tt
still_valid opening history hart_count space evictable from to events Start p v = absurd v

module _ {C L : Type 0} (m : Ghosts C L) where
  open m use {behaviour as b, opening, history, hart_count, space, evictable, is_at_beginning}

  abbrev Turning : Seat C L → Known C → C → Type 0
  Turning s k core = IsInTurn (play_of b opening history hart_count) (IsPlayOf opening history hart_count space evictable) s k core

  -- the core in hand may be asked for a turn
  pub held : (s : Seat C L) (k : Known C) (core : C) (event : Event) → Turning s k core → IsInReach history space k.terms →
      IsOwn (hart_count k.terms.opening.value) s.number event
      → IsValid (hart_count k.terms.opening.value) (evictable k.terms.opening.value) event
      → IsOwn (hart_count core) s.number event × IsValid (hart_count core) (evictable core) event × (length (history core) ≤ s.ceiling)
      × (s.ceiling ≤ length (history core) + space core)
  held s k core event h reach own valid =
      let len = ap length h.plays.events_are ∙ length-append (history k.terms.opening.value) (events_of k.seen) in
      let under = legal_under (play_of b opening history hart_count k.terms) k.terms.turns k.terms.ceiling k.seen reach.begun h.legal in
      let room = h.plays.room in let reached = reach.reached in let is = h.ceiling_is in (
        subst (λ (z : ℕ). IsOwn z s.number event) (sym h.plays.harts) own,
        still_valid opening history hart_count space evictable k.terms.opening.value core (events_of k.seen) event h.plays valid,
        omega (arith, len, under, is),
        omega (arith, len, room, reached, is),
      )

  -- a seat in its turn has made its event with the core in hand, at most so often, and has left the core as another
  module _ {s : Seat C L} {k : Known C} {core new : C} (event : Event) (most : ℕ) (result : Option Made) (h : Turning s k core)
      (reach : IsInReach history space k.terms) (own : IsOwn (hart_count k.terms.opening.value) s.number event)
      (q : IsPlayed opening history hart_count space evictable core (events_made event result) new)
      (given : TurnGives b opening history hart_count core (quota_of s) event most result) where
    pub entry_is : turn_of (play_of b opening history hart_count) history k s.number new ≡ made_entry s.number event result
    entry_is =
        turn_is b opening history hart_count space evictable k s.number event core new result h.plays q
        (last_is b opening history hart_count space evictable core (quota_of s) event most result given)

    pub turn_legal : IsTurn (play_of b opening history hart_count k.terms) k.terms.turns k.terms.ceiling k.seen (made_entry s.number event result)
    turn_legal =
        let len = ap length h.plays.events_are ∙ length-append (history k.terms.opening.value) (events_of k.seen) in
        let under = legal_under (play_of b opening history hart_count k.terms) k.terms.turns k.terms.ceiling k.seen reach.begun h.legal in
        let is = h.ceiling_is in
        is_turn b opening history hart_count space evictable k (quota_of s) event most core result h.plays h.made_is h.turns_are h.ceiling_is h.within
        (omega (arith, len, under, is)) own given
        (ap (λ (e : Entry). e.last) (sym entry_is)
        ∙ ap (λ (z : List Event). last_reply (play_of b opening history hart_count k.terms).reply (events_of k.seen) z) (ap (λ (e : Entry). e.events) entry_is))
        h.first

    pub passes_on : IsTurn (play_of b opening history hart_count k.terms) k.terms.turns k.terms.ceiling k.seen
        (turn_of (play_of b opening history hart_count) history k s.number new)
        × IsPlayOf opening history hart_count space evictable k.terms
        (events_of (k.seen ++ turn_of (play_of b opening history hart_count) history k s.number new ∷ [])) new
    passes_on =
        subst (λ (e : Entry). IsTurn (play_of b opening history hart_count k.terms) k.terms.turns k.terms.ceiling k.seen e
        × IsPlayOf opening history hart_count space evictable k.terms (events_of (k.seen ++ e ∷ [])) new)
        (sym entry_is) (turn_legal, goes_after b opening history hart_count space evictable k core new (made_entry s.number event result) h.plays q)

    pub made_below : s.made + count_made result ≤ s.turns
    made_below = let w = turn_legal.within_turns in let m = h.made_is in let t = h.turns_are in let n = count_is event result in omega (arith, w, m, t, n)

    pub legal_after : IsLegal (play_of b opening history hart_count k.terms) k.terms.turns k.terms.ceiling (k.seen ++ made_entry s.number event result ∷ [])
    legal_after =
        legal_more (play_of b opening history hart_count k.terms) k.terms.turns k.terms.ceiling k.seen (made_entry s.number event result) h.legal turn_legal

    pub represents_after : (t : Seat C L) → t.place.me ≡ (Seated (with_turn k (turn_of (play_of b opening history hart_count) history k s.number new)), []) →
        t.number ≡ s.number → t.turns ≡ s.turns → t.ceiling ≡ s.ceiling
        → t.made ≡ s.made + count_made result → t.ticket ≡ None → Represents t (with_turn k (made_entry s.number event result))
    represents_after t me number turns ceiling made none = record {
      me = me ∙ ap (λ (e : Entry). (Seated (with_turn k e), [])) entry_is;
      out = refl;
      numbers = h.numbers ∙ ap (λ (n : ℕ). n ∷ []) (sym number);
      turns_are = turns ∙ h.turns_are;
      ceiling_is = ceiling ∙ h.ceiling_is;
      made_is = (let m = h.made_is in let n = count_is event result in let more = made_more s.number k.seen (made_entry s.number event result) refl in
          let all : t.made ≡ made_by s.number (k.seen ++ made_entry s.number event result ∷ []) = omega (arith, made, m, n, more) in
          all ∙ ap (λ (n : ℕ). made_by n (k.seen ++ made_entry s.number event result ∷ [])) (sym number));
      within = (let w = made_below in omega (arith, w, made, turns));
      ticket_is = subst (λ (z : Option ℕ). HasTicket z (with_turn k (made_entry s.number event result))) (sym none) (refl, (let o = h.one in omega (arith, o)));
      first = λ t has. absurd (cc has);
    }

  -- all that is known after the turn, by the core's answer
  pub after : (s : Seat C L) (k : Known C) (core : C) (k' : Known C) (core' : C) (event : Event) (most : ℕ) (result : Option Made) (t : Seat C L) →
      Turning s k core → Turning s k' core' → IsInReach history space k.terms
      → IsOwn (hart_count k.terms.opening.value) s.number event
      → ((new : C) × (t.place.me ≡ (Seated (with_turn k' (turn_of (play_of b opening history hart_count) history k' s.number new)), []))
      × IsPlayed opening history hart_count space evictable core' (events_made event result) new
      × TurnGives b opening history hart_count core' (quota_of s) event most result)
      → t.number ≡ s.number → t.turns ≡ s.turns → t.ceiling ≡ s.ceiling → t.made ≡ s.made + count_made result → t.ticket ≡ None
      → IsWithin most result × Represents t (with_turn k' (made_entry s.number event result))
      × IsLegal (play_of b opening history hart_count k'.terms) k'.terms.turns k'.terms.ceiling (k'.seen ++ made_entry s.number event result ∷ [])
  after s k core k' core' event most result t h h' reach own acted number turns ceiling made none =
      let same : k ≡ k' = is_seated k k' (ap (λ (m : Me C (View C)). m.0) (sym h.me ∙ h'.me)) in
      let reach' : IsInReach history space k'.terms = subst (λ (z : Known C). IsInReach history space z.terms) same reach in
      let own' : IsOwn (hart_count k'.terms.opening.value) s.number event =
      subst (λ (z : Known C). IsOwn (hart_count z.terms.opening.value) s.number event) same own in (
        is_within b opening history hart_count core' (quota_of s) event most result acted.3,
        represents_after event most result h' reach' own' acted.2 acted.3 t acted.1 number turns ceiling made none,
        legal_after event most result h' reach' own' acted.2 acted.3,
      )

  -- what runs ahead has begun again at the core that the turn leaves
  pub begins_after : (s : Seat C L) (k : Known C) (core new : C) (event : Event) (result : Option Made) (t : Seat C L) → Turning s k core →
      Represents t (with_turn k (made_entry s.number event result)) → IsPlayed opening history hart_count space evictable core (events_made event result) new →
      BeginsAt is_at_beginning new t.number t.local → BeginsAgain (IsPlayOf opening history hart_count space evictable k.terms) is_at_beginning t
  begins_after s k core new event result t h represents q begins = record {
    core = new;
    plays =
        subst (λ (z : List Entry). IsPlayOf opening history hart_count space evictable k.terms (events_of z) new)
        (sym (ap (λ (m : Me C (View C)). seen_in m.0) represents.me))
        (goes_after b opening history hart_count space evictable k core new (made_entry s.number event result) h.plays q);
    begins = begins;
  }
