-- What a seat knows after a try at a turn.
use Rattle.std.proofs.Common.{◌≡◌, ◌≢◌, ℕ, ◌%◌, ◌^◌, ◌<◌, List, [], ◌∷◌, ◌++◌, length, true}
use Rattle.std.proofs.Common.{false, Some, None, Option, sym, refl, ap, ◌∙◌, subst, arith, eq-eqb}
use mathlib.Core.List.{IsPrefix, append_assoc}
use Rattle.machine_events.specs.declared.event.Event.{Event}
use Rattle.atomic_table.specs.Table.{Me}
use Rattle.hart_board.specs.declared.journal.Entry.{Entry}
use Rattle.hart_board.specs.declared.views.Terms.{Terms}
use Rattle.hart_board.specs.declared.views.Known.{Known}
use Rattle.hart_board.specs.declared.views.View.{View}
use Rattle.hart_board.specs.declared.views.View.TheVariants.{Seated}
use Rattle.hart_board.specs.declared.core_turn.Ahead.{Ahead}
use Rattle.hart_board.specs.declared.core_turn.Made.{Made}
use Rattle.hart_board.specs.declared.seat.Seat.{Seat}
use Rattle.hart_board.specs.declared.seat.Turn.{Turn}
use Rattle.hart_board.specs.declared.seat.Turn.TheVariants as turn
use Rattle.hart_board.specs.Journals.{Play, events_of, entries_by, made_by, IsLegal}
use Rattle.hart_board.specs.CoreTurns.{IsWithin, made_entry}
use Rattle.machine_events.specs.Cores.{Behaviour}
use Rattle.hart_board.specs.declared.board.Board.{Board}
use Rattle.hart_board.specs.BoardRule.{times, Has, GoesOn, with_seen, with_turn, play_of}
use Rattle.hart_board.specs.Seats.{opening_core, IsSeatOf, IsSeatAt, WaitsOn, rules_of, seen_in, Represents, HasTicket}
use Rattle.hart_board.specs.Seats.{IsInTurn, Rules, SeesMore, TakesTurn, DoesTurn, TryTells, TurnTells, answer_of, seen, number}
use Rattle.hart_board.proofs.Journals.{entries-append, nothing_more}

pub has_own : (n : ℕ) (ns : List ℕ) → ns ≡ n ∷ [] → Has n ns
has_own n ns is = let one : times n (n ∷ []) ≡ 1 = simp (eq-eqb n n refl) refl in let e = ap (times n) is in omega (arith, one, e)

-- what was seen goes on by turns of others, and then by one of one's own
pub takes_after : (r : Rules) (e : Entry) (old mid new : List Entry) → IsPrefix old mid → entries_by e.seat mid ≡ entries_by e.seat old →
    TakesTurn r e mid new → TakesTurn r e old new
takes_after r e old mid new begins own t = record {
  between = begins.0 ++ t.between;
  seen_is = t.seen_is ∙ ap (λ (z : List Entry). z ++ e ∷ []) (ap (λ (z : List Entry). z ++ t.between) (sym begins.1) ∙ append_assoc old begins.0 t.between);
  others = entries-append e.seat begins.0 t.between ∙ (ap (λ (z : List Entry). z ++ entries_by e.seat t.between) none ∙ t.others);
  legal = t.legal;
}
  where
    none : entries_by e.seat begins.0 ≡ []
    none =
        nothing_more (entries_by e.seat old) (entries_by e.seat begins.0) (sym (entries-append e.seat old begins.0) ∙ (ap (entries_by e.seat) begins.1 ∙ own))

-- a turn that is taken after waiting
pub turn_after : {C L : Type 0} (r : Rules) (event : Event) (most : ℕ) (result : Turn) (old mid new : Seat C L) → IsPrefix (seen old) (seen mid) →
    entries_by (number old) (seen mid) ≡ entries_by (number old) (seen old)
    → number mid ≡ number old → TurnTells r event most result mid new → TurnTells r event most result old new
turn_after r event most (turn.Did events last) old mid new begins own same t =
    let u = subst (λ (n : ℕ). DoesTurn r n event most events last (seen mid) (seen new)) same t in
    record { some = u.some; few = u.few; turn = takes_after r _ (seen old) (seen mid) (seen new) begins own u.turn }
turn_after r event most turn.Over old mid new begins own same t =
    let u = subst (λ (n : ℕ). TakesTurn r (Rattle.hart_board.specs.Seats.over_entry n) (seen mid) (seen new)) same t in
    takes_after r _ (seen old) (seen mid) (seen new) begins own u

pub sees_after : (r : Rules) (n : ℕ) (old mid new : List Entry) → IsPrefix old mid → entries_by n mid ≡ entries_by n old → SeesMore r n mid new →
    IsPrefix old new × (entries_by n new ≡ entries_by n old)
sees_after r n old mid new begins own s = (Rattle.hart_board.proofs.Prefixes.prefix_trans old mid new begins s.begins, s.own ∙ own)

-- the seat with a ticket, as it was asked
abbrev pub ticketed : {C : Type 0} → Known C → ℕ → Known C
ticketed k t = record k { drawn = 1; ticket = Some t }

pub as_asked : {C : Type 0} (c : Terms C → Play) (k : Known C) (t : ℕ) (l : Known C) (now : List Entry) → l ≡ ticketed k t → GoesOn c l now → GoesOn c k now
as_asked c k t l now is g = let h : GoesOn c (ticketed k t) now = subst (λ (z : Known _). GoesOn c z now) is g in
    record { begins = h.begins; legal = h.legal; own = h.own; past = h.past }

module _ {C L : Type 0} (c : Terms C → Play) (is_play : Terms C → List Event → C → Type 0) where
  -- the seat that waits on
  pub waits_on : (s t : Seat C L) (k l : Known C) (tk : ℕ) (seen : List Entry) → Represents s l → l ≡ ticketed k tk → GoesOn c l seen →
      t.place.me ≡ (Seated (with_seen l seen false), s.place.me.1) → t.number ≡ s.number → t.turns ≡ s.turns
      → t.ceiling ≡ s.ceiling → t.made ≡ s.made → t.ticket ≡ s.ticket → Represents t (with_seen l seen false)
  waits_on s t k l tk seen h is g me number turns ceiling made ticket = record {
    me = me ∙ ap (λ (cs : List (ℕ × C)). (Seated (with_seen l seen false), cs)) (ap (λ (m : Me C (View C)). m.1) h.me);
    out = refl;
    numbers = h.numbers ∙ ap (λ (n : ℕ). n ∷ []) (sym number);
    turns_are = turns ∙ h.turns_are;
    ceiling_is = ceiling ∙ h.ceiling_is;
    made_is =
        made ∙ (h.made_is ∙ (ap (λ (z : List Entry). length (events_of z)) (sym (g.own s.number (has_own s.number l.numbers h.numbers)))
        ∙ ap (λ (n : ℕ). made_by n seen) (sym number)));
    within = (let w = h.within in omega (arith, w, made, turns));
    ticket_is = subst (λ (z : Option ℕ). HasTicket z (with_seen l seen false)) (sym ticket) (still s.ticket h.ticket_is);
    first = λ tk has below. number ∙ h.first tk has below;
  }
    where
      still : (o : Option ℕ) → HasTicket o l → HasTicket o (with_seen l seen false)
      still None e = e
      still (Some u) e = e

  -- the seat that is served
  pub turns_in : (s t : Seat C L) (k l : Known C) (tk : ℕ) (seen : List Entry) (core : C) → Represents s l → l ≡ ticketed k tk → GoesOn c l seen →
      t.place.me ≡ (Seated (with_seen l seen true), (0, core) ∷ s.place.me.1) → is_play l.terms (events_of seen) core
      → length seen ≡ tk → t.number ≡ s.number → t.turns ≡ s.turns → t.ceiling ≡ s.ceiling → t.made ≡ s.made → IsInTurn c is_play t (with_seen l seen true) core
  turns_in s t k l tk seen core h is g me plays now number turns ceiling made = record {
    me = me ∙ ap (λ (cs : List (ℕ × C)). (Seated (with_seen l seen true), (0, core) ∷ cs)) (ap (λ (m : Me C (View C)). m.1) h.me);
    turning = refl;
    one = ap (λ (z : Known C). z.drawn) is;
    numbers = h.numbers ∙ ap (λ (n : ℕ). n ∷ []) (sym number);
    turns_are = turns ∙ h.turns_are;
    ceiling_is = ceiling ∙ h.ceiling_is;
    made_is =
        made ∙ (h.made_is ∙ (ap (λ (z : List Entry). length (events_of z)) (sym (g.own s.number (has_own s.number l.numbers h.numbers)))
        ∙ ap (λ (n : ℕ). made_by n seen) (sym number)));
    within = (let w = h.within in omega (arith, w, made, turns));
    first = λ below. number ∙ (h.first tk (ap (λ (z : Known C). z.ticket) is) (omega (arith, below, now)) ∙ sym now);
    legal = g.legal;
    plays = plays;
  }

-- what the journal tells of a turn that was taken
pub takes : (r : Rules) (e : Entry) (old seen : List Entry) → IsPrefix old seen → entries_by e.seat seen ≡ entries_by e.seat old →
    IsLegal r.play r.turns r.ceiling (seen ++ e ∷ []) → TakesTurn r e old (seen ++ e ∷ [])
takes r e old seen begins own legal = record {
  between = begins.0;
  seen_is = ap (λ (z : List Entry). z ++ e ∷ []) (sym begins.1);
  others =
      nothing_more (entries_by e.seat old) (entries_by e.seat begins.0) (sym (entries-append e.seat old begins.0) ∙ (ap (entries_by e.seat) begins.1 ∙ own));
  legal = legal;
}

-- what is answered tells so
pub tells : {C L : Type 0} (r : Rules) (event : Event) (most : ℕ) (result : Option Made) (s t : Seat C L) → IsWithin most result →
    TakesTurn r (made_entry (number s) event result) (seen s) (seen t) → TryTells r event most (answer_of result) s t
tells r event most None s t within turn = turn
tells r event most (Some made) s t within turn = record { some = within.0; few = within.1; turn = turn }

-- the seat with what it represents, as its board has it
pub seat_after : {C L : Type 0} (history : C → List Event) (space : C → ℕ) (runs : C → ℕ → Option (Ahead L) → Type 0) (board : Board C L) (s t : Seat C L)
    (l : Known C) (h : IsSeatOf history space runs board s) → l.terms ≡ h.seat.known.terms → Represents t l
    → t.place.table_id ≡ s.place.table_id → t.number ≡ s.number → runs (opening_core board) t.number t.local → IsSeatOf history space runs board t
seat_after history space runs board s t l h terms represents table number ahead = record {
  seat = record {
    known = l;
    table = table ∙ h.seat.table;
    represents = represents;
    terms_are = terms ∙ h.seat.terms_are;
    inside = (let i = h.seat.inside in omega (arith, i, number));
  };
  reach = h.reach;
  ahead = ahead;
}

pub seen_is : {C L : Type 0} (s : Seat C L) (k : Known C) (cs : List (ℕ × C)) → s.place.me ≡ (Seated k, cs) → seen s ≡ k.seen
seen_is s k cs me = ap (λ (m : Me _ (View _)). seen_in m.0) me

module _ {C L M : Type 0} (b : Behaviour M) (opening : C → M) (history : C → List Event) (hart_count space : C → ℕ) where
  legal_at : (board : Board C L) (k : Known C) (now : List Entry) → k.terms ≡ board.table.shared.key →
      IsLegal (play_of b opening history hart_count k.terms) k.terms.turns k.terms.ceiling now
      → IsLegal (rules_of b opening history hart_count board).play (rules_of b opening history hart_count board).turns
      (rules_of b opening history hart_count board).ceiling now
  legal_at board k now terms legal = subst (λ (z : Terms C). IsLegal (play_of b opening history hart_count z) z.turns z.ceiling now) terms legal

  pub sees_at : (board : Board C L) (s t : Seat C L) (n : ℕ) (k : Known C) (now : List Entry) → k.terms ≡ board.table.shared.key → seen s ≡ k.seen →
      seen t ≡ now → IsPrefix k.seen now → entries_by n now ≡ entries_by n k.seen
      → IsLegal (play_of b opening history hart_count k.terms) k.terms.turns k.terms.ceiling now →
      SeesMore (rules_of b opening history hart_count board) n (seen s) (seen t)
  sees_at board s t n k now terms old new begins own legal =
      subst (λ (z : List Entry × List Entry). SeesMore (rules_of b opening history hart_count board) n z.0 z.1) (λ i. (sym old i, sym new i)) record {
        begins = begins;
        own = own;
        legal = legal_at board k now terms legal;
      }

  -- a try that came too early
  pub waits_at : (runs : C → ℕ → Option (Ahead L) → Type 0) (board : Board C L) (s u t : Seat C L) (drawn serving : ℕ) (h : IsSeatOf history space runs board s)
      (l : Known C) (tk : ℕ) (now : List Entry)
      → Represents u l → l ≡ ticketed h.seat.known tk → drawn ≡ tk % 2 ^ 64 → u.place.table_id ≡ s.place.table_id → u.number ≡ s.number →
      u.ticket ≡ Some drawn → ((v : ℕ) → s.ticket ≡ Some v → v ≡ drawn)
      → GoesOn (play_of b opening history hart_count) l now → serving ≡ length now % 2 ^ 64 → serving ≢ drawn → length now < tk →
      t.place.me ≡ (Seated (with_seen l now false), u.place.me.1) → t.place.table_id ≡ u.place.table_id
      → t.number ≡ u.number → t.turns ≡ u.turns → t.ceiling ≡ u.ceiling → t.made ≡ u.made → t.ticket ≡ u.ticket → runs (opening_core board) t.number t.local
      → (IsSeatOf history space runs board t × (number t ≡ number s)) × WaitsOn (rules_of b opening history hart_count board) drawn serving s t
  waits_at runs board s u t drawn serving h l tk now represents is ticket table same kept had g found apart early me table' number turns ceiling
      made still ahead =
      let k = h.seat.known in let a = as_asked (play_of b opening history hart_count) k tk l now is g in
      let terms : l.terms ≡ k.terms = ap (λ (z : Known C). z.terms) is in
      let new : seen t ≡ now = seen_is t (with_seen l now false) u.place.me.1 me in
      let is_own : Has s.number k.numbers = has_own s.number k.numbers h.seat.represents.numbers in (
        (
          seat_after history space runs board s t (with_seen l now false) h terms
              (waits_on (play_of b opening history hart_count) (λ _ _ _. Unit {0}) u t k l tk now represents is g me number turns ceiling made still)
              (table' ∙ table) (number ∙ same) ahead,
          number ∙ same,
        ),
        record {
          sees = sees_at board s t s.number k now h.seat.terms_are (seen_is s k [] h.seat.represents.me) new a.begins (a.own s.number is_own) a.legal;
          before = (tk, ticket, found ∙ ap (λ (z : List Entry). length z % 2 ^ 64) (sym new), (let n = ap length new in omega (arith, n, early)));
          apart = apart;
          kept = still ∙ kept;
          had = had;
        },
      )

  -- a try that was served
  pub took_at : (runs : C → ℕ → Option (Ahead L) → Type 0) (board : Board C L) (s u t : Seat C L) (h : IsSeatOf history space runs board s) (l : Known C)
      (tk : ℕ) (now : List Entry) (event : Event) (most : ℕ) (result : Option Made)
      → l ≡ ticketed h.seat.known tk → u.place.table_id ≡ s.place.table_id → u.number ≡ s.number → GoesOn (play_of b opening history hart_count) l now →
      IsWithin most result
      → Represents t (with_turn (with_seen l now true) (made_entry u.number event result)) →
      IsLegal (play_of b opening history hart_count l.terms) l.terms.turns l.terms.ceiling (now ++ made_entry u.number event result ∷ [])
      → t.place.table_id ≡ u.place.table_id → t.number ≡ u.number → runs (opening_core board) t.number t.local
      → (IsSeatOf history space runs board t × (number t ≡ number s)) × TryTells (rules_of b opening history hart_count board) event most (answer_of result) s t
  took_at runs board s u t h l tk now event most result is table same g within represents legal table' number ahead =
      let k = h.seat.known in let a = as_asked (play_of b opening history hart_count) k tk l now is g in let e = made_entry u.number event result in
      let terms : l.terms ≡ k.terms = ap (λ (z : Known C). z.terms) is in
      let new : seen t ≡ now ++ e ∷ [] = seen_is t (with_turn (with_seen l now true) e) [] represents.me in
      let old : seen s ≡ k.seen = seen_is s k [] h.seat.represents.me in
      let is_own : Has u.number k.numbers = has_own u.number k.numbers (h.seat.represents.numbers ∙ ap (λ (n : ℕ). n ∷ []) (sym same)) in
      let turn : TakesTurn (rules_of b opening history hart_count board) e k.seen (now ++ e ∷ []) =
      takes (rules_of b opening history hart_count board) e k.seen now a.begins (a.own u.number is_own)
      (legal_at board l (now ++ e ∷ []) (terms ∙ h.seat.terms_are) legal) in (
        (seat_after history space runs board s t (with_turn (with_seen l now true) e) h terms represents (table' ∙ table) (number ∙ same) ahead, number ∙ same),
        tells (rules_of b opening history hart_count board) event most result s t within
            (subst (λ (z : ℕ × (List Entry × List Entry)). TakesTurn (rules_of b opening history hart_count board) (made_entry z.0 event result) z.1.0 z.1.1)
            (λ i. (same i, (sym old i, sym new i))) turn),
      )
