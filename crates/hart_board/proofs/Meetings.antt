-- Seats that tell what they have seen, and seats that are told.
use Rattle.std.proofs.Common.{◌≡◌, ℕ, List, [], ◌∷◌, ◌++◌, length, Some, None, Option, false, sym, refl, ap, ◌∙◌, subst, arith}
use Rattle.std.proofs.lemmas.List.Elements.{All-head, All-tail}
use Rattle.std.proofs.lemmas.List.{append-nil}
use mathlib.Core.List.{IsPrefix}
use Rattle.machine_events.specs.declared.event.Event.{Event}
use Rattle.machine_events.specs.Cores.{Behaviour}
use Rattle.atomic_table.specs.Table.{Me}
use Rattle.hart_board.specs.declared.journal.Entry.{Entry}
use Rattle.hart_board.specs.declared.views.Known.{Known}
use Rattle.hart_board.specs.declared.views.View.{View}
use Rattle.hart_board.specs.declared.views.View.TheVariants.{Seated}
use Rattle.hart_board.specs.declared.board.Board.{Board}
use Rattle.hart_board.specs.declared.core_turn.Ahead.{Ahead}
use Rattle.hart_board.specs.declared.seat.Seat.{Seat}
use Rattle.hart_board.specs.declared.seat.Note.{Note}
use Rattle.hart_board.specs.Journals.{events_of, entries_by, made_by}
use Rattle.hart_board.specs.BoardRule.{GoesOn, IsPast, play_of, met, now_of, with_seen}
use Rattle.hart_board.specs.Seats.{opening_core, HasTicket, IsSeatOf, IsNoteOf, SeesMore, rules_of, seen, seen_in, number, noted_turns}
use Rattle.hart_board.proofs.TriedTurns.{has_own, seat_after, sees_at}

-- a seat that knows what it knew
pub noting : {C L : Type 0} (history : C → List Event) (space : C → ℕ) (runs : C → ℕ → Option (Ahead L) → Type 0) (board : Board C L) (s t : Seat C L)
    (h : IsSeatOf history space runs board s) → t.place.me ≡ s.place.me → t.place.table_id ≡ s.place.table_id → t.number ≡ s.number
    → t.turns ≡ s.turns → t.ceiling ≡ s.ceiling → t.made ≡ s.made → t.ticket ≡ s.ticket → runs (opening_core board) t.number t.local →
    IsSeatOf history space runs board t
noting history space runs board s t h me table is turns ceiling made ticket ahead = let r = h.seat.represents in
    seat_after history space runs board s t h.seat.known h refl record {
      me = me ∙ r.me;
      out = r.out;
      numbers = r.numbers ∙ ap (λ (n : ℕ). n ∷ []) (sym is);
      turns_are = turns ∙ r.turns_are;
      ceiling_is = ceiling ∙ r.ceiling_is;
      made_is = made ∙ (r.made_is ∙ ap (λ (n : ℕ). made_by n h.seat.known.seen) (sym is));
      within = (let w = r.within in omega (arith, w, made, turns));
      ticket_is = subst (λ (z : Option ℕ). HasTicket z h.seat.known) (sym ticket) r.ticket_is;
      first = λ t has below. is ∙ r.first t has below;
    } table is ahead

module _ {C L M : Type 0} (b : Behaviour M) (opening : C → M) (history : C → List Event) (hart_count space : C → ℕ) where
  -- a seat that was told, and then has seen all turns so far
  pub learns : (runs : C → ℕ → Option (Ahead L) → Type 0) (board : Board C L) (s t : Seat C L) (note : Note C) (h : IsSeatOf history space runs board s)
      (o : IsNoteOf board note) (now : List Entry)
      → GoesOn (play_of b opening history hart_count) (met h.seat.known o.known) now →
      t.place.me ≡ (Seated (with_seen (met h.seat.known o.known) now false), []) → t.place.table_id ≡ s.place.table_id
      → t.number ≡ s.number → t.turns ≡ s.turns → t.ceiling ≡ s.ceiling → t.made ≡ s.made → t.ticket ≡ s.ticket → runs (opening_core board) t.number t.local
      → IsSeatOf history space runs board t × SeesMore (rules_of b opening history hart_count board) (number s) (seen s) (seen t)
      × IsPrefix (noted_turns note) (seen t)
  learns runs board s t note h o now g me table is turns ceiling made ticket ahead =
      let k = h.seat.known in let l = o.known in let r = h.seat.represents in
      let numbers : k.numbers ++ l.numbers ≡ k.numbers = ap (λ (z : List ℕ). k.numbers ++ z) o.numbers ∙ append-nil k.numbers in
      let mine : IsPast now (k.numbers ++ l.numbers) (now_of k) =
      All-head (IsPast now (k.numbers ++ l.numbers)) (now_of k) (now_of l ∷ (k.past ++ l.past)) g.past in
      let told : IsPast now (k.numbers ++ l.numbers) (now_of l) =
      All-head (IsPast now (k.numbers ++ l.numbers)) (now_of l) (k.past ++ l.past)
      (All-tail (IsPast now (k.numbers ++ l.numbers)) (now_of k) (now_of l ∷ (k.past ++ l.past)) g.past) in
      let own : entries_by s.number now ≡ entries_by s.number k.seen = (mine.own s.number (has_own s.number k.numbers r.numbers)).1 in
      let new : seen t ≡ now = ap (λ (m : Me C (View C)). seen_in m.0) me in
      let old : seen s ≡ k.seen = ap (λ (m : Me C (View C)). seen_in m.0) r.me in
      let noted : noted_turns note ≡ l.seen = ap (λ (m : Me C (View C)). seen_in m.0) o.me in (
        seat_after history space runs board s t (with_seen (met k l) now false) h refl record {
          me = me;
          out = refl;
          numbers = numbers ∙ (r.numbers ∙ ap (λ (n : ℕ). n ∷ []) (sym is));
          turns_are = turns ∙ r.turns_are;
          ceiling_is = ceiling ∙ r.ceiling_is;
          made_is = made ∙ (r.made_is ∙ (ap (λ (z : List Entry). length (events_of z)) (sym own) ∙ ap (λ (n : ℕ). made_by n now) (sym is)));
          within = (let w = r.within in omega (arith, w, made, turns));
          ticket_is = subst (λ (z : Option ℕ). HasTicket z (with_seen (met k l) now false)) (sym ticket) (still s.ticket k l now o.drawn r.ticket_is);
          first = λ t has below. is ∙ r.first t has below;
        } table is ahead,
        sees_at b opening history hart_count space board s t s.number k now h.seat.terms_are old new mine.begins own g.legal,
        subst (λ (z : List Entry × List Entry). IsPrefix z.0 z.1) (λ i. (sym noted i, sym new i)) told.begins,
      )
    where
      still : (u : Option ℕ) (k l : Known C) (now : List Entry) → l.drawn ≡ 0 → HasTicket u k → HasTicket u (with_seen (met k l) now false)
      still None k l now none h = (h.0, (let d = h.1 in omega (arith, d, none)))
      still (Some u) k l now none h = ((let d = h.0 in omega (arith, d, none)), h.1)
