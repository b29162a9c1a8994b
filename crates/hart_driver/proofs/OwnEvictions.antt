-- Evictions that are to come, in order.
use Rattle.std.proofs.Common.{◌≡◌, ⊎_elim, refl, ℕ, zero, suc, ◌+◌, ◌≤◌, ◌<◌, List, [], ◌∷◌, ◌++◌, length, sym, ap, ◌∙◌, arith, length-append, eq-eqb}
use Rattle.std.proofs.lemmas.List.{append-nil}
use Rattle.machine_events.specs.declared.event.Event.{Event}
use Rattle.machine_events.specs.declared.event.Event.TheVariants.{Evict}
use Rattle.hart_board.specs.declared.journal.Entry.{Entry}
use Rattle.hart_board.specs.declared.seat.Seat.{Seat}
use Rattle.hart_board.specs.Journals.{entries_by, events_of}
use Rattle.hart_board.specs.Seats.{Rules, TakesTurn, did_entry, number, over_entry, seen}
use Rattle.hart_board.proofs.Public.{cut_more, entries-append, events-append}
use Rattle.hart_driver.specs.links.Parts.{EvictsFrom, first_evictions}

pub count_first : (all : ℕ → ℕ × ℕ) (n : ℕ) → length (first_evictions all n) ≡ n
count_first all zero = refl
count_first all (suc n) = length-append (first_evictions all n) (Evict (all n).0 (all n).1 ∷ []) ∙ omega (arith, count_first all n)

-- the one after so many is that of this number
pub eviction_at : (all : ℕ → ℕ × ℕ) (n : ℕ) (before after : List Event) (event : Event) → first_evictions all n ≡ before ++ event ∷ after →
    event ≡ Evict (all (length before)).0 (all (length before)).1
eviction_at all zero before after event q = absurd (let n = ap length q in let m = length-append before (event ∷ after) in omega (arith, n, m))
eviction_at all (suc n) before after event q =
    ⊎_elim (λ (t : (first_evictions all n ≡ before) × (Evict (all n).0 (all n).1 ≡ event)).
    let same : n ≡ length before = sym (count_first all n) ∙ ap length t.0 in
    sym t.1 ∙ ap (λ (k : ℕ). Evict (all k).0 (all k).1) same)
    (λ (t : (rest : List Event) × (first_evictions all n ≡ before ++ event ∷ rest)). eviction_at all n before t.0 event t.1)
    (cut_more (first_evictions all n) before after (Evict (all n).0 (all n).1) event q)

-- the seat's own events, after a turn of its own
own_after : (r : Rules) (e : Entry) (old new : List Entry) → TakesTurn r e old new →
    events_of (entries_by e.seat new) ≡ events_of (entries_by e.seat old) ++ e.events
own_after r e old new t =
    let s = e.seat in
    let one : entries_by s (e ∷ []) ≡ e ∷ [] = simp (eq-eqb e.seat e.seat refl) refl in
    let a : entries_by s (old ++ t.between) ≡ entries_by s old =
    entries-append s old t.between ∙ (ap (λ (z : List Entry). entries_by s old ++ z) t.others ∙ append-nil (entries_by s old)) in
    let b : entries_by s new ≡ entries_by s old ++ e ∷ [] =
    ap (entries_by s) t.seen_is
    ∙ (entries-append s (old ++ t.between) (e ∷ [])
    ∙ (ap (λ (z : List Entry). z ++ entries_by s (e ∷ [])) a ∙ ap (λ (z : List Entry). entries_by s old ++ z) one)) in
    ap events_of b ∙ (events-append (entries_by s old) (e ∷ []) ∙ ap (λ (z : List Event). events_of (entries_by s old) ++ z) (append-nil e.events))

module _ {C L V : Type 0} (coming : V → ℕ → ℕ × ℕ) where
  -- nothing was made
  pub evicts_none : (v : V) (s : Seat C L) → seen s ≡ [] → EvictsFrom coming v s v
  evicts_none v s none = record {
    count = 0;
    events = ap (λ (z : List Entry). events_of (entries_by (number s) z)) none;
    advanced = λ n. ap (coming v) (omega arith);
  }

  -- there was nothing more to do
  pub evicts_over : (r : Rules) (v : V) (s t : Seat C L) (w : V) → number t ≡ number s → TakesTurn r (over_entry (number s)) (seen s) (seen t) →
      EvictsFrom coming v s w → EvictsFrom coming v t w
  evicts_over r v s t w same turn e = record {
    count = e.count;
    events =
        ap (λ (n : ℕ). events_of (entries_by n (seen t))) same
        ∙ (own_after r (over_entry (number s)) (seen s) (seen t) turn ∙ (append-nil (events_of (entries_by (number s) (seen s))) ∙ e.events));
    advanced = e.advanced;
  }

  -- the next one was made, and is over
  pub evicts_more : (r : Rules) (v : V) (s t : Seat C L) (w next : V) (line mask count : ℕ) (last : _) → number t ≡ number s → 0 < count → count ≤ 1 →
      (line, mask) ≡ coming w 0 →
      TakesTurn r (did_entry (number s) (Evict line mask) count last) (seen s) (seen t) → ((n : ℕ) → coming next n ≡ coming w (n + 1)) →
      EvictsFrom coming v s w → EvictsFrom coming v t next
  evicts_more r v s t w next line mask zero last same some few is turn goes e = absurd (omega arith)
  evicts_more r v s t w next line mask (suc (suc count)) last same some few is turn goes e = absurd (omega arith)
  evicts_more r v s t w next line mask (suc zero) last same some few is turn goes e = record {
    count = suc e.count;
    events =
        ap (λ (n : ℕ). events_of (entries_by n (seen t))) same
        ∙ (own_after r (did_entry (number s) (Evict line mask) 1 last) (seen s) (seen t) turn
        ∙ (ap (λ (z : List Event). z ++ Evict line mask ∷ []) e.events
        ∙ ap (λ (z : ℕ × ℕ). first_evictions (coming v) e.count ++ Evict z.0 z.1 ∷ []) now));
    advanced = λ n. goes n ∙ (e.advanced (n + 1) ∙ ap (coming v) (omega arith));
  }
    where
      now : (line, mask) ≡ coming v e.count
      now = is ∙ (e.advanced 0 ∙ ap (coming v) (omega arith))
