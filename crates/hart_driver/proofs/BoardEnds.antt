-- What the end of a board tells, once all its threads are joined.
use Rattle.std.proofs.Common.{◌≡◌, ℕ, ◌+◌, ◌<◌, List, [], ◌∷◌, length, get_or, sym, ap, ◌∙◌, subst, arith, Option, Some}
use Rattle.std.specs.Prelude.{All}
use Rattle.std.proofs.lemmas.List.{length-map}
use Rattle.std.proofs.lemmas.List.Elements.{All-nil, All-cons, All-head, All-tail}
use Rattle.machine_events.specs.declared.event.Event.{Event}
use Rattle.machine_events.specs.Cores.{Behaviour}
use Rattle.hart_board.specs.declared.board.Board.{Board}
use Rattle.hart_board.specs.declared.core_turn.Ahead.{Ahead}
use Rattle.hart_board.specs.declared.journal.Entry.{Entry}
use Rattle.hart_board.specs.declared.seat.Seat.{Seat}
use Rattle.hart_board.specs.BoardRule.{numbers_from}
use Rattle.hart_board.specs.CoreTurns.{IsPlayed}
use Rattle.hart_board.specs.Journals.{entries_by, events_of, made_by}
use Rattle.hart_board.specs.Seats.{HasSeen, IsSeatOf, IsWholeJournal, ceiling_of, number, numbers_of, opening_core, rules_of, seats_of, seen, turns_of}
use Rattle.hart_board.proofs.Public.{count_from}
use Rattle.hart_driver.specs.links.BoardRuns.{HasEvicted, HasRunBoard}
use Rattle.hart_driver.specs.links.Parts.{EvictsFrom, IsHartSeat}
use Rattle.hart_driver.specs.links.UnderWay.{CanDrive}
use Rattle.hart_driver.proofs.RunSeats.{count_at}

pub row_length : {C L : Type 0} (xs : List (Seat C L)) (n : ℕ) → numbers_of xs ≡ numbers_from 0 n → length xs ≡ n
row_length xs n numbers = sym (length-map xs number) ∙ (ap length numbers ∙ count_from 0 n)

module _ {C L : Type 0} (history : C → List Event) (space : C → ℕ) (runs : C → ℕ → Option (Ahead L) → Type 0) (hart_count : C → ℕ) (board : Board C L)
    (s : Seat C L) where
  pub hart_seat : IsSeatOf history space runs board s → number s < hart_count (opening_core board) → IsHartSeat history space runs hart_count board s
  unfolding IsHartSeat
  hart_seat seat below = (seat, below)

  pub is_seat : IsHartSeat history space runs hart_count board s → IsSeatOf history space runs board s × (number s < hart_count (opening_core board))
  unfolding IsHartSeat
  is_seat h = h

-- seats of a board with numbers below that of its harts
pub can_run : {C L : Type 0} (history : C → List Event) (space : C → ℕ) (runs : C → ℕ → Option (Ahead L) → Type 0) (hart_count : C → ℕ)
    (board : Board C L) (n : ℕ)
    (xs : List (Seat C L)) → n ≡ hart_count (opening_core board) → All (λ s. IsSeatOf history space runs board s × (seen s ≡ [])) xs →
    All (λ s. number s < 0 + n) xs →
    All (IsHartSeat history space runs hart_count board) xs
can_run history space runs hart_count board n [] is each below = All-nil _
can_run history space runs hart_count board n (x ∷ xs) is each below =
    All-cons (IsHartSeat history space runs hart_count board) x xs
    (hart_seat history space runs hart_count board x (All-head (λ s. IsSeatOf history space runs board s × (seen s ≡ [])) x xs each).0
    (let h = All-head (λ (s : Seat _ _). number s < 0 + n) x xs below in omega (arith, h, is)))
    (can_run history space runs hart_count board n xs is (All-tail (λ s. IsSeatOf history space runs board s × (seen s ≡ [])) x xs each)
    (All-tail (λ (s : Seat _ _). number s < 0 + n) x xs below))

module _ {C M L V : Type 0} (b : Behaviour M) (opening : C → M) (history : C → List Event) (hart_count : C → ℕ) (coming : V → ℕ → ℕ × ℕ)
    (space : C → ℕ) (evictable : C → ℕ → ℕ → Type 0) (board : Board C L) where
  none_more : (n : ℕ) → 0 + n ≡ n
  none_more n = omega arith

  -- what the last seat has evicted, in the whole journal
  pub evicted : (journal : List Entry) (v w : V) (s : Seat C L) → seats_of board ≡ hart_count (opening_core board) + 1 →
      number s ≡ hart_count (opening_core board) → HasSeen journal s → EvictsFrom coming v s w →
      HasEvicted coming (hart_count (opening_core board)) (seats_of board) journal (Some v) (Some w)
  evicted journal v w s seats is has e = (
    seats,
    (
      e.count,
      ap (λ (n : ℕ). events_of (entries_by n journal)) (sym is) ∙ (ap events_of has.own ∙ e.events),
      e.advanced,
    ),
  )

  pub board_ends : (seats : List (Seat C L)) (left : C) (counts : List ℕ) (evict evict_left : Option V) → 0 < hart_count (opening_core board) →
      CanDrive history space evictable coming (opening_core board) (ceiling_of board) evict → numbers_of seats ≡ numbers_from 0 (seats_of board) →
      (w : IsWholeJournal (rules_of b opening history hart_count board) (IsPlayed opening history hart_count space evictable (opening_core board))
      seats left counts) →
      HasEvicted coming (hart_count (opening_core board)) (seats_of board) w.journal evict evict_left →
      HasRunBoard b opening history hart_count coming space evictable (opening_core board) (turns_of board) (ceiling_of board) evict left counts evict_left
  board_ends seats left counts evict evict_left some drives numbers w evictor = record {
    some = some;
    drives = drives;
    journal = w.journal;
    seats = seats_of board;
    legal = w.legal;
    theirs = subst (λ (n : ℕ). All (λ e. e.seat < n) w.journal) (row_length seats (seats_of board) numbers) w.theirs;
    plays = w.plays;
    size = ap length w.counts_are ∙ (length-map seats (λ (s : Seat C L). made_by (number s) w.journal) ∙ row_length seats (seats_of board) numbers);
    counted = λ n inside.
        ap (λ (z : List ℕ). get_or z n 0) w.counts_are ∙ (count_at (λ (k : ℕ). made_by k w.journal) seats 0 (seats_of board) n numbers inside
        ∙ ap (λ (k : ℕ). made_by k w.journal) (none_more n));
    evictor = evictor;
  }
