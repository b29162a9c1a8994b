-- Seats before and after.
use Rattle.std.proofs.Common.{◌≡◌, ℕ, zero, suc, ◌+◌, ◌<◌, List, [], ◌∷◌, ◌++◌, length, get_or, map, subst, take, drop, refl, ap, ◌∙◌, arith, Option}
use Rattle.std.specs.Prelude.{All}
use Rattle.std.proofs.lemmas.List.{append-nil}
use Rattle.std.proofs.lemmas.List.Elements.{All-nil, All-cons, All-head, All-tail}
use Rattle.std.proofs.Math.ListN.{drop_of_length-le}
use Rattle.std.proofs.Math.Seq.{take-length}
use Rattle.machine_events.specs.declared.event.Event.{Event}
use Rattle.hart_board.specs.declared.board.Board.{Board}
use Rattle.hart_board.specs.declared.core_turn.Ahead.{Ahead}
use Rattle.hart_board.specs.declared.seat.Seat.{Seat}
use Rattle.hart_board.specs.BoardRule.{numbers_from}
use Rattle.hart_board.specs.Journals.{made_by}
use Rattle.hart_board.specs.Seats.{IsSeatOf, IsWholeJournal, Rules, number, numbers_of, opening_core, seen}
use Rattle.benchmarks.specs.HartSeats.{IsHartSeat}
use Rattle.benchmarks.specs.WholeRuns.{HasRun}

-- seats that keep their numbers place by place
pub same_numbers : {C L : Type 0} (xs ys : List (Seat C L)) → length ys ≡ length xs →
    ((i : ℕ) (d : Seat C L) → i < length xs → number (get_or ys i d) ≡ number (get_or xs i d)) → numbers_of ys ≡ numbers_of xs
same_numbers [] [] size each = refl
same_numbers [] (y ∷ ys) size each = absurd (omega (arith, size))
same_numbers (x ∷ xs) [] size each = absurd (omega (arith, size))
same_numbers (x ∷ xs) (y ∷ ys) size each =
    let here : number y ≡ number x = each 0 x (omega arith) in
    let rest = same_numbers xs ys (omega (arith, size)) (λ i d inside. each (suc i) d (omega (arith, inside))) in
    (λ i. here i ∷ rest i)

-- a list that is written over as a whole
pub refilled : {A : Type 0} (n : ℕ) (xs ws : List A) → n ≡ length xs → length ws ≡ length xs → take n (ws ++ drop (length ws) xs) ≡ ws
refilled n xs ws size same =
    let none : drop (length ws) xs ≡ [] = drop_of_length-le xs (omega (arith, same)) in
    let all : ws ++ drop (length ws) xs ≡ ws = ap (λ (z : List _). ws ++ z) none ∙ append-nil ws in
    let long : n ≡ length ws = omega (arith, size, same) in
    (λ i. take (long i) (all i)) ∙ take-length ws

module _ {C L : Type 0} (history : C → List Event) (space : C → ℕ) (runs : C → ℕ → Option (Ahead L) → Type 0) (hart_count : C → ℕ) (board : Board C L)
    (s : Seat C L) where
  pub hart_seat : IsSeatOf history space runs board s → number s < hart_count (opening_core board) → IsHartSeat history space runs hart_count board s
  unfolding IsHartSeat
  hart_seat seat below = (seat, below)

  pub is_seat : IsHartSeat history space runs hart_count board s → IsSeatOf history space runs board s × (number s < hart_count (opening_core board))
  unfolding IsHartSeat
  is_seat h = h

module _ {C L : Type 0} (history : C → List Event) (space : C → ℕ) (runs : C → ℕ → Option (Ahead L) → Type 0) (hart_count : C → ℕ) (board : Board C L) where
  -- seats of a board whose numbers are those of its harts
  pub hart_seats : (at n : ℕ) (xs : List (Seat C L)) → at + n ≡ hart_count (opening_core board) → numbers_of xs ≡ numbers_from at n →
      All (λ s. IsSeatOf history space runs board s × (seen s ≡ [])) xs → All (IsHartSeat history space runs hart_count board) xs
  hart_seats at n [] harts are each = All-nil _
  hart_seats at zero (x ∷ xs) harts are each = absurd (cc are)
  hart_seats at (suc n) (x ∷ xs) harts are each =
      let here : number x ≡ at = cc are in
      let first = All-head (λ s. IsSeatOf history space runs board s × (seen s ≡ [])) x xs each in
      All-cons (IsHartSeat history space runs hart_count board) x xs (hart_seat history space runs hart_count board x first.0 (omega (arith, here, harts)))
      (hart_seats (at + 1) n xs (omega (arith, harts)) (cc are) (All-tail (λ s. IsSeatOf history space runs board s × (seen s ≡ [])) x xs each))

-- what is found of each seat is found of its number
by_number : {C L A : Type 0} (f : ℕ → A) (xs : List (Seat C L)) → map (λ s. f (number s)) xs ≡ map f (numbers_of xs)
by_number f [] = refl
by_number f (x ∷ xs) = ap (λ (z : List _). f (number x) ∷ z) (by_number f xs)

-- what a board leaves whose seats have the numbers from 0 on
pub has_run : {C L : Type 0} (r : Rules) (is_play : List Event → C → Type 0) (count : ℕ) (seats : List (Seat C L)) (core : C) (counts : List ℕ) →
    numbers_of seats ≡ numbers_from 0 count → length seats ≡ count → IsWholeJournal r is_play seats core counts → HasRun r is_play count core counts
has_run r is_play count seats core counts numbers size w = record {
  journal = w.journal;
  legal = w.legal;
  theirs = subst (λ (n : ℕ). All (λ e. e.seat < n) w.journal) size w.theirs;
  plays = w.plays;
  counted = w.counts_are ∙ (by_number (λ n. made_by n w.journal) seats ∙ ap (map (λ n. made_by n w.journal)) numbers);
}
