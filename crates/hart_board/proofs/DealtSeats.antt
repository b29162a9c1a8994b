-- Seats with the numbers that were dealt, in order.
use Rattle.std.proofs.Common.{◌≡◌, ℕ, ◌<◌, List, length, sym, ap, subst, ◌∙◌, arith}
use Rattle.std.proofs.lemmas.List.{length-map}
use Rattle.std.proofs.lemmas.Bool.Decides.{nat_tests}
use Rattle.hart_board.specs.declared.board.Board.{Board}
use Rattle.hart_board.specs.declared.seat.Seat.{Seat}
use Rattle.hart_board.specs.BoardRule.{Has, numbers_from}
use Rattle.hart_board.specs.Seats.{AreAllSeats, number, numbers_of, seats_of}
use Rattle.hart_board.proofs.FirstState.{count_from, times_below}

has_below : (n count : ℕ) → n < count → Has n (numbers_from 0 count)
has_below n count inside = let t = times_below n count in grind (arith, nat_tests, t)

module _ {C L : Type 0} where
  -- they are all seats of a board of so many
  pub all_dealt : (board : Board C L) (seats : List (Seat C L)) → numbers_of seats ≡ numbers_from 0 (seats_of board) → AreAllSeats board seats
  all_dealt board seats is = record {
    each = λ n inside. subst (Has n) (sym is) (has_below n (seats_of board) inside);
    once = sym (length-map seats number) ∙ (ap length is ∙ count_from 0 (seats_of board));
  }
