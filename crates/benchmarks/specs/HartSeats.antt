-- Seats that have harts.
use Rattle.std.specs.Prelude.{ℕ, ◌<◌, List, Option}
use Rattle.machine_events.specs.declared.event.Event.{Event}
use Rattle.hart_board.specs.declared.board.Board.{Board}
use Rattle.hart_board.specs.declared.core_turn.Ahead.{Ahead}
use Rattle.hart_board.specs.declared.seat.Seat.{Seat}
use Rattle.hart_board.specs.Seats.{IsSeatOf, number, opening_core}

-- the seat is one of this board, and has a hart
unfoldable pub IsHartSeat : {C L : Type 0} → (history : C → List Event) (space : C → ℕ) (runs : C → ℕ → Option (Ahead L) → Type 0) (hart_count : C → ℕ) →
    Board C L → Seat C L → Type 0
IsHartSeat history space runs hart_count board s = IsSeatOf history space runs board s × (number s < hart_count (opening_core board))
