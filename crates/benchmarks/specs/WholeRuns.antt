-- What a run of all seats of a board leaves.
use Rattle.std.specs.Prelude.{◌≡◌, ℕ, ◌<◌, List, All, map}
use Rattle.machine_events.specs.declared.event.Event.{Event}
use Rattle.hart_board.specs.declared.journal.Entry.{Entry}
use Rattle.hart_board.specs.BoardRule.{numbers_from}
use Rattle.hart_board.specs.Journals.{IsLegal, events_of, made_by}
use Rattle.hart_board.specs.Seats.{Rules}

-- one legal journal holds turns of so many seats, and no others. The core is the play of it, and of each seat's events in it there are so many
pub record HasRun {C : Type 0} (r : Rules) (is_play : List Event → C → Type 0) (seats : ℕ) (core : C) (counts : List ℕ) : Type 0 where
  pub journal : List Entry
  pub legal : IsLegal r.play r.turns r.ceiling journal
  pub theirs : All (λ e. e.seat < seats) journal
  pub plays : is_play (events_of journal) core
  pub counted : counts ≡ map (λ n. made_by n journal) (numbers_from 0 seats)
