-- What the fields of a journal represent.
use Rattle.std.specs.Prelude.{◌≡◌, ◌+◌, ◌<◌, ◌≤◌, ◌^◌, ℕ, List, [], ◌∷◌, ◌++◌, flat_map, length, replicate}
use Rattle.std.specs.Vec.{vec_capacity}
use Rattle.machine_events.specs.declared.event.Event.{Event}
use Rattle.machine_events.specs.declared.event.Event.TheVariants as events
use Rattle.run_tracker.specs.declared.journal.Entry.{Entry}
use Rattle.run_tracker.specs.declared.journal.Entry.TheVariants.{Steps, Evict, Crash, Start}
use Rattle.run_tracker.specs.declared.journal.Journal.TheInside.{Inside}

-- the events of an entry
abbrev pub events_in : Entry → List Event
events_in (Steps hart count) = replicate count (events.Step hart)
events_in (Evict line mask) = events.Evict line mask ∷ []
events_in Crash = events.Crash ∷ []
events_in Start = events.Start ∷ []

-- events that were made, and how many there is room for in all
pub record Recorded : Type 0 where
  pub events : List Event
  pub room : ℕ

abbrev pub recorded : Inside → Recorded
recorded journal = record {
  events = flat_map events_in journal.entries.items ++ replicate journal.steps (events.Step journal.hart);
  room = vec_capacity journal.entries;
}

-- as many are counted as there are, and no fewer than entries
pub record JournalInv (journal : Inside) : Type 0 where
  pub closed : journal.closed ≡ length (flat_map events_in journal.entries.items)
  pub entries : length journal.entries.items ≤ journal.closed
  pub few : vec_capacity journal.entries < 2 ^ 63
  pub within : journal.closed + journal.steps ≤ vec_capacity journal.entries
