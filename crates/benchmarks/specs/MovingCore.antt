-- A core whose four harts never stop. It represents nothing but that.
use Rattle.std.specs.Prelude.{ℕ, false, nat_lt, if◌then◌else◌}
use Rattle.machine_events.specs.declared.event.Event.{Event}
use Rattle.machine_events.specs.declared.event.Event.TheVariants.{Step, Crash}
use Rattle.machine_events.specs.declared.event.Reply.TheVariants.{Moved}
use Rattle.machine_events.specs.Cores.{Behaviour}

abbrev pub moving : Behaviour ℕ
moving = record {
  next = λ m event. m;
  reply = λ m event. Moved;
  is_stopped = λ m hart. false;
  can_start = λ m. false;
  stores_point = λ m hart event. false;
  finishes_fence = λ m hart event. false;
}

-- no eviction is valid
abbrev pub no_eviction : (line mask : ℕ) → Type 0
no_eviction line mask = ⊥

-- the event that a number stands for: a step of the hart that has it, or a crash where none does
abbrev pub event_of : ℕ → Event
event_of n = if nat_lt n 4 then Step n else Crash
