-- A core whose harts never stop, and each of whose steps moves its hart. It represents nothing but that.
use Rattle.std.specs.Prelude.{ℕ, ◌+◌, List, [], ◌∷◌, Bool, false, ◌==◌, if◌then◌else◌}
use Rattle.machine_events.specs.declared.event.Event.{Event}
use Rattle.machine_events.specs.declared.event.Event.TheVariants.{Step, Evict, Crash, Start}
use Rattle.machine_events.specs.declared.event.Reply.{Reply}
use Rattle.machine_events.specs.declared.event.Reply.TheVariants.{Moved, Device}
use Rattle.machine_events.specs.Cores.{Behaviour}

abbrev pub reply : Event → Reply
reply (Step hart) = Moved
reply (Evict line mask) = Device
reply Crash = Device
reply Start = Device

abbrev pub moving : Behaviour ℕ
moving = record {
  next = λ m event. m;
  reply = λ m event. reply event;
  is_stopped = λ m hart. false;
  can_start = λ m. false;
  stores_point = λ m hart event. false;
  finishes_fence = λ m hart event. false;
}

-- the event is a step of the hart
abbrev pub is_step_of : (hart : ℕ) → Event → Bool
is_step_of hart (Step other) = other == hart
is_step_of hart (Evict line mask) = false
is_step_of hart Crash = false
is_step_of hart Start = false

-- how many of the events are steps of the hart
abbrev pub steps_of : (hart : ℕ) → List Event → ℕ
steps_of hart [] = 0
steps_of hart (event ∷ events) = (if is_step_of hart event then 1 else 0) + steps_of hart events
