-- Steps of one hart that follow one another.
use Rattle.std.specs.Prelude.{ℕ, Bool, false, ◌==◌}
use Rattle.machine_events.specs.declared.event.Event.{Event}
use Rattle.machine_events.specs.declared.event.Event.TheVariants.{Step, Evict, Crash, Start}

abbrev pub is_step_of : (hart : ℕ) → Event → Bool
is_step_of hart (Step other) = other == hart
is_step_of hart (Evict line mask) = false
is_step_of hart Crash = false
is_step_of hart Start = false
