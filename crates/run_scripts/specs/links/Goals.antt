-- What a hart is stepped to by a line `b` or `f`.
use Rattle.std.specs.Prelude.{ℕ, Bool}
use Rattle.machine_events.specs.declared.event.Event.{Event}
use Rattle.machine_events.specs.Cores.{Behaviour}
use Rattle.run_scripts.specs.declared.play.Goal.{Goal}
use Rattle.run_scripts.specs.declared.play.Goal.TheVariants as g

-- the event now reaches the goal of the hart
abbrev pub reaches : {M : Type 0} → Behaviour M → Goal → (hart : ℕ) → M → Event → Bool
reaches b g.Point hart m event = b.stores_point m hart event
reaches b g.Fence hart m event = b.finishes_fence m hart event
