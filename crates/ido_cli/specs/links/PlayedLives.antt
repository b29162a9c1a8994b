-- A life on which events were played.
use Rattle.std.specs.Prelude.{◌≡◌, List}
use Rattle.machine_events.specs.declared.event.Event.{Event}
use Rattle.rv64_isa.specs.declared.object.Marks.{Marks}
use Rattle.machine_model.specs.declared.object.Object.{Object}
use Rattle.run_tracker.specs.ObjectLives.{Course, new_life, opening_of}

-- the life began with the object, and has had these events
pub record HasPlayed (object : Object) (marks : Marks) (life : Course) (events : List Event) : Type 0 where
  pub begins : opening_of life ≡ opening_of (new_life object marks 0)
  pub journal : life.journal ≡ events
