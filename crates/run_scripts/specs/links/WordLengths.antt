-- What is read after lives, and what an error tells.
use Rattle.std.specs.Prelude.{◌≡◌, ◌+◌, ℕ, List, length, map, sum_by, Option, Some, None}
use Rattle.run_scripts.specs.declared.schedule.ScheduleError.{ScheduleError}
use Rattle.run_scripts.specs.declared.schedule.ScheduleError.TheVariants as e
use Rattle.run_scripts.specs.declared.schedule.Lives.{Lives}
use Rattle.run_scripts.specs.Pieces.{Piece}
use Rattle.run_scripts.specs.Schedules.{Fault, BadWord, BadNumber, TooMany, Read, lives_from}
use Rattle.run_scripts.specs.links.ReportViews.{steps_of}

-- what words spell after lives
abbrev pub read_after : Lives → List Piece → Read
read_after lives ws = lives_from lives.done (map steps_of lives.ended.items) lives.steps.items ws

-- they have as many steps as is said
abbrev pub AreSoMany : Lives → Type 0
AreSoMany lives = lives.done ≡ sum_by length (map steps_of lives.ended.items) + length lives.steps.items

-- the fault that an error tells; want of memory is none
abbrev pub fault_of : ScheduleError → Option Fault
fault_of (e.Word place) = Some (BadWord place.0)
fault_of (e.Number place) = Some (BadNumber place.0)
fault_of (e.Many place) = Some (TooMany place.0)
fault_of e.Memory = None
