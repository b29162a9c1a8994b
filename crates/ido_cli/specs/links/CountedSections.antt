-- Sections that a life has counted.
use Rattle.std.specs.Prelude.{◌≡◌, ℕ, ◌<◌, length}
use Rattle.c_tree.specs.Flats.{Flat}
use Rattle.c_tree.specs.Source.{start}
use Rattle.source_machine.specs.Lives.{ended_lives}
use Rattle.machine_model.specs.Schedule.{schedules}
use Rattle.run_tracker.specs.ObjectLives.{Course, ended_sections, steps_in}

-- the life has a hart for each thread, and has counted as many sections of it as the source ends by the kept schedules
pub record CountsSections (x : Flat) (life : Course) : Type 0 where
  pub harts : length life.runs.program ≡ length x.threads
  pub each : (h : ℕ) → h < length life.runs.program → ended_sections life h ≡ ended_lives x (start x) (schedules (steps_in life)) h
