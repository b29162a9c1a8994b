-- The image with which a machine begins for what stands after a source in a file.
use Rattle.std.specs.Prelude.{ℕ, List, length, ◌++◌}
use Rattle.ido_base.specs.Layout.{spread_words}
use Rattle.machine_model.specs.Schedule.{LifeSchedules}
use Rattle.compiler_correctness.specs.Images.{Image}
use Rattle.crash_images.specs.Contents.{State}

-- zeros stand between the words of the variables and those of the logs
abbrev pub state_words : State → List ℕ
state_words s = spread_words (length s.variables) (s.variables ++ s.logs)

-- with schedules that were kept
abbrev pub image_of_state : State → LifeSchedules → Image
image_of_state s kept = record { words = state_words s; kept = kept }
