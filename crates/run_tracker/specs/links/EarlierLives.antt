-- The schedules that are kept when a life begins, as vectors: those of the lives before, and that of the life that goes on.
use Rattle.std.specs.Prelude.{Vec, ℕ, ◌+◌, List, length, flat_map, map}
use Rattle.std.specs.Global.{Global}
use Rattle.machine_model.specs.Schedule.{LifeSchedules}

-- of each step the hart that takes it
abbrev pub schedule_in : Vec ℕ Global → List ℕ
schedule_in steps = steps.items

abbrev pub lives_in : (earlier : List (Vec ℕ Global)) → (schedule : List ℕ) → LifeSchedules
lives_in earlier schedule = record { earlier = map schedule_in earlier; schedule = schedule }

-- the steps of these lives, one life's after another's
abbrev pub steps_together : (lives : List (List ℕ)) → List ℕ
steps_together lives = flat_map (λ steps. steps) lives

-- how many there are, of all
abbrev pub kept_count : (earlier : List (Vec ℕ Global)) → (schedule : List ℕ) → ℕ
kept_count earlier schedule = length (steps_together (map schedule_in earlier)) + length schedule
