-- What a state of the code stands for.
use Rattle.std.specs.Prelude.{Vec, ℕ, List, map}
use Rattle.std.specs.Global.{Global}
use Rattle.run_scripts.specs.Runs as r
use Rattle.run_scripts.specs.declared.runs.Run.{Run}
use Rattle.run_scripts.specs.links.RunViews.{run_of}
use Rattle.crash_images.specs.Contents as c
use Rattle.crash_images.specs.declared.state.State.{State}

-- the runs of a life
abbrev pub life_of : Vec Run Global → List r.Run
life_of runs = map run_of runs.items

-- the runs in which the schedule of a life is written
abbrev pub written_life : Vec ℕ Global → List r.Run
written_life schedule = r.runs_of schedule.items

abbrev pub state_of : State → c.State
state_of x = record { variables = x.variables.items; logs = x.logs.items; lives = map life_of x.lives.items }
