-- The report of a life with the fences of its harts, as the code makes it.
use Rattle.std.specs.Prelude.{◌≡◌, ℕ, List, [], ◌++◌, length, map, Bool, ◌&&◌, ◌==◌, if◌then◌else◌}
use Rattle.machine_events.specs.Cores.{finished_fences}
use Rattle.log_schemes.specs.Schemes.{numbers_from}
use Rattle.run_scripts.specs.Reports.{ReportedState, fence_lines}
use Rattle.run_tracker.specs.ObjectLives.{Course, living, opening_of}
use Rattle.ido_cli.specs.Runs.{IsReport}

-- how many fences each hart of the life has finished
abbrev pub fences_in : Course → List ℕ
fences_in life = map (finished_fences living (opening_of life) life.journal) (numbers_from 0 (length life.runs.program))

-- the report of a state, and after it these counts of fences, where they are asked for and the state is settled
pub record IsReportWith (asked : Bool) (s : ReportedState) (fences : List ℕ) (status : ℕ) (output : List ℕ) : Type 0 where
  pub report : List ℕ
  pub reported : IsReport s status report
  pub output_is : output ≡ report ++ (if asked && status == 0 then fence_lines fences else [])
