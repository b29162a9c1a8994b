-- What is answered to all that stands after a source.
use Rattle.std.specs.Prelude.{◌≡◌, List, map, Result, Ok, Err, Vec, ℕ}
use Rattle.std.specs.Global.{Global}
use Rattle.log_schemes.specs.declared.log.Log.{Log}
use Rattle.c_tree.specs.Flats.{Flat}
use Rattle.flat_compile.specs.declared.resumes.Resume.{Resume}
use Rattle.image_checks.specs.declared.error.ImageError.{ImageError}
use Rattle.image_checks.specs.declared.error.ImageError.TheVariants as e
use Rattle.run_scripts.specs.links.ReportViews.{steps_of}
use Rattle.crash_images.specs.Contents.{State}
use Rattle.image_checks.specs.Checks.{IsWellFormedState, IsStateFault}
use Rattle.image_checks.specs.Schedules.{schedules_of}

pub data IsStateAnswer (log : Log) (flat : Flat) (table : List (Vec Resume Global)) (s : State) : Result (Vec (Vec ℕ Global) Global) ImageError → Type 0 where
  sound : (lives : Vec (Vec ℕ Global) Global) → IsWellFormedState log flat table s → map steps_of lives.items ≡ schedules_of s.lives →
      IsStateAnswer log flat table s (Ok lives)
  faulty : (error : ImageError) → IsStateFault log flat table s error → IsStateAnswer log flat table s (Err error)
  -- want of memory tells nothing
  no_memory : IsStateAnswer log flat table s (Err e.Memory)
