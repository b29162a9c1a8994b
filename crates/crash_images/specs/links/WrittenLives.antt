-- Lives of the code put after what is there.
use Rattle.std.specs.Prelude.{◌≡◌, Vec, ℕ, List, ◌++◌, flat_map, map}
use Rattle.std.specs.Global.{Global}
use Rattle.std.specs.List.{AllByRecursion}
use Rattle.crash_images.specs.Contents.{Contents, IsLife}
use Rattle.crash_images.specs.ImageEncoder.{runs_text}
use Rattle.crash_images.specs.links.Views.{written_life}

-- what is written of lives of these schedules
abbrev pub written_contents : (source variables logs : List ℕ) → (schedules : List (Vec ℕ Global)) → Contents
written_contents source variables logs schedules =
    record { source = source; state = record { variables = variables; logs = logs; lives = map written_life schedules } }

-- the runs of their schedules, which four bytes tell
pub record AreWritten (old : List ℕ) (schedules : List (Vec ℕ Global)) (new : List ℕ) : Type 0 where
  pub text : new ≡ old ++ flat_map runs_text (map written_life schedules)
  pub fits : AllByRecursion IsLife (map written_life schedules)
