-- The image file that a crash leaves of a run.
use Rattle.std.specs.Prelude.{ℕ, List, map, take, drop}
use Rattle.machine_events.specs.declared.event.Event.{Event}
use Rattle.compiler_correctness.specs.Images as left
use Rattle.compiler_correctness.specs.Images.{file_of, image_of, variable_words}
use Rattle.compiler_correctness.specs.Translations.{Translation}
use Rattle.crash_images.specs.Contents.{Contents, State, contents}
use Rattle.machine_model.specs.Schedule.{all_lives}
use Rattle.run_scripts.specs.Runs.{runs_of}

-- what a crash after the events leaves: the durable words of the variables and of the logs, and the kept steps
abbrev pub left_by : Translation → List Event → left.Image
left_by c events = file_of c (image_of c events)

-- a file of a source: the words of its variables, those of its logs, and of each life the runs of the kept steps
abbrev pub file_contents : (source : List ℕ) → Translation → (file : left.Image) → Contents
file_contents source c file = contents source (take (variable_words c) file.words) (drop (variable_words c) file.words) (all_lives file.kept)

-- what stands after the source
abbrev pub file_state : Translation → (file : left.Image) → State
file_state c file = record {
  variables = take (variable_words c) file.words;
  logs = drop (variable_words c) file.words;
  lives = map runs_of (all_lives file.kept);
}
