-- The life that went on from an image's file, after a leg, and of which an image of the newest version may be made.
use Rattle.std.specs.Prelude.{◌≡◌, ℕ, ◌+◌, ◌<◌, ◌≤◌, ◌^◌, [], length, sum_by, None}
use Rattle.ido_base.specs.declared.limits.TheConstants.{MOST_STEPS}
use Rattle.machine_model.specs.Frames.{IsWellFormedWorld}
use Rattle.machine_model.specs.Schedule.{schedules}
use Rattle.c_tree.specs.Flats.{flat_of}
use Rattle.flat_compile.specs.TranslatedForms.{IsTranslatedAs}
use Rattle.ido_compile.specs.declared.compiler.Compiled.{Compiled}
use Rattle.ido_compile.specs.CompileAnswers.{translation_in}
use Rattle.compiler_correctness.specs.Images.{Image}
use Rattle.compiler_correctness.specs.Translations.{Translation}
use Rattle.hart_driver.specs.Legs.{IsLeg}
use Rattle.run_tracker.specs.ObjectLives.{Course, opening_of, steps_in, world_of}
use Rattle.ido_cli.specs.Recoveries.{recovering}
use Rattle.ido_cli.specs.ThreadedRuns.{leg_after, most_leg_events}

pub record HasRecovered (c : Translation) (file : Image) (turns : ℕ) (life : Course) : Type 0 where
  pub opens : opening_of life ≡ recovering c file
  pub leg : IsLeg (leg_after (recovering c file) turns None [] None) life.journal
  pub sound : IsWellFormedWorld (world_of life)
  pub harts : length (world_of life).harts ≡ length life.runs.program
  pub steps : sum_by length (schedules (steps_in life)) ≤ MOST_STEPS + most_leg_events

-- the life of a compiled text, in its first life
pub record CanRenew (c : Compiled) (life : Course) : Type 0 where
  pub translated : IsTranslatedAs c.translated.object.log (flat_of c.flat) c.translated.object c.translated.marks c.translated.cuts
  pub runs : life.runs ≡ (translation_in c).runs
  pub sound : IsWellFormedWorld (world_of life)
  pub harts : length (world_of life).harts ≡ length life.runs.program
  pub alone : (steps_in life).earlier ≡ []
  pub steps : sum_by length (schedules (steps_in life)) < 2 ^ 63
