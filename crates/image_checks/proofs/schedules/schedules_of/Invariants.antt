use Rattle.std.proofs.Common.{◌≡◌, length, map, take, drop}
use Rattle.c_tree.specs.Flats.{flat_of}
use Rattle.run_scripts.specs.links.ReportViews.{steps_of}
use Rattle.crash_images.specs.links.Views.{life_of}
use Rattle.image_checks.specs.Schedules.{schedules_of}
use Rattle.image_checks.proofs.CheckedLives.{HaveChecked}
use Rattle.image_checks.proofs.schedules.schedules_of.Given as goal

abbrev pub invariant-loop-i : goal.invariant-loop-i
invariant-loop-i l = record {
  checked : HaveChecked (flat_of l.flat) (map life_of l.lives) l.state l.i l.done (map life_of (drop l.i l.lives));
  told : map steps_of l.schedules.items ≡ schedules_of (map life_of (take l.i l.lives));
  end : l.i-end ≡ length l.lives;
}
