use Rattle.std.proofs.Common.{◌≡◌, ◌++◌, take, map}
use Rattle.std.specs.List.{flat_map}
use Rattle.run_scripts.specs.links.RunViews.{run_of}
use Rattle.crash_images.specs.ImageEncoder.{run_text}
use Rattle.crash_images.proofs.writing.put_runs.Given as goal

abbrev pub invariant-loop-run : goal.invariant-loop-run
invariant-loop-run l = l.out.items ≡ l.fn.out.items ++ flat_map run_text (map run_of (take l.run-index l.runs))
