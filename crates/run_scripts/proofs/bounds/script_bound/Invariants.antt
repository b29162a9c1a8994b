use Rattle.std.proofs.Common.{◌≡◌, ◌<◌, ◌≤◌, ◌^◌, map, min, take}
use Rattle.run_scripts.specs.Bounds.{lines_bound}
use Rattle.run_scripts.specs.links.ScriptViews.{line_of}
use Rattle.run_scripts.proofs.bounds.script_bound.Given as goal

abbrev pub invariant-loop-line : goal.invariant-loop-line
invariant-loop-line l = record {
  bound : l.bound ≡ min l.limit (lines_bound (map line_of (take l.line-index l.script.lines.items)));
  within : l.bound ≤ l.limit;
  limit : l.limit < 2 ^ 32;
}
