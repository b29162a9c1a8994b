use Rattle.std.proofs.Common.{◌≡◌, ◌-◌, ◌<◌, ◌≤◌, length, drop, map, false}
use Rattle.run_scripts.specs.Pieces.{begins_line_end, lines_at}
use Rattle.run_scripts.specs.Scripts.{lines_of, read}
use Rattle.run_scripts.specs.links.ScriptViews.{line_of, after_lines}
use Rattle.run_scripts.proofs.script.read_script.Given as goal

abbrev pub invariant-loop-at : goal.invariant-loop-at
invariant-loop-at l =
    (read l.log l.harts l.text ≡ after_lines (map line_of l.lines.items) (lines_of l.log l.harts (lines_at l.at (drop l.at l.text))))
    × (l.at ≤ length l.text)
    × (l.at < length l.text → begins_line_end (drop l.at l.text) ≡ false)

abbrev pub decreases-loop-at : goal.decreases-loop-at
decreases-loop-at l = length l.text - l.at
