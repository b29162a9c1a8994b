use Rattle.std.proofs.Common.{◌≡◌, ◌-◌, ◌<◌, ◌≤◌, length, drop, false}
use Rattle.run_scripts.specs.Pieces.{begins_gap, words_at}
use Rattle.run_scripts.specs.Schedules.{read}
use Rattle.run_scripts.specs.links.WordLengths.{AreSoMany, read_after}
use Rattle.run_scripts.proofs.schedule.read_schedule.Given as goal

abbrev pub invariant-loop-at : goal.invariant-loop-at
invariant-loop-at l =
    (read l.text ≡ read_after l.lives (words_at l.at (drop l.at l.text)))
    × (l.at ≤ length l.text)
    × (l.at < length l.text → begins_gap (drop l.at l.text) ≡ false)
    × (l.lives.done ≤ 4000000)
    × AreSoMany l.lives

abbrev pub decreases-loop-at : goal.decreases-loop-at
decreases-loop-at l = length l.text - l.at
