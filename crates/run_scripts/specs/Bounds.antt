-- How many events lines make at most, whatever core makes them.
use Rattle.std.specs.Prelude.{ℕ, ◌+◌, List, [], ◌∷◌}
use Rattle.ido_base.specs.declared.limits.TheConstants.{MOST_STEPS_TO}
use Rattle.run_scripts.specs.declared.script.Command.{Command}
use Rattle.run_scripts.specs.declared.script.Command.TheVariants.{Steps, Point, Fence, Enabled, Evict, Crash, Start}
use Rattle.run_scripts.specs.Scripts.{Line}

abbrev pub line_bound : Command → ℕ
line_bound (Steps hart count) = count
line_bound (Point hart) = MOST_STEPS_TO
line_bound (Fence hart) = MOST_STEPS_TO
line_bound (Enabled count) = count
line_bound (Evict line mask) = 1
line_bound Crash = 1
line_bound Start = 1

abbrev pub lines_bound : List Line → ℕ
lines_bound [] = 0
lines_bound (line ∷ lines) = line_bound line.command + lines_bound lines
