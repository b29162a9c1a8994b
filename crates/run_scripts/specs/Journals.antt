-- A source and the events of a run, as an input that plays them again.
use Rattle.std.specs.Prelude.{ℕ, ◌+◌, ◌-◌, List, [], ◌∷◌, ◌++◌, length, slice_index, Bool, codes, decimal, flat_map, ◌==◌, if◌then◌else◌}
use Rattle.ido_base.specs.Places.{line_feed}
use Rattle.machine_events.specs.declared.event.Event.{Event}
use Rattle.machine_events.specs.declared.event.Event.TheVariants as events
use Rattle.run_scripts.specs.Reports.{line}
use Rattle.run_scripts.specs.declared.script.Command.{Command}
use Rattle.run_scripts.specs.declared.script.Command.TheVariants.{Steps, Point, Fence, Enabled, Evict, Crash, Start}

-- a step of a hart before what lines make
abbrev pub with_step : (hart : ℕ) → List Command → List Command
with_step hart (Steps other count ∷ cs) = if other == hart then Steps hart (count + 1) ∷ cs else Steps hart 1 ∷ Steps other count ∷ cs
with_step hart cs = Steps hart 1 ∷ cs

-- the lines that make events: one for each longest run of steps of one hart, for each eviction, for each crash and for each start
abbrev pub commands_of : List Event → List Command
commands_of [] = []
commands_of (events.Step hart ∷ es) = with_step hart (commands_of es)
commands_of (events.Evict evicted mask ∷ es) = Evict evicted mask ∷ commands_of es
commands_of (events.Crash ∷ es) = Crash ∷ commands_of es
commands_of (events.Start ∷ es) = Start ∷ commands_of es

-- a line as it is written
unfoldable pub command_text : Command → List ℕ
command_text (Steps hart count) = line (codes "s " ++ decimal hart ++ codes " " ++ decimal count)
command_text (Point hart) = line (codes "b " ++ decimal hart)
command_text (Fence hart) = line (codes "f " ++ decimal hart)
command_text (Enabled count) = line (codes "g " ++ decimal count)
command_text (Evict evicted mask) = line (codes "e " ++ decimal evicted ++ codes " " ++ decimal mask)
command_text Crash = line (codes "c")
command_text Start = line (codes "r")

-- the last byte is an LF
abbrev pub ends_line : List ℕ → Bool
ends_line text = slice_index text (length text - 1) == line_feed

-- the source, with an LF at its end, the line `%%`, and the lines that make the events
unfoldable pub journal_text : (source : List ℕ) → List Event → List ℕ
journal_text source es = (if ends_line source then source else line source) ++ line (codes "%%") ++ flat_map command_text (commands_of es)
