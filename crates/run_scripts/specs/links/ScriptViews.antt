-- What the types of `script` represent.
use Rattle.std.specs.Prelude.{◌≡◌, ℕ, List, ◌++◌, Option, Some, None, Result, Ok, Err}
use Rattle.run_scripts.specs.Plays as p
use Rattle.run_scripts.specs.Scripts as s
use Rattle.run_scripts.specs.declared.few.Excess.{Excess}
use Rattle.run_scripts.specs.declared.few.Excess.TheVariants as few
use Rattle.run_scripts.specs.declared.play.PlayError.{PlayError}
use Rattle.run_scripts.specs.declared.play.PlayError.TheVariants as play
use Rattle.run_scripts.specs.declared.script.Command.{Command}
use Rattle.run_scripts.specs.declared.script.Line.{Line}
use Rattle.run_scripts.specs.declared.script.Rule.{Rule}
use Rattle.run_scripts.specs.declared.script.Rule.TheVariants as r
use Rattle.run_scripts.specs.declared.script.ScriptFault.{ScriptFault}
use Rattle.run_scripts.specs.declared.script.ScriptFault.TheVariants as f
use Rattle.run_scripts.specs.declared.script.ScriptError.{ScriptError}
use Rattle.run_scripts.specs.declared.script.ScriptError.TheVariants as e

abbrev pub line_of : Line → s.Line
line_of line = record { place = line.place.0; command = line.command }

abbrev pub rule_of : Rule → s.Rule
rule_of r.Any = s.any_number
rule_of (r.Hart harts) = s.hart_number harts
rule_of (r.Line log harts) = s.line_number log harts
rule_of r.Mask = s.mask_number

abbrev pub fault_of : ScriptFault → s.Fault
fault_of (f.Word place) = s.BadWord place.0
fault_of (f.Number place) = s.BadNumber place.0
fault_of (f.Hart place) = s.NoHart place.0
fault_of (f.Line place) = s.NoLine place.0

-- the fault that an error tells; want of memory is none
abbrev pub refused_fault : ScriptError → Option s.Fault
refused_fault (e.Refused fault) = Some (fault_of fault)
refused_fault e.Memory = None

-- what is found while a script is played
abbrev pub play_fault_of : PlayError → p.PlayFault
play_fault_of (play.Many place) = p.TooMany place.0
play_fault_of (play.Start place) = p.BadStart place.0

abbrev pub few_fault_of : Excess → p.PlayFault
few_fault_of (few.Script place) = p.TooMany place.0
few_fault_of (few.Start place) = p.BadStart place.0
few_fault_of (few.Few place) = p.PastFew place.0

-- the line ends after its last number
abbrev pub ending : (make : ℕ → Command) → (number place : ℕ) → List ℕ → s.LineRead
ending make n place after = s.end_then place after (make n)

-- the result of a line is what it says, or its fault
abbrev pub IsLineRead : s.LineRead → Result Command ScriptFault → Type 0
IsLineRead read (Ok command) = read ≡ s.Says command
IsLineRead read (Err fault) = read ≡ s.Fails (fault_of fault)

-- lines before what is read
abbrev pub after_lines : List s.Line → s.Read → s.Read
after_lines done (s.Lines lines) = s.Lines (done ++ lines)
after_lines done (s.Refused fault) = s.Refused fault
