-- Lines that say what is refused.
use Rattle.std.specs.Prelude.{◌≡◌, ℕ, List, ◌++◌, Option, Some, None, codes, decimal}
use Rattle.ido_base.specs.Places.{column_of, line_of}
use Rattle.c_tree.specs.declared.rule.Rule as r
use Rattle.c_tree.specs.declared.rule.Rule.TheVariants as rule
use Rattle.file_fields.specs.Fields as fields
use Rattle.image_checks.specs.declared.error.ImageError.{ImageError}
use Rattle.image_checks.specs.declared.error.ImageError.TheVariants as image
use Rattle.run_scripts.specs.Plays as p
use Rattle.run_scripts.specs.Reports.{line}
use Rattle.run_scripts.specs.Schedules as s
use Rattle.run_scripts.specs.Scripts as c
use Rattle.source_machine.specs.declared.answers.RefusedKind.{RefusedKind}
use Rattle.source_machine.specs.declared.answers.RefusedKind.TheVariants as kind

-- the code of a rule that a source text breaks
abbrev pub code_of : r.Rule → List ℕ
code_of rule.Byte = codes "S1"
code_of rule.Number = codes "S2"
code_of rule.Syntax = codes "S3"
code_of rule.Unknown = codes "N1"
code_of rule.Twice = codes "N2"
code_of rule.WrongSort = codes "N3"
code_of rule.Recursion = codes "N4"
code_of rule.Count = codes "N5"
code_of rule.Return = codes "N6"
code_of rule.Threads = codes "K2"
code_of rule.Mutexes = codes "K3"
code_of rule.Bytes = codes "K4"
code_of rule.Locals = codes "K5"
code_of rule.Temporaries = codes "K6"
code_of rule.Code = codes "K7"
code_of rule.High = codes "K8"
code_of rule.Length = codes "K9"
code_of rule.Index = codes "X1"
code_of rule.Null = codes "X2"
code_of rule.Unheld = codes "L1"
code_of rule.Again = codes "L2"
code_of rule.NotHeld = codes "L3"
code_of rule.Join = codes "L4"
code_of rule.EndHeld = codes "L5"
code_of rule.Frozen = codes "L6"
code_of rule.Held = codes "K10"

-- the code of a fault of a schedule; its place is one in the schedule's text
abbrev pub fault_code : s.Fault → List ℕ
fault_code (s.TooMany place) = codes "E1"
fault_code (s.BadWord place) = codes "E2"
fault_code (s.BadNumber place) = codes "E3"

abbrev pub fault_place : s.Fault → ℕ
fault_place (s.TooMany place) = place
fault_place (s.BadWord place) = place
fault_place (s.BadNumber place) = place

-- the code of a fault of a script; its place is one in the script's text
abbrev pub script_fault_code : c.Fault → List ℕ
script_fault_code (c.BadWord place) = codes "E2"
script_fault_code (c.BadNumber place) = codes "E3"
script_fault_code (c.NoHart place) = codes "E4"
script_fault_code (c.NoLine place) = codes "E5"

abbrev pub script_fault_place : c.Fault → ℕ
script_fault_place (c.BadWord place) = place
script_fault_place (c.BadNumber place) = place
script_fault_place (c.NoHart place) = place
script_fault_place (c.NoLine place) = place

-- the code of a fault that is found while a script is played; its place is one in the script's text
abbrev pub play_fault_code : p.PlayFault → List ℕ
play_fault_code (p.TooMany place) = codes "E1"
play_fault_code (p.BadStart place) = codes "E6"
play_fault_code (p.PastFew place) = codes "E7"

abbrev pub play_fault_place : p.PlayFault → ℕ
play_fault_place (p.TooMany place) = place
play_fault_place (p.BadStart place) = place
play_fault_place (p.PastFew place) = place

-- the code of a step that can't be made, or before which no other life may begin
abbrev pub stop_code : RefusedKind → List ℕ
stop_code kind.UnknownThread = codes "Q1"
stop_code kind.Waits = codes "Q2"
stop_code kind.Ended = codes "Q3"
stop_code kind.Inside = codes "Q4"

-- the code of a fault of an object
abbrev pub object_fault_code : fields.Fault → List ℕ
object_fault_code fields.Magic = codes "O1"
object_fault_code fields.Version = codes "O2"
object_fault_code (fields.Cut place) = codes "O3"
object_fault_code (fields.Field place) = codes "O4"
object_fault_code (fields.Rest place) = codes "O5"

abbrev pub object_fault_place : fields.Fault → ℕ
object_fault_place fields.Magic = 0
object_fault_place fields.Version = 8
object_fault_place (fields.Cut place) = place
object_fault_place (fields.Field place) = place
object_fault_place (fields.Rest place) = place

-- ---- Lines

-- `refused L1 at 4:3`
unfoldable pub line_at : (code text : List ℕ) → (place : ℕ) → List ℕ
line_at code text place = line (codes "refused " ++ code ++ codes " at " ++ decimal (line_of text place) ++ codes ":" ++ decimal (column_of text place))

-- `1:92`
unfoldable pub place_text : (text : List ℕ) → (place : ℕ) → List ℕ
place_text text place = decimal (line_of text place) ++ codes ":" ++ decimal (column_of text place)

-- `refused L7 at 1:92 after 1:83`
unfoldable pub line_after : (code text : List ℕ) → (place earlier : ℕ) → List ℕ
line_after code text place earlier =
    line (codes "refused " ++ code ++ codes " at " ++ place_text text place ++ codes " after " ++ place_text text earlier)

-- `refused I11 life 1`
unfoldable pub line_at_life : (code : List ℕ) → (life : ℕ) → List ℕ
line_at_life code life = line (codes "refused " ++ code ++ codes " life " ++ decimal life)

-- `refused Q3 at step 6`
unfoldable pub line_at_step : (code : List ℕ) → (step : ℕ) → List ℕ
line_at_step code step = line (codes "refused " ++ code ++ codes " at step " ++ decimal step)

-- `refused O3 at byte 35`
unfoldable pub line_at_byte : (code : List ℕ) → (place : ℕ) → List ℕ
line_at_byte code place = line (codes "refused " ++ code ++ codes " at byte " ++ decimal place)

-- `refused I5 thread 2`
unfoldable pub line_at_thread : (code : List ℕ) → (thread : ℕ) → List ℕ
line_at_thread code thread = line (codes "refused " ++ code ++ codes " thread " ++ decimal thread)

-- `refused I10 thread 2 register 7`
unfoldable pub line_at_register : (code : List ℕ) → (thread register : ℕ) → List ℕ
line_at_register code thread register = line (codes "refused " ++ code ++ codes " thread " ++ decimal thread ++ codes " register " ++ decimal register)

-- `refused I12 variable 2 element 0`
unfoldable pub line_of_element : (code : List ℕ) → (variable element : ℕ) → List ℕ
line_of_element code variable element = line (codes "refused " ++ code ++ codes " variable " ++ decimal variable ++ codes " element " ++ decimal element)

-- `refused I7 lock 0 threads 1 2`
unfoldable pub line_of_threads : (code : List ℕ) → (lock first second : ℕ) → List ℕ
line_of_threads code lock first second =
    line (codes "refused " ++ code ++ codes " lock " ++ decimal lock ++ codes " threads " ++ decimal first ++ codes " " ++ decimal second)

-- the line of a fault of an image; want of memory has none
abbrev pub image_line : ImageError → Option (List ℕ)
image_line image.Magic = Some (line_at_byte (codes "I1") 0)
image_line image.Version = Some (line_at_byte (codes "I2") 8)
image_line (image.Cut place) = Some (line_at_byte (codes "I3") place.0)
image_line image.Source = Some (line (codes "refused I4"))
image_line (image.Point thread) = Some (line_at_thread (codes "I5") thread)
image_line (image.Mask thread) = Some (line_at_thread (codes "I6") thread)
image_line (image.Shared lock first second) = Some (line_of_threads (codes "I7") lock first second)
image_line (image.Rest place) = Some (line_at_byte (codes "I8") place.0)
image_line (image.Schedule step) = Some (line_at_step (codes "I9") step)
image_line (image.Lives life) = Some (line_at_life (codes "I11") life)
image_line (image.Slot thread register) = Some (line_at_register (codes "I10") thread register)
image_line (image.Reference variable element) = Some (line_of_element (codes "I12") variable element)
image_line image.Memory = None

-- the refusal by the code at the place, with the status
abbrev pub IsRefusedAt : (refused : ℕ) → (code text : List ℕ) → (place status : ℕ) → (output : List ℕ) → Type 0
IsRefusedAt refused code text place status output = (status ≡ refused) × (output ≡ line_at code text place)
