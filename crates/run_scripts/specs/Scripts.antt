-- Scripts: each line that isn't empty says which events are made.
use Rattle.std.specs.Prelude.{ℕ, ◌+◌, ◌<◌, ◌≤◌, List, [], ◌∷◌, Option, Some, None, nat_lt, nat_le, ◌==◌, if◌then◌else◌, take, drop}
use Rattle.std.specs.List.{prefix_len}
use Rattle.std.specs.Str.Parse.{digits_value}
use Rattle.log_schemes.specs.declared.log.Log.{Log}
use Rattle.log_schemes.specs.Layout.{line_count}
use Rattle.run_scripts.specs.Pieces.{Piece, lines_at}
use Rattle.run_scripts.specs.Schedules.{is_digit, number_limit}
use Rattle.run_scripts.specs.declared.script.Command.{Command}
use Rattle.run_scripts.specs.declared.script.Command.TheVariants.{Steps, Point, Fence, Enabled, Evict, Crash, Start}

-- a fault of a script
pub data Fault : Type 0 where
  -- a byte that fits no line, or the end of a line that is too short
  BadWord : (place : ℕ) → Fault
  -- a number that is too great
  BadNumber : (place : ℕ) → Fault
  -- a hart that doesn't exist
  NoHart : (place : ℕ) → Fault
  -- a line of memory that doesn't exist
  NoLine : (place : ℕ) → Fault

-- what a line says, or its first fault
pub data LineRead : Type 0 where
  Says : Command → LineRead
  Fails : Fault → LineRead

-- ---- Numbers: what each of them may be

-- what is refused of a number that stands at a place
abbrev pub Rule : Type 0
Rule = (place number : ℕ) → Option Fault

abbrev pub any_number : Rule
any_number place n = if nat_lt n number_limit then None else Some (BadNumber place)

abbrev pub hart_number : (harts : ℕ) → Rule
hart_number harts place n = if nat_lt n number_limit then (if nat_lt n harts then None else Some (NoHart place)) else Some (BadNumber place)

abbrev pub line_number : Log → (harts : ℕ) → Rule
line_number log harts place n =
    if nat_lt n number_limit then (if nat_lt n (line_count log harts) then None else Some (NoLine place)) else Some (BadNumber place)

abbrev pub mask_number : Rule
mask_number place n = if nat_le n 255 then None else Some (BadNumber place)

-- ---- A line, from left to right

-- a number comes next that the rule doesn't refuse, then what is read from the place after it on
abbrev pub number_then : Rule → (place : ℕ) → List ℕ → ((number place : ℕ) → List ℕ → LineRead) → LineRead
number_then rule place bytes after =
    let n = prefix_len is_digit bytes in
    let number = digits_value 10 (take n bytes) in
    if n == 0 then Fails (BadWord place) else elim (rule place number) [
      | Some fault ↦ Fails fault
      | None ↦ after number (place + n) (drop n bytes)
    ]

-- a space comes next, and a number
abbrev pub argument_then : Rule → (place : ℕ) → List ℕ → ((number place : ℕ) → List ℕ → LineRead) → LineRead
argument_then rule place [] after = Fails (BadWord place)
argument_then rule place (c ∷ cs) after = if c == 32 then number_then rule (place + 1) cs after else Fails (BadWord place)

-- the line ends here
abbrev pub end_then : (place : ℕ) → List ℕ → Command → LineRead
end_then place [] command = Says command
end_then place (c ∷ cs) command = Fails (BadWord place)

-- `s H N`, `b H`, `f H`, `g N` and `e LINE MASK`, each after its letter
abbrev pub steps_line : (harts place : ℕ) → List ℕ → LineRead
steps_line harts place bytes =
    argument_then (hart_number harts) place bytes (λ hart p after. argument_then any_number p after (λ count q end. end_then q end (Steps hart count)))

abbrev pub point_line : (harts place : ℕ) → List ℕ → LineRead
point_line harts place bytes = argument_then (hart_number harts) place bytes (λ hart p after. end_then p after (Point hart))

abbrev pub fence_line : (harts place : ℕ) → List ℕ → LineRead
fence_line harts place bytes = argument_then (hart_number harts) place bytes (λ hart p after. end_then p after (Fence hart))

abbrev pub enabled_line : (place : ℕ) → List ℕ → LineRead
enabled_line place bytes = argument_then any_number place bytes (λ count p after. end_then p after (Enabled count))

abbrev pub evict_line : Log → (harts place : ℕ) → List ℕ → LineRead
evict_line log harts place bytes =
    argument_then (line_number log harts) place bytes (λ line p after. argument_then mask_number p after (λ mask q end. end_then q end (Evict line mask)))

-- a line by its letter, at a machine of so many harts, which log so
abbrev pub line_of : Log → (harts place : ℕ) → List ℕ → LineRead
line_of log harts place [] = Fails (BadWord place)
line_of log harts place (c ∷ cs) =
    if c == 115 then steps_line harts (place + 1) cs
    else if c == 98 then point_line harts (place + 1) cs
    else if c == 102 then fence_line harts (place + 1) cs
    else if c == 103 then enabled_line (place + 1) cs
    else if c == 101 then evict_line log harts (place + 1) cs
    else if c == 99 then end_then (place + 1) cs Crash
    else if c == 114 then end_then (place + 1) cs Start
    else Fails (BadWord place)

-- ---- A script

-- a line of a script, and where its first byte stands
pub record Line : Type 0 where
  pub place : ℕ
  pub command : Command

-- the lines of a script, or its first fault
pub data Read : Type 0 where
  Lines : List Line → Read
  Refused : Fault → Read

abbrev pub before_lines : Line → Read → Read
before_lines line (Lines lines) = Lines (line ∷ lines)
before_lines line (Refused fault) = Refused fault

abbrev pub with_line : (place : ℕ) → LineRead → Read → Read
with_line place (Says command) after = before_lines (record { place = place; command = command }) after
with_line place (Fails fault) after = Refused fault

abbrev pub lines_of : Log → (harts : ℕ) → List Piece → Read
lines_of log harts [] = Lines []
lines_of log harts (p ∷ ps) = with_line p.place (line_of log harts p.place p.bytes) (lines_of log harts ps)

unfoldable pub read : Log → (harts : ℕ) → List ℕ → Read
read log harts text = lines_of log harts (lines_at 0 text)

-- what the line asks for exists, at so many harts and where these evictions (line, mask) are valid; whether a life may begin is found when a start is played
abbrev pub IsDoable : (harts : ℕ) → (ℕ → ℕ → Type 0) → Command → Type 0
IsDoable harts evictable (Steps hart count) = hart < harts
IsDoable harts evictable (Point hart) = hart < harts
IsDoable harts evictable (Fence hart) = hart < harts
IsDoable harts evictable (Enabled count) = Unit {0}
IsDoable harts evictable (Evict line mask) = evictable line mask
IsDoable harts evictable Crash = Unit {0}
IsDoable harts evictable Start = Unit {0}

-- the line exists, and the mask has eight bits
abbrev pub IsEviction : Log → (harts line mask : ℕ) → Type 0
IsEviction log harts line mask = (line < line_count log harts) × (mask ≤ 255)
