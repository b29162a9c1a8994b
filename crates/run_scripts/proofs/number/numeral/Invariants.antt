use Rattle.std.proofs.Common.{◌≡◌, ◌<◌, ◌≤◌, take, length, min, true}
use Rattle.std.specs.List.{list_all}
use Rattle.std.specs.Str.Parse.{digits_value}
use Rattle.run_scripts.specs.Schedules.{is_digit}
use Rattle.run_scripts.proofs.number.numeral.Given as goal

abbrev pub invariant-loop-digit : goal.invariant-loop-digit
invariant-loop-digit l =
    (l.number ≤ 4294967296) × (list_all is_digit (take l.digit-index l.text) ≡ true) × (l.number ≡ min (digits_value 10 (take l.digit-index l.text)) 4294967296)
    × (0 < length l.text)
