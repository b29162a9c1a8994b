use Rattle.std.proofs.Common.{◌≡◌, ◌+◌, ◌-◌, ◌≤◌, take, drop, length, min}
use Rattle.std.specs.List.{prefix_len}
use Rattle.std.specs.Str.Parse.{digits_value}
use Rattle.run_scripts.specs.Schedules.{is_digit}
use Rattle.run_scripts.proofs.number.leading_digits.Given as goal

abbrev pub invariant-loop-count : goal.invariant-loop-count
invariant-loop-count l =
    (prefix_len is_digit l.text ≡ l.count + prefix_len is_digit (drop l.count l.text)) × (l.count ≤ length l.text) × (l.number ≤ 4294967296)
    × (l.number ≡ min (digits_value 10 (take l.count l.text)) 4294967296)

abbrev pub decreases-loop-count : goal.decreases-loop-count
decreases-loop-count l = length l.text - l.count
