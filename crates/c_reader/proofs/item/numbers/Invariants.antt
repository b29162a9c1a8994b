use Rattle.std.proofs.Common.{◌≡◌, ◌-◌, map}
use Rattle.c_tree.specs.Views.{signed_of}
use Rattle.c_reader.specs.links.ParserSteps.{parse_numbers, more_numbers}
use Rattle.c_reader.proofs.item.numbers.Given as goal

abbrev pub invariant-loop-turn : goal.invariant-loop-turn
invariant-loop-turn l = parse_numbers l.fuel l.fn.tokens ≡ more_numbers (l.fuel - l._turn) (map signed_of l.found.items) l.tokens
