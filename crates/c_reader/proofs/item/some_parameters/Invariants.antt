use Rattle.std.proofs.Common.{◌≡◌, ◌-◌, map}
use Rattle.c_tree.specs.Views.{parameter_of}
use Rattle.c_reader.specs.links.ParserFunctions.{parse_some_of, parse_parameter}
use Rattle.c_reader.specs.links.ParserSteps.{more_of}
use Rattle.c_reader.proofs.item.some_parameters.Given as goal

abbrev pub invariant-loop-turn : goal.invariant-loop-turn
invariant-loop-turn l = parse_some_of l.fuel parse_parameter l.fn.tokens ≡ more_of parse_parameter (l.fuel - l._turn) (map parameter_of l.found.items) l.tokens
