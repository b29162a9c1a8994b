use Rattle.std.proofs.Common.{◌≡◌, ◌-◌, map}
use Rattle.c_tree.specs.Views.{expression_of}
use Rattle.c_reader.specs.links.ParserFunctions.{parse_some_of, parse_expression}
use Rattle.c_reader.specs.links.ParserSteps.{more_of}
use Rattle.c_reader.proofs.assignment.expressions.Given as goal

abbrev pub invariant-loop-turn : goal.invariant-loop-turn
invariant-loop-turn l =
    parse_some_of l.fuel (parse_expression l.fuel) l.fn.tokens ≡ more_of (parse_expression l.fuel) (l.fuel - l._turn) (map expression_of l.found.items) l.tokens
