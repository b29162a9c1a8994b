use Rattle.std.proofs.Common.{◌≡◌, ◌+◌, ◌-◌, ◌*◌}
use Rattle.c_tree.specs.Views.{arms_list_of, statements_of}
use Rattle.c_reader.specs.links.ParserFunctions.{parse_statements}
use Rattle.c_reader.specs.links.ParserSteps.{parse_if, more_arms, more_statements}
use Rattle.c_reader.proofs.block.+statement.Given as goal

abbrev pub decreases-if_statement : goal.decreases-if_statement
decreases-if_statement l = 20 * l.fuel + 2

abbrev pub decreases-while_statement : goal.decreases-while_statement
decreases-while_statement l = 20 * l.fuel + 2

abbrev pub decreases-do_statement : goal.decreases-do_statement
decreases-do_statement l = 20 * l.fuel + 2

abbrev pub decreases-for_statement : goal.decreases-for_statement
decreases-for_statement l = 20 * l.fuel + 2

abbrev pub decreases-marked_statement : goal.decreases-marked_statement
decreases-marked_statement l = 20 * l.fuel + 3

abbrev pub decreases-worded_statement : goal.decreases-worded_statement
decreases-worded_statement l = 20 * l.fuel + 3

abbrev pub decreases-statement : goal.decreases-statement
decreases-statement l = 20 * l.fuel + 4

abbrev pub decreases-statements : goal.decreases-statements
decreases-statements l = 20 * l.fuel + 5

abbrev pub decreases-block : goal.decreases-block
decreases-block l = 20 * l.fuel + 6

abbrev pub decreases-arm : goal.decreases-arm
decreases-arm l = 20 * l.fuel + 7

abbrev pub invariant-statements-loop-turn : goal.invariant-statements-loop-turn
invariant-statements-loop-turn l =
    parse_statements l.language l.fuel l.fn.tokens ≡ more_statements l.language l.fuel (l.fuel - l._turn) (statements_of l.found.items) l.tokens

abbrev pub invariant-if_statement-loop-turn : goal.invariant-if_statement-loop-turn
invariant-if_statement-loop-turn l =
    parse_if l.language l.fuel l.fn.tokens ≡ more_arms l.language (l.fuel - 1) (l.fuel - l.turn) l.place (arms_list_of l.arms.items) l.tokens
