use Rattle.std.proofs.Common.{get_or}
use Rattle.std.proofs.lemmas.Grind.{get_or_default_zero}
use Rattle.rv64_codegen.proofs.registers.homes.Goals as goal

pub home_of_colour-requires-clause-colour : goal.home_of_colour-requires-clause-colour
home_of_colour-requires-clause-colour c =
    c.requires.colours (get_or c.args.colours.now c.loop-colour.colour-index 0)
    (c.loop-colour.colour-index, c.loop-colour-test.true, get_or_default_zero c.args.colours.now c.loop-colour.colour-index _ c.loop-colour-test.true)
