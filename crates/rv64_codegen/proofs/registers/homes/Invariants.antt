use Rattle.std.proofs.Common.{◌≡◌, ◌++◌, map, drop}
use Rattle.rv64_codegen.proofs.registers.homes.Given as goal
use Rattle.thread_code.specs.Plans.{home_of_colour}

abbrev pub invariant-loop-colour : goal.invariant-loop-colour
invariant-loop-colour l =
    l.homes.items ++ map (home_of_colour l.fn.log l.fn.thread) (drop l.colour-index l.colours) ≡ map (home_of_colour l.fn.log l.fn.thread) l.colours
