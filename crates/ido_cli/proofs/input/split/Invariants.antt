use Rattle.std.proofs.Common.{◌≡◌, true, ◌++◌, take, drop}
use Rattle.ido_cli.specs.Inputs.{source_from, rest_from}
use Rattle.ido_cli.proofs.input.split.Given as goal

abbrev pub invariant-loop-i : goal.invariant-loop-i
invariant-loop-i l =
    (source_from true l.input ≡ take l.i l.input ++ source_from l.begins (drop l.i l.input)) × (rest_from true l.input ≡ rest_from l.begins (drop l.i l.input))
