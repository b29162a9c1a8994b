use Rattle.std.proofs.Common.{◌≡◌, ◌++◌, map, replicate}
use Rattle.c_tree.specs.Programs as p
use Rattle.c_tree.specs.Views.{name_of}
use Rattle.c_typer.proofs.program.add_mutexes.Given as goal

-- one for each round
abbrev pub invariant-loop : goal.invariant-loop
invariant-loop l = map p.mutex_of l.made.items ≡ map p.mutex_of l.initial.made.items
    ++ replicate l.counter (record { name = name_of l.read.name; length = l.length })
