use Rattle.std.proofs.Common.{◌≡◌, ◌+◌, ◌*◌, ◌++◌, drop, map}
use Rattle.rv64_isa.specs.Programs.{code_base}
use Rattle.rv64_link.specs.LabelledCode.{positions_from, is_mark}
use Rattle.rv64_link.specs.links.Layout.{number_at}
use Rattle.rv64_link.proofs.thread.nodes.Given as goal

abbrev pub invariant-loop-position : goal.invariant-loop-position
invariant-loop-position l =
    l.nodes.items ++ map (λ p. code_base + 4 * number_at l.numbers p) (positions_from l.position is_mark (drop l.position l.items))
    ≡ map (λ p. code_base + 4 * number_at l.numbers p) (positions_from 0 is_mark l.items)
