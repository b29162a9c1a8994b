use Rattle.std.proofs.Common.{◌≡◌, ◌+◌, map, drop}
use Rattle.c_tree.specs.Exprs.{placed_of}
use Rattle.c_tree.specs.Flats as f
use Rattle.c_tree.specs.Inlining as i
use Rattle.c_inline.proofs.build.pass.Given as goal

abbrev pub invariant-loop-index : goal.invariant-loop-index
invariant-loop-index l =
    (l.local ≡ l.first + l.index)
    × (i.statements_and (f.statements_of l.made.items)
    (i.passed l.place l.local (drop l.index l.locals) (map (i.shifted_placed l.by) (map placed_of (drop l.index l.arguments))))
    ≡ i.statements_and (f.statements_of l.fn.made.items) (i.passed l.place l.first l.locals (map (i.shifted_placed l.by) (map placed_of l.arguments))))
