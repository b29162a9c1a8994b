-- One more argument.
use Rattle.std.proofs.Common.{◌+◌, List, ap, ◌∙◌, drop, map, flat_map, arith}
use Rattle.std.proofs.lemmas.List.{drop_all}
use Rattle.std.proofs.lemmas.List.Concat.{flat_map-cons}
use Rattle.c_tree.specs.Exprs.{placed_of}
use Rattle.c_tree.specs.NullReferences.{placed_nulls}
use Rattle.c_tree.specs.declared.expr.Placed.{Placed}
use Rattle.c_ranges.proofs.NullLists.{next_left, none_left, passed}
use Rattle.c_ranges.proofs.nulls.add_arguments.Goals as goal

pub loop-argument-preserved : goal.loop-argument-preserved
loop-argument-preserved c =
    let known = c.args.known.now in
    let xs = c.args.arguments.now in
    let i = c.loop-argument.argument-index in
    let x = c.argument-item.result in
    passed _ _ (placed_nulls known (placed_of x)) _ _ _ c.in_ok-add_placed.ensures
    (ap (λ (ys : List Placed). flat_map (placed_nulls known) (map placed_of ys)) (next_left xs i x (omega arith) c.argument-item.is)
    ∙ flat_map-cons (placed_nulls known) (placed_of x) (map placed_of (drop (i + 1) xs)))
    c.loop-argument.invariant

pub returns : goal.returns
returns c =
    none_left _ _ _ (ap (λ (ys : List Placed). flat_map (placed_nulls c.args.known.now) (map placed_of ys))
    (drop_all c.loop-argument.argument-index c.args.arguments.now (omega arith))) c.loop-argument.invariant
