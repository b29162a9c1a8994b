-- One more function.
use Rattle.std.proofs.Common.{◌+◌, ◌++◌, [], List, ap, ◌∙◌, drop, map, arith}
use Rattle.std.specs.Option.{option_map}
use Rattle.std.proofs.lemmas.List.{drop_all}
use Rattle.std.proofs.lemmas.List.Concat.{flat_map-cons}
use Rattle.c_tree.specs.NullReferences.{statements_nulls, returned_nulls}
use Rattle.c_tree.specs.Programs as p
use Rattle.c_tree.specs.declared.program.Statement.{Statement}
use Rattle.c_ranges.specs.links.FirstNull.{functions_nulls}
use Rattle.c_ranges.proofs.NullLists.{both_added, next_left, none_left, passed}
use Rattle.c_ranges.proofs.nulls.add_functions.Goals as goal

pub loop-function-preserved : goal.loop-function-preserved
loop-function-preserved c =
    let xs = c.args.functions.now in
    let i = c.loop-function.function-index in
    let x = c.function-item.result in
    let body = statements_nulls [] (p.statements_of x.body.items) in
    let result = returned_nulls (option_map p.returned_of x.result) in
    let first = c.in_ok-add_statements.ensures
    ∙ ap (λ (ys : List Statement). c.loop-function.places.items ++ statements_nulls [] (p.statements_of ys)) c.deref.ensures.value in
    passed _ _ (body ++ result) _ _ _ (both_added _ _ _ body result first c.in_ok-add_returned.ensures)
    (ap functions_nulls (next_left xs i x (omega arith) c.function-item.is)
    ∙ flat_map-cons (λ (f : p.Function). statements_nulls [] f.body ++ returned_nulls f.result) (p.function_of x) (map p.function_of (drop (i + 1) xs)))
    c.loop-function.invariant

pub returns : goal.returns
returns c =
    none_left _ _ _ (ap functions_nulls (drop_all c.loop-function.function-index c.args.functions.now (omega arith))) c.loop-function.invariant
