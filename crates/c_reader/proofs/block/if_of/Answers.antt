use Rattle.std.proofs.Common.{ap, ◌∙◌}
use Rattle.c_tree.specs.Trees as t
use Rattle.c_tree.specs.Views.{arms_list_of, otherwise_of}
use Rattle.c_tree.proofs.Public.{tree_rows_of_if as of_if}
use Rattle.c_reader.proofs.block.if_of.Goals as goal

pub returns : goal.returns
returns c =
    of_if c.args.place c.shrink_to_fit.new.self c.args.otherwise
    ∙ ap (λ xs. t.If c.args.place (arms_list_of xs) (otherwise_of c.args.otherwise)) c.shrink_to_fit.ensures.items
