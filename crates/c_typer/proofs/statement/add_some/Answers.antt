use Rattle.std.proofs.Common.{Option, sym, ap, ◌∙◌}
use Rattle.std.specs.Option.{option_map}
use Rattle.c_tree.specs.Programs as p
use Rattle.c_tree.specs.Elaboration.{statements_and}
use Rattle.c_tree.specs.declared.program.Statement.{Statement}
use Rattle.c_typer.specs.links.Rows.{maybe_one}
use Rattle.c_typer.proofs.Rows.{and_nothing}
use Rattle.c_typer.proofs.statement.add_some.Goals as goal

pub returns-in-None : goal.returns-in-None
returns-in-None c =
    let made = p.statements_of c.args.made.now.items in
    sym (and_nothing made) ∙ ap (λ (x : Option Statement). statements_and made (maybe_one (option_map p.statement_of x))) (sym c.in-None.is)
