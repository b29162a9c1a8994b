use Rattle.std.proofs.Common.{sym, ap, ◌∙◌}
use Rattle.c_tree.specs.Programs as p
use Rattle.c_tree.specs.Elaboration as typing
use Rattle.c_tree.specs.Elaboration.{statements_and}
use Rattle.c_tree.specs.Views as v
use Rattle.c_tree.specs.declared.tree.First.{First}
use Rattle.c_typer.specs.links.Scopes.{globals_of, scope_of}
use Rattle.c_typer.proofs.Rows.{and_nothing}
use Rattle.c_typer.proofs.statement.start_of_for.Goals as goal

pub returns-in-Absent-clause-made : goal.returns-in-Absent-clause-made
returns-in-Absent-clause-made c =
    let made = p.statements_of c.args.made.now.items in
    sym (and_nothing made)
    ∙ ap (λ (x : First). statements_and made (typing.first_at (globals_of c.args.globals.now) c.args.place (scope_of c.args.scope.now) (v.first_of x)).made)
    (sym c.in-Absent.is)
