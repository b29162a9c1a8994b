use Rattle.c_tree.proofs.Public.{program_rows_of_while as of_while}
use Rattle.c_typer.proofs.statement.while_of.Goals as goal

pub returns : goal.returns
returns c = of_while c.args.place c.args.condition c.args.body
