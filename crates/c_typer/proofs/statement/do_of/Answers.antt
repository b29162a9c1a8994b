use Rattle.c_tree.proofs.Public.{program_rows_of_do as of_do}
use Rattle.c_typer.proofs.statement.do_of.Goals as goal

pub returns : goal.returns
returns c = of_do c.args.place c.args.body c.args.condition
