use Rattle.c_tree.proofs.Public.{program_rows_of_if as of_if}
use Rattle.c_typer.proofs.statement.if_of.Goals as goal

pub returns : goal.returns
returns c = of_if c.args.place c.args.arms c.args.otherwise
