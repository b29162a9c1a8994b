use Rattle.c_typer.proofs.UniqueFirstFault.{one_first}
use Rattle.c_typer.proofs.laws.one_first.Goals as goal

pub returns : goal.returns
returns c = one_first
