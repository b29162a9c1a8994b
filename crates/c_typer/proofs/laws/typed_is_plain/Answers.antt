use Rattle.c_typer.proofs.WellFormedItems.{typed_plain}
use Rattle.c_typer.proofs.laws.typed_is_plain.Goals as goal

pub returns : goal.returns
returns c = typed_plain
