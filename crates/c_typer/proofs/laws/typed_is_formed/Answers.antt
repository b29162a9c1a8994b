-- By induction on the items.
use Rattle.c_typer.proofs.WellFormedItems.{typed_formed}
use Rattle.c_typer.proofs.laws.typed_is_formed.Goals as goal

pub returns : goal.returns
returns c = typed_formed
