-- By induction on the depth of calls, and on statements.
use Rattle.c_inline.proofs.FormLaws.{flat_formed}
use Rattle.c_inline.proofs.laws.flat_is_formed.Goals as goal

pub returns : goal.returns
returns c = flat_formed
