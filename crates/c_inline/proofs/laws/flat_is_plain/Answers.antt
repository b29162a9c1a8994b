use Rattle.c_inline.proofs.FormLaws.{flat_plain}
use Rattle.c_inline.proofs.laws.flat_is_plain.Goals as goal

pub returns : goal.returns
returns c = flat_plain
