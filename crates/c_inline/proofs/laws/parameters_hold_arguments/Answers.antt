use Rattle.c_inline.proofs.CallArguments.{parameters_hold}
use Rattle.c_inline.proofs.laws.parameters_hold_arguments.Goals as goal

pub returns : goal.returns
returns c = parameters_hold
