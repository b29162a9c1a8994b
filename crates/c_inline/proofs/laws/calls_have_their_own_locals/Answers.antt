use Rattle.c_inline.proofs.CallLocals.{locals_grow, new_locals, not_shared}
use Rattle.c_inline.proofs.laws.calls_have_their_own_locals.Goals as goal

pub returns-clause-grow : goal.returns-clause-grow
returns-clause-grow c = locals_grow

pub returns-clause-not_shared : goal.returns-clause-not_shared
returns-clause-not_shared c = not_shared

pub returns-clause-new : goal.returns-clause-new
returns-clause-new c = new_locals
