use Rattle.first_assignments.proofs.AcceptedReads.{flattened_assign_first}
use Rattle.first_assignments.proofs.laws.locals_are_assigned_first.Goals as goal

pub returns : goal.returns
returns c = flattened_assign_first c.typed_is_formed.ensures c.flat_is_formed.ensures
