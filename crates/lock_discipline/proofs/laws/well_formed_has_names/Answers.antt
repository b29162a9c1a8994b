use Rattle.lock_discipline.proofs.FormNames.{well_formed_has_names}
use Rattle.lock_discipline.proofs.laws.well_formed_has_names.Goals as goal

pub returns : goal.returns
returns c = well_formed_has_names
