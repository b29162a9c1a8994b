use Rattle.image_checks.proofs.ElementNumbers.{none_if_references, one_reference}
use Rattle.image_checks.proofs.OneFault.{one_fault, none_if_sound}
use Rattle.image_checks.proofs.laws.images_have_one_fault.Goals as goal

pub returns-clause-one : goal.returns-clause-one
returns-clause-one c = one_fault

pub returns-clause-none : goal.returns-clause-none
returns-clause-none c = none_if_sound

pub returns-clause-one_reference : goal.returns-clause-one_reference
returns-clause-one_reference c = one_reference

pub returns-clause-no_reference : goal.returns-clause-no_reference
returns-clause-no_reference c = none_if_references
