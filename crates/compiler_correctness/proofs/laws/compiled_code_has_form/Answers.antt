use Rattle.compiler_correctness.proofs.CompiledCodeForm.{compiled_code_has_form}
use Rattle.compiler_correctness.proofs.laws.compiled_code_has_form.Goals as goal

pub returns : goal.returns
returns c = compiled_code_has_form c.chosen_boundaries_are_locked.ensures.locked
