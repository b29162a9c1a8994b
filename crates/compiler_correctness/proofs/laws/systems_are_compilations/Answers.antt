use Rattle.compiler_correctness.specs.Laws.{translation_of}
use Rattle.compiler_correctness.proofs.laws.systems_are_compilations.Goals as goal

pub returns : goal.returns
returns c y s its = record {
  form = c.compiled_code_has_form.ensures y s its;
  in_step = c.machines_keep_step.ensures y s;
  never_stuck = c.harts_never_stick.ensures y s;
  delays = c.delays_are_bounded.ensures y s;
  whole = c.machines_are_whole.ensures y s;
  records = c.machines_record.ensures y s;
  grows = c.kept_steps_grow.ensures (translation_of y);
  sections = c.sections_are_kept.ensures y s;
  settled = c.settled_machines_are_kept.ensures y s;
  images = c.images_are_resumed.ensures y s;
  in_file = c.files_are_images.ensures y s;
  files = c.files_are_resumed.ensures y s;
}
