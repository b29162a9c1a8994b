use Rattle.run_scripts.proofs.JournalLines.{steps_put}
use Rattle.run_scripts.proofs.journal.put_first.Goals as goal

pub returns-in_ok-put_steps-in-Step-clause-lines : goal.returns-in_ok-put_steps-in-Step-clause-lines
returns-in_ok-put_steps-in-Step-clause-lines c =
    steps_put c.args.text.now.items c.put_steps.new.text.items c.args.event c.args.after.now c.in-Step.hart c.step_count-more.result c.in-Step.is
    c.step_count-more.ensures.value c.in_ok-put_steps-in-Step.ensures
