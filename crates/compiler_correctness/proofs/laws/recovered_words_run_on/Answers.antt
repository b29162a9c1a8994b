use Rattle.compiler_correctness.proofs.RecoveredRuns.{recovered_words_run_on}
use Rattle.compiler_correctness.proofs.laws.recovered_words_run_on.Goals as goal

pub returns : goal.returns
returns c =
    recovered_words_run_on c.none_is_stuck.ensures.stuck c.none_is_stuck.ensures.takes c.events_stand.ensures c.fragments_step.ensures
    c.cores_step.ensures c.local_stores_step.ensures c.fragments_go_on.ensures c.recovered_words_simulate.ensures
