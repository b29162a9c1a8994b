-- A machine that begins with words whose records describe an origin runs on, and leaves what the source leaves from there.
use Rattle.std.proofs.Common.{◌≡◌, ◌++◌, ap, sym, ◌∙◌}
use Rattle.c_tree.specs.Source.{State, is_between}
use Rattle.machine_model.specs.Schedule.{LifeSchedules, kept_lives}
use Rattle.thread_runs.specs.Laws.{FragmentsGoOn}
use Rattle.crash_simulation.specs.Laws.{EventsStand, NoneIsStuck, TakesMove}
use Rattle.crash_simulation.specs.InstructionSteps.{FragmentsStep, CoresStep, LocalStoresStep}
use Rattle.crash_simulation.specs.AccountRelation.{Beginning, beginning_after}
use Rattle.crash_simulation.specs.RecoveredWords.{RecoveredAreCounted, RecoveredWordsSimulate}
use Rattle.crash_simulation.proofs.Public.{resumed}
use Rattle.compiler_correctness.specs.Images.{steps_from}
use Rattle.compiler_correctness.specs.Laws.{RecoveredWordsRunOn, RecoveredWordsSettle, translation_of}
use Rattle.compiler_correctness.proofs.BoundedDelay.{delays}
use Rattle.compiler_correctness.proofs.ImageWords.{stands_along}
use Rattle.compiler_correctness.proofs.AbstractRunAccount.{kept_between, settled_variables}
use Rattle.compiler_correctness.proofs.LaterLives.{after_since, behind_is, runs_since}

pub recovered_words_run_on : NoneIsStuck → TakesMove → EventsStand → FragmentsStep → CoresStep → LocalStoresStep → FragmentsGoOn → RecoveredWordsSimulate →
    RecoveredWordsRunOn
recovered_words_run_on stuck takes stand fragments_step cores_step local_stores_step law simulate y s o image is =
    let begin = (simulate y s o image.words is).stands in
    record {
      never_stuck = λ events h cause. stuck y s _ (stands_along stand y s events _ begin) h cause;
      takes = λ events h i. takes y s _ h (stands_along stand y s events _ begin) i;
      delays = λ events more h. delays fragments_step cores_step local_stores_step law y s h _ (stands_along stand y s events _ begin) more;
    }

pub recovered_words_settle : RecoveredAreCounted → RecoveredWordsSettle
recovered_words_settle counted y s o image is on_time events =
    let resumes = counted y s o image.words image.kept is on_time events in
    let b = resumes.is.stands.abstract in
    let kept = (resumed y s b).resumed.kept in
    let first : Beginning = record { from = o.source; earlier = image.kept.earlier; kept = image.kept.schedule } in
    let after = after_since y s _ _ resumes b.schedule in
    let begins : Beginning = beginning_after y first resumes.lives in
    let same : kept_lives (steps_from (translation_of y) image events) ≡ (let z : LifeSchedules =
    record { earlier = begins.earlier; schedule = begins.kept ++ b.schedule } in z) =
    λ i. record { earlier = resumes.is.counted.earlier i; schedule = resumes.is.counted.kept i } in
    record {
      since = record { earlier = resumes.lives; schedule = b.schedule };
      kept = same ∙ behind_is y first resumes.lives b.schedule;
      runs = runs_since y s _ _ resumes b.schedule kept.runs;
      between = λ settled thread.
          ap (λ (z : State). is_between z thread) (after ∙ kept.is) ∙ kept_between y s _ resumes.is.stands settled thread;
      variables = λ settled. settled_variables y s _ resumes.is.stands settled ∙ ap (λ (z : State). z.variables) (sym after);
    }
