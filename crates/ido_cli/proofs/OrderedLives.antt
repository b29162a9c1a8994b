-- Lives of ordered texts go on until all harts have stopped.
use Rattle.std.proofs.Common.{◌≡◌, length, None, sym, ap, subst}
use Rattle.std.specs.Prelude.{◌↔◌}
use Rattle.image_checks.specs.RunImages.{left_by}
use Rattle.machine_events.specs.Cores.{least_enabled, played}
use Rattle.machine_model.specs.Machine.{World}
use Rattle.deadlock_freedom.specs.Deadlocks.{HaveStopped, NoneDeadlocks, NoneDeadlocksResumed, StopsAtTheEnd}
use Rattle.compiler_correctness.specs.Images.{image_in, world_from}
use Rattle.compiler_correctness.specs.Translations.{Translation, world}
use Rattle.ido_compile.specs.CompileAnswers.{translation_in}
use Rattle.run_tracker.proofs.Public.{played_is}
use Rattle.run_tracker.specs.ObjectLives.{Course, LifeConfig, living, opening_of, world_of}
use Rattle.ido_cli.specs.CompiledLives.{LivesAreCompiled, LivesOfFilesAreCompiled}
use Rattle.ido_cli.specs.OrderedLives.{OrderedLivesGoOn, OrderedLivesOfFilesGoOn}
use Rattle.ido_cli.proofs.CompiledLimits.{ready}

-- where a world is one at which no hart can step exactly where all have stopped, so it is of the life that is there
stops_there : (c : Translation) (w : World) (life : Course) → StopsAtTheEnd c w → life.runs ≡ c.runs → world_of life ≡ w →
    (least_enabled living (played living (opening_of life) life.journal) (length life.runs.program) ≡ None) ↔ HaveStopped (world_of life)
stops_there c w life stops runs there =
    let now : LifeConfig = record (opening_of life) { world = world_of life } in
    let here : (least_enabled living now (length life.runs.program) ≡ None) ↔ HaveStopped (world_of life) =
    subst (λ (v : World). (least_enabled living now (length life.runs.program) ≡ None) ↔ HaveStopped v) (sym there) (stops now runs there) in
    subst (λ (m : LifeConfig). (least_enabled living m (length life.runs.program) ≡ None) ↔ HaveStopped (world_of life))
    (sym (played_is (opening_of life) life.journal)) here

pub ordered_lives : LivesAreCompiled → NoneDeadlocks → OrderedLivesGoOn
ordered_lives compiled none_deadlocks log text c cap life is ordered begins =
    let of_life = compiled log text c cap life is begins in
    let translation = translation_in c in
    stops_there translation (world translation life.journal) life
    (none_deadlocks translation of_life.compilation (ready log text c is).formed ordered life.journal)
    (ap (λ (o : LifeConfig). o.runs) begins) of_life.world_is

pub ordered_files : LivesOfFilesAreCompiled → NoneDeadlocksResumed → OrderedLivesOfFilesGoOn
ordered_files compiled none_deadlocks log text c before ended cap life is ordered begins =
    let translation = translation_in c in
    let file = left_by translation before in
    let of_life = compiled log text c file ended cap life is begins in
    stops_there translation (world_from translation (image_in translation file) life.journal) life
    (none_deadlocks translation of_life.compilation (ready log text c is).formed ordered before life.journal)
    (ap (λ (o : LifeConfig). o.runs) begins) of_life.world_is
