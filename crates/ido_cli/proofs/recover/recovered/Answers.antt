use Rattle.std.proofs.Common.{arith}
use Rattle.std.proofs.lemmas.List.{length-map}
use Rattle.std.proofs.lemmas.Result.{IfOk-weaker}
use Rattle.c_tree.specs.Flats.{flat_of, thread_of}
use Rattle.ido_compile.specs.CompileAnswers.{translation_in}
use Rattle.ido_cli.specs.Answers.{file_in}
use Rattle.ido_cli.proofs.PlayedRuns.{as_many_threads, has_room}
use Rattle.ido_cli.proofs.RecoveredLives.{recovery}
use Rattle.ido_cli.proofs.recover.recovered.Goals as goal

pub say_by_source-requires-clause-few : goal.say_by_source-requires-clause-few
say_by_source-requires-clause-few g c =
    let x = c.args.image.now.compiled in
    let y = x.translated in
    let threads = as_many_threads (flat_of x.flat) y.object y.marks y.cuts c.requires.translated in
    omega (arith, c.requires.translated.limits.threads, threads, length-map x.flat.threads.items thread_of)

pub say_by_source-requires-clause-room : goal.say_by_source-requires-clause-room
say_by_source-requires-clause-room g c =
    let x = c.args.image.now.compiled in
    let y = x.translated in
    has_room (flat_of x.flat) y.object y.marks y.cuts c.requires.translated

pub say_by_source-requires-clause-harts : goal.say_by_source-requires-clause-harts
say_by_source-requires-clause-harts g c = c.in_ok-life.ensures.harts

pub say_by_source-requires-clause-steps : goal.say_by_source-requires-clause-steps
say_by_source-requires-clause-steps g c = omega (arith, c.in_ok-life.ensures.steps)

pub returns : goal.returns
returns g c =
    let image = c.args.image.now in
    IfOk-weaker c.say_by_source.result _ _
    (λ said told.
    recovery (translation_in image.compiled) (file_in image) c.args.turns c.in_ok-life.life c.in_ok-life.ensures c.images_are_crashes.ensures
    c.requires.compilation said.status said.output.items told)
    c.say_by_source.ensures
