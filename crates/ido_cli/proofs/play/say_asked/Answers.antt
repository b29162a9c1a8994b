use Rattle.std.proofs.Common.{ℕ, List, arith, sym, subst}
use Rattle.std.proofs.lemmas.Result.{IfOk-weaker}
use Rattle.c_tree.specs.Flats.{flat_of}
use Rattle.ido_compile.specs.CompileAnswers.{translation_in}
use Rattle.ido_cli.specs.declared.play.Asked.{Asked}
use Rattle.ido_cli.specs.Images.{IsImageAfter}
use Rattle.ido_cli.specs.links.RunRequests.{Says}
use Rattle.ido_cli.proofs.RunImages.{image_after, lives_few, logs_few, same_variables, steps_few, variables_few, variables_within}
use Rattle.ido_cli.proofs.PlayedRuns.{as_many_threads, counts_sections, harts_of_life, has_room, played_by}
use Rattle.ido_cli.proofs.RefusedSchedules.{both_ok}
use Rattle.ido_cli.proofs.play.say_asked.Goals as goal

pub say_played-requires-clause-room : goal.say_played-requires-clause-room
say_played-requires-clause-room c =
    let x = c.args.compiled.now in
    let y = x.translated in
    has_room (flat_of x.flat) y.object y.marks y.cuts c.requires.translated

pub say_played-requires-clause-harts : goal.say_played-requires-clause-harts
say_played-requires-clause-harts c =
    let x = c.args.compiled.now in
    let y = x.translated in
    harts_of_life (flat_of x.flat) y.object y.marks y.cuts c.args.life.now _ c.requires.played

pub say_played-requires-clause-counted : goal.say_played-requires-clause-counted
say_played-requires-clause-counted c =
    let x = c.args.compiled.now in
    let y = x.translated in
    counts_sections (flat_of x.flat) y.object y.marks y.cuts c.args.life.now _ c.requires.played c.requires.compilation
    (as_many_threads (flat_of x.flat) y.object y.marks y.cuts c.requires.translated)

pub image-requires-clause-variables : goal.image-requires-clause-variables
image-requires-clause-variables c =
    let x = c.args.compiled.now in
    let y = x.translated in
    variables_few (flat_of x.flat) y.object y.marks y.cuts c.args.life.now _ c.requires.played c.requires.translated c.requires.compilation

pub image-requires-clause-object : goal.image-requires-clause-object
image-requires-clause-object c =
    let x = c.args.compiled.now in
    let y = x.translated in
    same_variables (flat_of x.flat) y.object y.marks y.cuts c.args.life.now _ c.requires.played

pub image-requires-clause-within : goal.image-requires-clause-within
image-requires-clause-within c =
    let x = c.args.compiled.now in
    let y = x.translated in
    variables_within (flat_of x.flat) y.object y.marks y.cuts c.args.life.now _ c.requires.played c.requires.translated c.requires.compilation

pub image-requires-clause-logs : goal.image-requires-clause-logs
image-requires-clause-logs c =
    let x = c.args.compiled.now in
    let y = x.translated in
    logs_few (flat_of x.flat) y.object y.marks y.cuts c.args.life.now _ c.requires.played c.requires.translated c.requires.compilation

pub image-requires-clause-lives : goal.image-requires-clause-lives
image-requires-clause-lives c =
    let x = c.args.compiled.now in
    let y = x.translated in
    omega (arith, c.requires.few, lives_few (flat_of x.flat) y.object y.marks y.cuts c.args.life.now _ c.requires.played)

pub image-requires-clause-steps : goal.image-requires-clause-steps
image-requires-clause-steps c =
    let x = c.args.compiled.now in
    let y = x.translated in
    omega (arith, c.requires.few, steps_few (flat_of x.flat) y.object y.marks y.cuts c.args.life.now _ c.requires.played)

pub returns-in-Report : goal.returns-in-Report
returns-in-Report c =
    let x = c.args.compiled.now in
    let y = x.translated in
    let life = c.args.life.now in
    let fences = c.in-Report.fences in
    IfOk-weaker c.say_played.result _ _
    (λ said is.
    subst (λ (asked : Asked). Says asked x.text.items (translation_in x) life.journal said.status said.output.items) (sym c.in-Report.is)
    (played_by (flat_of x.flat) y.object y.marks y.cuts life _ c.requires.played c.requires.compilation fences said.status said.output.items is))
    c.say_played.ensures

pub returns-in-Image : goal.returns-in-Image
returns-in-Image c =
    let x = c.args.compiled.now in
    let y = x.translated in
    let life = c.args.life.now in
    IfOk-weaker c.image.result _ _
    (λ said both.
    subst (λ (asked : Asked). Says asked x.text.items (translation_in x) life.journal said.status said.output.items) (sym c.in-Image.is)
    (subst (λ (text : List ℕ). IsImageAfter text (translation_in x) life.journal said.status said.output.items) c.deref.ensures.value
    (image_after (flat_of x.flat) y.object y.marks y.cuts life _ c.requires.played c.deref.result.now said.status said.output.items both.0 both.1.0 both.1.1)))
    (both_ok c.image.result _ _ c.image.ensures.status (both_ok c.image.result _ _ c.image.ensures.output c.image.ensures.again))
