use Rattle.std.proofs.Common.{sym, ap, ◌∙◌, length, map}
use Rattle.std.proofs.lemmas.List.{length-map}
use Rattle.rv64_isa.specs.Programs.{slot_of}
use Rattle.run_tracker.specs.ObjectLives.{Course}
use Rattle.ido_cli.proofs.ScriptAnswers.{all_doable}
use Rattle.ido_cli.proofs.sweep.count_events.Goals as goal

pub play_few-requires-clause-lines : goal.play_few-requires-clause-lines
play_few-requires-clause-lines c = λ _.
    let object = c.args.compiled.now.translated.object in
    all_doable c.in_ok-life.life.runs.log object.log (length object.code.items) (length c.in_ok-life.life.runs.program) c.args.script.now.lines.items
    (sym (ap (λ (life : Course). life.runs.log) c.in_ok-life.ensures))
    (sym (length-map object.code.items (λ code. map slot_of code.items)) ∙ ap (λ (life : Course). length life.runs.program) (sym c.in_ok-life.ensures))
    c.requires.doable
