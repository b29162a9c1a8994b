use Rattle.std.proofs.Common.{◌≤◌, ◌-◌, List, Some, None, ap, arith, sym, subst, length, map, ◌∙◌}
use Rattle.std.proofs.lemmas.List.{length-map}
use Rattle.std.proofs.lemmas.Result.{IfOk-weaker}
use Rattle.machine_events.specs.declared.event.Event.{Event}
use Rattle.ido_base.specs.declared.limits.TheConstants.{MOST_EVENTS}
use Rattle.c_tree.specs.Flats.{flat_of}
use Rattle.rv64_isa.specs.Programs.{slot_of}
use Rattle.run_scripts.specs.links.ScriptViews as scripts
use Rattle.run_tracker.specs.ObjectLives.{Course}
use Rattle.ido_cli.specs.Plays.{events_by, ran}
use Rattle.ido_compile.specs.CompileAnswers.{translation_in}
use Rattle.ido_cli.specs.links.RunRequests.{Says}
use Rattle.ido_cli.proofs.PlayedRuns.{all_played, fits, found_at_most, found_by, has_played, refused}
use Rattle.ido_cli.proofs.ScriptAnswers.{all_doable}
use Rattle.ido_cli.proofs.play.script_answer.Goals as goal

pub play-requires-clause-lines : goal.play-requires-clause-lines
play-requires-clause-lines c = λ _.
    let object = c.args.compiled.now.translated.object in
    all_doable c.in_ok-life.life.runs.log object.log (length object.code.items) (length c.in_ok-life.life.runs.program) c.args.script.now.lines.items
    (sym (ap (λ (life : Course). life.runs.log) c.in_ok-life.ensures))
    (sym (length-map object.code.items (λ code. map slot_of code.items)) ∙ ap (λ (life : Course). length life.runs.program) (sym c.in_ok-life.ensures))
    c.requires.doable

pub play-requires-clause-room : goal.play-requires-clause-room
play-requires-clause-room c = λ _.
    let cap = c.script_bound-cap.result in
    let least : cap ≤ cap - 0 = omega arith in
    subst (λ (life : Course). cap ≤ life.cap - length life.journal) (sym c.in_ok-life.ensures) least

pub say_asked-requires-clause-played : goal.say_asked-requires-clause-played
say_asked-requires-clause-played c =
    let x = c.args.compiled.now in
    let y = x.translated in
    all_played y.object y.marks c.play.new.core _
    (has_played (flat_of x.flat) y.object y.marks y.cuts (map scripts.line_of c.args.script.now.lines.items) c.script_bound-cap.result
    c.script_bound-cap.result c.in_ok-life.life c.in_ok-life.ensures c.play.new.core c.play.ensures.opening c.play.ensures.events c.in-Ok.ensures.whole)

pub say_asked-requires-clause-few : goal.say_asked-requires-clause-few
say_asked-requires-clause-few c =
    let x = c.args.compiled.now in
    let y = x.translated in
    let lines = map scripts.line_of c.args.script.now.lines.items in
    let cap = c.script_bound-cap.result in
    let played = has_played (flat_of x.flat) y.object y.marks y.cuts lines cap cap c.in_ok-life.life c.in_ok-life.ensures c.play.new.core
    c.play.ensures.opening c.play.ensures.events c.in-Ok.ensures.whole in
    let few = fits (flat_of x.flat) y.object y.marks y.cuts lines cap cap c.in_ok-life.life c.in_ok-life.ensures c.in-Ok.ensures.whole in
    omega (arith, few, ap length played.journal, c.script_bound-cap.ensures)

pub returns-in-Ok : goal.returns-in-Ok
returns-in-Ok c =
    let x = c.args.compiled.now in
    let y = x.translated in
    let flat = flat_of x.flat in
    let lines = map scripts.line_of c.args.script.now.lines.items in
    let cap = c.script_bound-cap.result in
    let played = has_played flat y.object y.marks y.cuts lines cap cap c.in_ok-life.life c.in_ok-life.ensures c.play.new.core
    c.play.ensures.opening c.play.ensures.events c.in-Ok.ensures.whole in
    let few = fits flat y.object y.marks y.cuts lines cap cap c.in_ok-life.life c.in_ok-life.ensures c.in-Ok.ensures.whole in
    let fit : length (events_by (translation_in x) lines) ≤ MOST_EVENTS = omega (arith, few, c.script_bound-cap.ensures) in
    let here = found_by flat y.object y.marks y.cuts lines cap cap c.in_ok-life.life c.in_ok-life.ensures None c.in-Ok.ensures.whole in
    let none = found_at_most flat y.object y.marks y.cuts lines cap None c.script_bound-cap.ensures here in
    IfOk-weaker c.say_asked.result _ _
    (λ said is.
    ran none fit
    (subst (λ (es : List Event). Says c.args.asked x.text.items (translation_in x) es said.status said.output.items) played.journal is))
    c.say_asked.ensures

pub returns : goal.returns
returns c =
    let x = c.args.compiled.now in
    let y = x.translated in
    let flat = flat_of x.flat in
    let lines = map scripts.line_of c.args.script.now.lines.items in
    let cap = c.script_bound-cap.result in
    let fault = scripts.play_fault_of c.in-Err.error in
    let here = found_by flat y.object y.marks y.cuts lines cap cap c.in_ok-life.life c.in_ok-life.ensures (Some fault) c.in-Err.ensures.refused in
    let some = found_at_most flat y.object y.marks y.cuts lines cap (Some fault) c.script_bound-cap.ensures here in
    IfOk-weaker c.play_refused.result _ _
    (λ said is.
    refused flat y.object y.marks y.cuts lines (Says c.args.asked x.text.items (translation_in x)) c.args.input.now c.args.begins
    fault said.status said.output.items some is)
    c.play_refused.ensures
