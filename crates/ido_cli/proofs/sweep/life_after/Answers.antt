use Rattle.std.proofs.Common.{◌≡◌, ◌++◌, ℕ, sym, ap, ◌∙◌, inl, length, map, subst, take}
use Rattle.std.proofs.lemmas.List.{length-map}
use Rattle.machine_events.specs.Cores.{played}
use Rattle.rv64_isa.specs.Programs.{slot_of}
use Rattle.run_scripts.specs.Plays.{script_events}
use Rattle.run_tracker.specs.ObjectLives.{Course, living, opening_of}
use Rattle.ido_cli.specs.links.CrashPoints.{lines_in}
use Rattle.ido_cli.proofs.CrashRuns.{has_lived}
use Rattle.ido_cli.proofs.ScriptAnswers.{all_doable}
use Rattle.ido_cli.proofs.sweep.life_after.Goals as goal

pub event-requires-clause-valid : goal.event-requires-clause-valid
event-requires-clause-valid c = inl tt

pub play-all-requires-clause-lines : goal.play-all-requires-clause-lines
play-all-requires-clause-lines c = λ _.
    let object = c.args.points.now.translated.object in
    all_doable c.in_ok-life.life.runs.log object.log (length object.code.items) (length c.in_ok-life.life.runs.program) c.args.points.now.script.lines.items
    (sym (ap (λ (life : Course). life.runs.log) c.in_ok-life.ensures))
    (sym (length-map object.code.items (λ code. map slot_of code.items)) ∙ ap (λ (life : Course). length life.runs.program) (sym c.in_ok-life.ensures))
    c.requires.doable

pub returns : goal.returns
returns c =
    let points = c.args.points.now in
    let begun = c.in_ok-life.life in
    let made = c.play-all.new.core in
    let events =
    subst (λ (k : ℕ). made.journal
    ≡ begun.journal ++ take k (script_events living (length begun.runs.program) (played living (opening_of begun) begun.journal) (lines_in points.script)))
    c.from-most.ensures c.play-all.ensures.events in
    has_lived points c.args.k _ begun c.in_ok-life.ensures made c.play-all.ensures.opening events c.event.new.self c.make_rounds.new.core
    c.event.ensures.life c.make_rounds.ensures.opening c.make_rounds.ensures.rounds
