use Rattle.std.proofs.Common.{◌≡◌, ℕ, ◌+◌, ◌/◌, ◌≤◌, List, length, sym, ap, ap₂, ◌∙◌, subst, arith}
use Rattle.std.proofs.lemmas.Result.{IfOk-weaker}
use Rattle.machine_events.specs.declared.event.Event.{Event}
use Rattle.c_tree.specs.Flats.{flat_of}
use Rattle.run_tracker.specs.ObjectLives.{Course}
use Rattle.run_scripts.specs.Draws.{drawn_run}
use Rattle.run_scripts.proofs.Public.{run_valid}
use Rattle.ido_compile.specs.CompileAnswers.{translation_in}
use Rattle.ido_cli.specs.Answers.{IsTold}
use Rattle.ido_cli.specs.Draws.{drawn_by}
use Rattle.ido_cli.proofs.PlayedRuns.{as_many_threads, counts_sections, harts_of_life, has_room, told_by}
use Rattle.ido_cli.proofs.DrawnLives.{all_valid, has_made, many_harts, room_for}
use Rattle.ido_cli.proofs.seeded.drawn_answer.Goals as goal

pub draw-requires-clause-threads : goal.draw-requires-clause-threads
draw-requires-clause-threads c =
    omega (arith, c.len-threads.ensures, c.args.compiled.now.translated.object.code.ok, c.requires.translated.limits.threads)

pub draw-requires-clause-lines : goal.draw-requires-clause-lines
draw-requires-clause-lines c =
    let few : c.len-bytes.result ≤ 65536 =
    omega (arith, c.len-bytes.ensures, c.args.compiled.now.translated.object.initial.ok, c.requires.translated.limits.bytes) in
    omega (arith, few)

pub make_events-requires-clause-valid : goal.make_events-requires-clause-valid
make_events-requires-clause-valid c = λ _.
    let y = c.args.compiled.now.translated in
    let many : c.len-threads.result ≡ length y.object.code.items = omega (arith, c.len-threads.ensures, y.object.code.ok) in
    let harts = many_harts y.object y.marks c.len-count.result c.in_ok-life.life c.in_ok-life.ensures in
    let few : c.len-threads.result ≤ 8 = omega (arith, many, c.requires.translated.limits.threads) in
    let bytes : c.len-bytes.result ≤ 65536 = omega (arith, c.len-bytes.ensures, y.object.initial.ok, c.requires.translated.limits.bytes) in
    let within : (c.len-bytes.result + 63) / 64 ≤ 1024 = omega (arith, bytes) in
    all_valid c.in_ok-life.life.runs.log y.object.log (length c.in_ok-life.life.runs.program) c.len-threads.result c.deref.result.now _
    (sym (ap (λ (life : Course). life.runs.log) c.in_ok-life.ensures)) (c.deref.ensures.value ∙ c.in_ok-events.ensures)
    (many ∙ sym harts)
    (run_valid c.args.seed c.from.result c.args.crashes.now y.object.log c.len-threads.result ((c.len-bytes.result + 63) / 64) few within)

pub make_events-requires-clause-room : goal.make_events-requires-clause-room
make_events-requires-clause-room c = λ _.
    let y = c.args.compiled.now.translated in
    room_for y.object y.marks c.len-count.result c.in_ok-life.life c.in_ok-life.ensures (length c.deref.result.now)
    (omega (arith, ap length c.deref.ensures.value, c.len-count.ensures, c.in_ok-events.events.ok))

pub told-requires-clause-room : goal.told-requires-clause-room
told-requires-clause-room c =
    let x = c.args.compiled.now in
    let y = x.translated in
    has_room (flat_of x.flat) y.object y.marks y.cuts c.requires.translated

pub told-requires-clause-harts : goal.told-requires-clause-harts
told-requires-clause-harts c =
    let x = c.args.compiled.now in
    let y = x.translated in
    let life = c.make_events.new.core in
    let made = has_made y.object y.marks c.len-count.result c.in_ok-life.life c.in_ok-life.ensures life c.deref.result.now c.make_events.ensures.opening
    c.make_events.ensures.history in
    harts_of_life (flat_of x.flat) y.object y.marks y.cuts life c.deref.result.now made

pub told-requires-clause-counted : goal.told-requires-clause-counted
told-requires-clause-counted c =
    let x = c.args.compiled.now in
    let y = x.translated in
    let flat = flat_of x.flat in
    let life = c.make_events.new.core in
    let made = has_made y.object y.marks c.len-count.result c.in_ok-life.life c.in_ok-life.ensures life c.deref.result.now c.make_events.ensures.opening
    c.make_events.ensures.history in
    counts_sections flat y.object y.marks y.cuts life c.deref.result.now made c.requires.compilation
    (as_many_threads flat y.object y.marks y.cuts c.requires.translated)

pub returns : goal.returns
returns c =
    let x = c.args.compiled.now in
    let y = x.translated in
    let flat = flat_of x.flat in
    let life = c.make_events.new.core in
    let crashes = c.args.crashes.now in
    let made = has_made y.object y.marks c.len-count.result c.in_ok-life.life c.in_ok-life.ensures life c.deref.result.now c.make_events.ensures.opening
    c.make_events.ensures.history in
    let counted : c.len-threads.result ≡ length y.object.code.items = omega (arith, c.len-threads.ensures, y.object.code.ok) in
    let threads : c.len-threads.result ≡ length flat.threads = counted ∙ as_many_threads flat y.object y.marks y.cuts c.requires.translated in
    let bytes : c.len-bytes.result ≡ length y.object.initial.items = omega (arith, c.len-bytes.ensures, y.object.initial.ok) in
    let drawn : c.deref.result.now ≡ drawn_by (translation_in x) c.args.seed c.args.turns crashes =
    c.deref.ensures.value ∙ c.in_ok-events.ensures
    ∙ ap (λ (n : ℕ). drawn_run c.args.seed n crashes y.object.log c.len-threads.result ((c.len-bytes.result + 63) / 64)) c.from.ensures
    ∙ ap₂ (λ (t b : ℕ). drawn_run c.args.seed c.args.turns crashes y.object.log t ((b + 63) / 64)) threads bytes in
    IfOk-weaker c.told.result _ _
    (λ said is.
    subst (λ (es : List Event). IsTold c.args.journal c.args.source.now (translation_in x) es said.status said.output.items) drawn
    (told_by flat y.object y.marks y.cuts life c.deref.result.now made c.requires.compilation c.args.journal c.args.source.now said.status said.output.items
    is)) c.told.ensures
