use Rattle.std.proofs.Common.{◌+◌, ◌-◌, ◌/◌, ◌∙◌, ℕ, length, map, ap, sym}
use Rattle.std.proofs.lemmas.List.{length-map}
use Rattle.std.proofs.lemmas.Result.{IfOk-weaker}
use Rattle.ido_base.specs.declared.limits.TheConstants.{LINE_BYTES}
use Rattle.c_tree.specs.Flats.{flat_of}
use Rattle.rv64_isa.specs.Programs.{slot_of}
use Rattle.ido_cli.specs.ThreadedRuns.{evictions_at}
use Rattle.ido_cli.proofs.PlayedRuns.{as_many_threads, counts_sections}
use Rattle.ido_cli.proofs.ThreadedAnswers.{live_played, live_run, new_can}
use Rattle.ido_cli.proofs.live.ran.Goals as goal

pub run_legs-requires-clause-can : goal.run_legs-requires-clause-can
run_legs-requires-clause-can g c κs within =
    let y = c.args.compiled.now.translated in
    new_can y.object y.marks (3999000 + length c.args.asked.crashes.now) c.in_ok-life.life c.in_ok-life.ensures c.evictor.result
    c.requires.translated.limits.threads c.evictor.ensures.valid

pub told-requires-clause-counted : goal.told-requires-clause-counted
told-requires-clause-counted g c =
    let x = c.args.compiled.now in
    let y = x.translated in
    let flat = flat_of x.flat in
    let asked = c.args.asked in
    let life = c.in_ok-life-2.life in
    counts_sections flat y.object y.marks y.cuts life life.journal
    (live_played flat y.object y.marks y.cuts (3999000 + length asked.crashes.now) (record { life = c.in_ok-life.life; evict = c.evictor.result })
    c.in_ok-life.ensures asked.turns asked.crashes.now life c.in_ok-life-2.ensures) c.requires.compilation
    (as_many_threads flat y.object y.marks y.cuts c.requires.translated)

pub returns : goal.returns
returns g c =
    let x = c.args.compiled.now in
    let y = x.translated in
    let asked = c.args.asked in
    let threads = length-map y.object.code.items (λ code. map slot_of code.items) in
    let drawn =
    c.evictor.ensures.drawn
    ∙ ap (λ (n : ℕ). evictions_at y.object.log n ((length y.object.initial.items + (LINE_BYTES - 1)) / LINE_BYTES) asked.evict) (sym threads) in
    IfOk-weaker c.told.result _ _
    (λ said told.
    live_run (flat_of x.flat) y.object y.marks y.cuts (3999000 + length asked.crashes.now) (record { life = c.in_ok-life.life; evict = c.evictor.result })
    c.in_ok-life.ensures asked.turns asked.crashes.now c.in_ok-life-2.life c.in_ok-life-2.ensures c.requires.compilation asked.evict drawn asked.journal
    c.args.source.now said.status said.output.items told)
    c.told.ensures
