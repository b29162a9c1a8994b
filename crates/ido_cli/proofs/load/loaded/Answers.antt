use Rattle.std.proofs.Common.{arith, subst, sym}
use Rattle.std.proofs.lemmas.Result.{IfOk-weaker}
use Rattle.c_tree.specs.Flats.{flat_of}
use Rattle.run_scripts.specs.Reports.{ReportedState}
use Rattle.run_tracker.specs.ObjectLives.{steps_in, world_of}
use Rattle.ido_cli.specs.Loads.{IsSummary}
use Rattle.ido_cli.specs.links.LegRuns.{IsSummable}
use Rattle.ido_cli.proofs.PlayedRuns.{as_many_threads, counts_sections, has_room}
use Rattle.ido_cli.proofs.Sums.{summable}
use Rattle.ido_cli.proofs.ThreadedAnswers.{is_load, load_played}
use Rattle.ido_cli.proofs.load.loaded.Goals as goal
use Rattle.machine_model.specs.Schedule.{schedules}

pub reported-requires-clause-counted : goal.reported-requires-clause-counted
reported-requires-clause-counted g c =
    let x = c.args.compiled.now in
    let y = x.translated in
    let flat = flat_of x.flat in
    let left = c.in_ok-driven.driven in
    let life = c.rounds.new.life in
    counts_sections flat y.object y.marks y.cuts life life.journal
    (load_played flat y.object y.marks y.cuts c.in_ok-life.life c.in_ok-life.ensures left.core left.stops.items left.evict c.in_ok-driven.ensures life
    c.rounds.ensures.opening c.rounds.ensures.rounds) c.requires.compilation
    (as_many_threads flat y.object y.marks y.cuts c.requires.translated)

pub say_summed-requires : goal.say_summed-requires
say_summed-requires g c =
    let x = c.args.compiled.now in
    let y = x.translated in
    let t = c.requires.translated in
    let flat = flat_of x.flat in
    let life = c.rounds.new.life in
    let threads = as_many_threads flat y.object y.marks y.cuts t in
    subst IsSummable (sym c.in_ok-state.ensures)
    (summable flat (world_of life) (schedules (steps_in life)) (omega (arith, threads, t.limits.threads)) (has_room flat y.object y.marks y.cuts t))

pub returns : goal.returns
returns g c =
    let x = c.args.compiled.now in
    let y = x.translated in
    let left = c.in_ok-driven.driven in
    IfOk-weaker c.say_summed.result _ _
    (λ said told.
    is_load (flat_of x.flat) y.object y.marks y.cuts c.in_ok-life.life c.in_ok-life.ensures left.core left.stops.items left.evict c.in_ok-driven.ensures
    c.rounds.new.life c.rounds.ensures.opening c.rounds.ensures.rounds c.requires.compilation said.status said.output.items
    (subst (λ (s : ReportedState). IsSummary s said.status said.output.items) c.in_ok-state.ensures told))
    c.say_summed.ensures
