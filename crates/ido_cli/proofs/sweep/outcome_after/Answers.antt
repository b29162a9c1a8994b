use Rattle.std.proofs.Common.{List, ℕ, refl, subst, sym}
use Rattle.std.specs.Prelude.{◌==◌}
use Rattle.c_tree.specs.Flats.{flat_of}
use Rattle.ido_cli.specs.links.CrashPoints.{IsOutcomeAt}
use Rattle.ido_cli.proofs.PlayedRuns.{has_room}
use Rattle.ido_cli.proofs.CrashRuns.{counts_then, harts_then, outcome_of}
use Rattle.ido_cli.proofs.sweep.outcome_after.Goals as goal

pub say-requires-clause-room : goal.say-requires-clause-room
say-requires-clause-room c =
    let x = c.args.points.now in
    let y = x.translated in
    has_room (flat_of x.flat) y.object y.marks y.cuts c.requires.translated_is

pub say-requires-clause-harts : goal.say-requires-clause-harts
say-requires-clause-harts c = harts_then c.args.points.now c.args.k c.in_ok-life.life c.in_ok-life.ensures

pub say-requires-clause-counted : goal.say-requires-clause-counted
say-requires-clause-counted c = counts_then c.args.points.now c.args.k c.in_ok-life.life c.in_ok-life.ensures c.requires

pub returns : goal.returns
returns c =
    subst (λ (report : List ℕ). IsOutcomeAt c.args.points.now c.args.k (record { settled = c.in_ok-said.said.status == 0; report = report }))
    (sym c.in_ok-report.ensures)
    (outcome_of c.args.points.now c.args.k c.in_ok-life.life c.in_ok-life.ensures c.requires c.in_ok-said.said.status (c.in_ok-said.said.status == 0)
    c.in_ok-said.said.output.items c.in_ok-said.ensures refl)
