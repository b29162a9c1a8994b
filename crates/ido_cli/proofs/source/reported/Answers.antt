use Rattle.std.proofs.Common.{◌+◌, ℕ, List, rules, map, arith}
use Rattle.std.proofs.lemmas.List.{length-map}
use Rattle.c_tree.specs.Flats.{flat_of, thread_of}
use Rattle.c_tree.specs.Source as m
use Rattle.source_machine.specs.Lives.{after_lives, ended_lives}
use Rattle.run_scripts.specs.Reports as r
use Rattle.run_scripts.specs.links.ReportViews as views
use Rattle.ido_cli.proofs.GatheredReports.{reported_is}
use Rattle.ido_cli.proofs.source.reported.Goals as goal

pub unsettled-requires : goal.unsettled-requires
unsettled-requires c =
    let x = flat_of c.args.flat.now in
    omega (
      arith,
      c.requires.few,
      c.requires.stands.count,
      (c.lives_stop_once.ensures.sizes x (m.start x) (map views.steps_of c.args.lives.items) (length-map x.threads m.thread_start)).0,
      length-map c.args.flat.now.threads.items thread_of,
    )

pub ended-requires : goal.ended-requires
ended-requires c =
    let x = flat_of c.args.flat.now in
    omega (
      arith,
      c.requires.few,
      c.requires.stands.count,
      (c.lives_stop_once.ensures.sizes x (m.start x) (map views.steps_of c.args.lives.items) (length-map x.threads m.thread_start)).0,
      length-map c.args.flat.now.threads.items thread_of,
    )

pub returns : goal.returns
returns c =
    let x = flat_of c.args.flat.now in
    let lives = map views.steps_of c.args.lives.items in
    let s = after_lives x (m.start x) lives in
    let ended : ℕ → ℕ = λ thread. 0 + ended_lives x (m.start x) lives thread in
    let named : List r.Variable = map views.variable_of c.in_ok-variables.variables.items in
    reported_is c.lives_stop_once.ensures.sizes x lives c.in_ok-unsettled.unsettled.items c.in_ok-ended.ended.items named
    (c.in_ok-unsettled.ensures s ended c.requires.stands)
    (search (rules, c.in_ok-variables.ensures, c.variables.ensures s ended c.requires.stands))
    (c.in_ok-ended.ensures s ended c.requires.stands)
    (omega (arith, c.requires.steps))
