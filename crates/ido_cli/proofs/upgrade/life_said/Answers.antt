use Rattle.std.proofs.Common.{sym, ◌∙◌}
use Rattle.std.proofs.lemmas.Result.{IfOk-weaker}
use Rattle.c_tree.specs.Flats.{flat_of}
use Rattle.ido_cli.specs.Upgrades.{unfinished}
use Rattle.ido_cli.proofs.PlayedRuns.{has_room}
use Rattle.ido_cli.proofs.UpgradedImages.{few_threads}
use Rattle.ido_cli.proofs.upgrade.life_said.Goals as goal

pub settled_said-requires-clause-settled : goal.settled_said-requires-clause-settled
settled_said-requires-clause-settled c = sym c.settled.ensures ∙ c.if-settled.true

pub say_by_source-requires-clause-steps : goal.say_by_source-requires-clause-steps
say_by_source-requires-clause-steps c = c.requires.life.steps

pub say_by_source-requires-clause-few : goal.say_by_source-requires-clause-few
say_by_source-requires-clause-few c = few_threads c.args.image.now.compiled c.args.life.now c.requires.life

pub say_by_source-requires-clause-room : goal.say_by_source-requires-clause-room
say_by_source-requires-clause-room c =
    let x = c.args.image.now.compiled in
    let y = x.translated in
    has_room (flat_of x.flat) y.object y.marks y.cuts c.requires.life.translated

pub say_by_source-requires-clause-harts : goal.say_by_source-requires-clause-harts
say_by_source-requires-clause-harts c = c.requires.life.harts

pub returns-else-settled : goal.returns-else-settled
returns-else-settled c =
    IfOk-weaker c.say_by_source.result _ _ (λ said told. unfinished (sym c.settled.ensures ∙ c.if-settled.false) told) c.say_by_source.ensures
