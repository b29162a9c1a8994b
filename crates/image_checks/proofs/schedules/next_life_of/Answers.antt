use Rattle.std.proofs.Common.{◌∙◌, sym, refl, map}
use Rattle.run_scripts.specs.links.RunViews.{run_of}
use Rattle.image_checks.proofs.CheckedLives.{fault_next, told_next}
use Rattle.image_checks.proofs.schedules.next_life_of.Goals as goal

pub returns-then-not-can_restart-clause-fault : goal.returns-then-not-can_restart-clause-fault
returns-then-not-can_restart-clause-fault c = λ x s ended run stands. (refl, sym (c.can_restart.ensures.between s ended stands) ∙ c.if-not-can_restart.true)

pub restart-requires : goal.restart-requires
restart-requires c = record { between = c.can_restart.ensures.may.0 c.if-not-can_restart.false }

pub returns-clause-told : goal.returns-clause-told
returns-clause-told c =
    told_next c.args.state.now c.restart.new.self c.life_of.new.state c.args.done (map run_of c.args.runs.now)
    (λ s ended stands. sym (c.can_restart.ensures.between s ended stands) ∙ c.if-not-can_restart.false) c.restart.ensures.anew
    c.life_of.result c.life_of.ensures.told

pub returns-clause-fault : goal.returns-clause-fault
returns-clause-fault c =
    fault_next c.args.state.now c.restart.new.self c.life_of.new.state c.args.done (map run_of c.args.runs.now)
    (λ s ended stands. sym (c.can_restart.ensures.between s ended stands) ∙ c.if-not-can_restart.false) c.restart.ensures.anew
    c.args.number c.life_of.result c.life_of.ensures.fault

pub returns-clause-run : goal.returns-clause-run
returns-clause-run c = λ x run. c.life_of.ensures.run x (c.restart.ensures.run x run)
