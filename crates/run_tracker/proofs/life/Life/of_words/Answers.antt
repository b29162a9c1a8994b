use Rattle.std.proofs.Common.{ap, ◌∙◌, rules}
use Rattle.std.proofs.lemmas.Result.{IfOk-weaker}
use Rattle.machine_model.specs.Machine.{World}
use Rattle.run_tracker.specs.ObjectLives.{life_at}
use Rattle.run_tracker.specs.links.EarlierLives.{lives_in}
use Rattle.run_tracker.proofs.LifeOpenings.{opening_is, left_stands, left_sound}
use Rattle.run_tracker.proofs.life.Life.of_words.Goals as goal

pub begun-requires-clause-stands : goal.begun-requires-clause-stands
begun-requires-clause-stands c =
    left_stands c.in_ok-machine.machine c.args.object.now c.args.words.now c.in_ok-to_vec.field-0 (search rules) c.in_ok-machine.ensures.program
    c.in_ok-machine.ensures.stands

pub begun-requires-clause-sound : goal.begun-requires-clause-sound
begun-requires-clause-sound c =
    left_sound c.in_ok-machine.machine c.args.object.now c.args.words.now c.in_ok-to_vec.field-0 (search rules) c.in_ok-machine.ensures.program
    c.in_ok-machine.ensures.stands

pub returns : goal.returns
returns c =
    let object = c.args.object.now in
    IfOk-weaker c.begun.result _ _
    (λ life is. is ∙ ap (λ (w : World). life_at object c.args.marks.now w (lives_in c.args.earlier.now c.args.schedule.now) c.args.ended.now c.args.cap)
    (opening_is c.in_ok-machine.machine object c.args.words.now c.in_ok-to_vec.field-0 (search rules) c.in_ok-machine.ensures.program
    c.in_ok-machine.ensures.stands)) c.begun.ensures
