use Rattle.std.proofs.Common.{◌∙◌, sym}
use Rattle.run_scripts.proofs.ScheduleReader.{life_ends, more_many, run_taken, still_many}
use Rattle.run_scripts.proofs.schedule.take_word.Goals as goal

pub returns-then-is_schedule-clause-taken : goal.returns-then-is_schedule-clause-taken
returns-then-is_schedule-clause-taken c = λ ws.
    life_ends c.args.lives.now c.end_life.new.lives (record { place = c.args.place; bytes = c.args.word.now })
    (sym c.is_schedule.ensures ∙ c.if-is_schedule.true)
    c.in_ok-end_life.ensures.ended c.in_ok-end_life.ensures.steps c.in_ok-end_life.ensures.done ws

pub returns-then-is_schedule-clause-many : goal.returns-then-is_schedule-clause-many
returns-then-is_schedule-clause-many c =
    still_many c.args.lives.now c.end_life.new.lives c.requires.many c.in_ok-end_life.ensures.ended c.in_ok-end_life.ensures.steps
    c.in_ok-end_life.ensures.done

pub returns-clause-taken : goal.returns-clause-taken
returns-clause-taken c = λ ws.
    run_taken c.args.lives.now c.add_run.new.lives c.in_ok-run.run'.thread c.in_ok-run.run'.steps (record { place = c.args.place; bytes = c.args.word.now })
    c.in_ok-run.ensures.run c.in_ok-add_run.ensures.ended c.in_ok-add_run.ensures.steps c.in_ok-add_run.ensures.done ws

pub returns-clause-many : goal.returns-clause-many
returns-clause-many c =
    more_many c.args.lives.now c.add_run.new.lives c.in_ok-run.run'.thread c.in_ok-run.run'.steps c.requires.many c.in_ok-add_run.ensures.ended
    c.in_ok-add_run.ensures.steps c.in_ok-add_run.ensures.done
