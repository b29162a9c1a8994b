use Rattle.std.proofs.Common.{◌+◌, ◌∙◌, ℕ, sym}
use Rattle.c_tree.specs.Source as m
use Rattle.source_machine.specs.Lives.{ended_lives, begun_after, restart}
use Rattle.source_machine.proofs.LifeRuns.{lived_next, stopped_inside, stopped_next}
use Rattle.source_machine.proofs.state.SourceState.run_next.Goals as goal

pub returns-then-not-can_restart-clause-stopped : goal.returns-then-not-can_restart-clause-stopped
returns-then-not-can_restart-clause-stopped c = λ x s ended before life after run lived count.
    let inside = sym (c.can_restart.ensures.between _ _ lived.stands) ∙ c.if-not-can_restart.true in
    stopped_inside x s ended c.args.self.now before life lived c.args.done count c.args.schedule.now after inside

pub restart-requires : goal.restart-requires
restart-requires c = record { between = c.can_restart.ensures.may.0 c.if-not-can_restart.false }

pub returns-in-Ok-clause-lived : goal.returns-in-Ok-clause-lived
returns-in-Ok-clause-lived c = λ x s ended before life run lived.
    let between = sym (c.can_restart.ensures.between _ _ lived.stands) ∙ c.if-not-can_restart.false in
    let last = m.after_from (begun_after x s before) life in
    let so_many : ℕ → ℕ = λ k. ended k + (ended_lives x s before k + m.ended_from (begun_after x s before) life k) in
    lived_next x s ended c.args.self.now before life lived between c.run.new.self c.args.schedule.now
    (c.in-Ok.ensures.ran (restart x last) so_many (c.restart.ensures.anew x last so_many run lived.stands))

pub returns-in-Err-clause-stopped : goal.returns-in-Err-clause-stopped
returns-in-Err-clause-stopped c = λ x s ended before life after run lived count.
    let between = sym (c.can_restart.ensures.between _ _ lived.stands) ∙ c.if-not-can_restart.false in
    let last = m.after_from (begun_after x s before) life in
    let so_many : ℕ → ℕ = λ k. ended k + (ended_lives x s before k + m.ended_from (begun_after x s before) life k) in
    stopped_next x s ended c.args.self.now before life lived between c.run.new.self c.args.schedule.now
    c.args.done count after c.in-Err.refused (c.in-Err.ensures.ran (restart x last) so_many (c.restart.ensures.anew x last so_many run lived.stands))
