use Rattle.std.proofs.Common.{Bool, sym, subst}
use Rattle.std.specs.Prelude.{if◌then◌else◌}
use Rattle.machine_model.specs.Schedule.{next_life, steps_after}
use Rattle.run_tracker.specs.links.AccountRepresentation.{AccountInv}
use Rattle.run_tracker.proofs.LivesEnd.{closed}
use Rattle.run_tracker.proofs.stepping.start.Goals as goal

pub returns-clause-steps : goal.returns-clause-steps
unfolding steps_after
returns-clause-steps c = λ marks w s may stands.
    subst (λ (b : Bool). AccountInv c.lose.new.self (if b then next_life s else s)) (sym may) (closed c.lose.new.self s (c.lose.ensures.stands s stands))
