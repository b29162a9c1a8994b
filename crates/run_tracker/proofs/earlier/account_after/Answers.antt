use Rattle.std.proofs.Common.{◌+◌, ◌∙◌, ℕ, ap, arith}
use Rattle.std.proofs.lemmas.Result.{IfOk-weaker}
use Rattle.run_tracker.proofs.EarlierSchedules.{given_count, is_accounted}
use Rattle.run_tracker.proofs.earlier.account_after.Goals as goal

pub new-requires : goal.new-requires
new-requires c =
    omega (
      arith,
      given_count c.args.earlier.now c.args.schedule.now c.in_ok-kept.kept.items c.add.new.steps.items c.deref.result.now c.in_ok-kept.ensures
          c.in_ok-add.ensures c.deref.ensures.value,
      c.requires,
    )

pub returns-clause-stands : goal.returns-clause-stands
returns-clause-stands c =
    IfOk-weaker c.new.result _ _
    (λ account stands. is_accounted c.args.earlier.now c.args.schedule.now c.in_ok-kept.kept.items c.add.new.steps.items c.deref.result.now
    c.in_ok-kept.ensures c.in_ok-add.ensures c.deref.ensures.value c.args.harts account stands) c.new.ensures.stands

pub returns-clause-kept : goal.returns-clause-kept
returns-clause-kept c =
    IfOk-weaker c.new.result _ _
    (λ account is. is ∙ ap (λ (n : ℕ). n + c.args.cap)
    (given_count c.args.earlier.now c.args.schedule.now c.in_ok-kept.kept.items c.add.new.steps.items c.deref.result.now c.in_ok-kept.ensures
    c.in_ok-add.ensures c.deref.ensures.value)) c.new.ensures.kept
