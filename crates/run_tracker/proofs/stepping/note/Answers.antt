use Rattle.std.proofs.Common.{◌≡◌, ℕ, false, refl, ap, sym, subst, ◌∙◌, length}
use Rattle.log_schemes.specs.declared.log.Log.{Log}
use Rattle.machine_events.specs.declared.event.Event.TheVariants.{Step}
use Rattle.machine_events.specs.declared.event.Reply.{Reply}
use Rattle.machine_events.specs.declared.event.Reply.TheVariants.{Moved, Drained, Waits, Barrier, Still, Stuck, Device}
use Rattle.machine_model.specs.Machine.{after_event}
use Rattle.machine_model.specs.Schedule.{has_moved, with_all_kept}
use Rattle.run_tracker.specs.links.AccountRepresentation.{AccountInv, AreOpen}
use Rattle.run_tracker.specs.links.LifeParts.{is_drained, seen_step, HasStepped}
use Rattle.run_tracker.proofs.DurablePoints.{above_seen}
use Rattle.run_tracker.proofs.StepsByObservation.{counts_none, held_up, idle, kept_after, kept_none, steps_none}
use Rattle.run_tracker.proofs.stepping.note.Goals as goal

unmoved : (reply : Reply) → (reply ≡ Moved → ⊥) → has_moved reply ≡ false
unmoved Moved ne = absurd (ne refl)
unmoved Drained ne = refl
unmoved (Waits lock holder) ne = refl
unmoved (Barrier hart) ne = refl
unmoved Still ne = refl
unmoved (Stuck cause) ne = refl
unmoved Device ne = refl

undrained : (reply : Reply) → (reply ≡ Drained → ⊥) → is_drained reply ≡ false
undrained Moved ne = refl
undrained Drained ne = absurd (ne refl)
undrained (Waits lock holder) ne = refl
undrained (Barrier hart) ne = refl
undrained Still ne = refl
undrained (Stuck cause) ne = refl
undrained Device ne = refl

pub returns-then-observation-clause-steps : goal.returns-then-observation-clause-steps
returns-then-observation-clause-steps c = λ program marks w s stepped a is_open seen.
    let kept = kept_none program marks c.args.machine.now c.args.hart c.args.observation c.args.reply w stepped
    (ap is_drained c.in-Moved.is) s
    (subst (λ (n : ℕ). AreOpen n w.log w.words s) (sym stepped.many) is_open) in
    let moved = subst (λ (r : Reply). HasStepped program marks c.args.machine.now (seen_step c.args.hart c.args.observation r) w)
    c.in-Moved.is
    stepped in
    subst (AccountInv c.complete.new.account) (sym kept) (c.complete.ensures.steps program marks w s moved a)

pub returns-then-observation-clause-counts : goal.returns-then-observation-clause-counts
returns-then-observation-clause-counts c = λ program marks w stepped.
    c.complete.ensures.counts program marks w
    (subst (λ (r : Reply). HasStepped program marks c.args.machine.now (seen_step c.args.hart c.args.observation r) w) c.in-Moved.is stepped)

pub returns-else-observation-clause-steps : goal.returns-else-observation-clause-steps
returns-else-observation-clause-steps c = λ program marks w s stepped a is_open seen.
    let none = idle program marks c.args.machine.now c.args.hart c.args.observation c.args.reply w stepped c.if-observation.false in
    let kept = kept_none program marks c.args.machine.now c.args.hart c.args.observation c.args.reply w stepped
    (ap is_drained c.in-Moved.is) s
    (subst (λ (n : ℕ). AreOpen n w.log w.words s) (sym stepped.many) is_open) in
    let same = steps_none program marks c.args.machine.now c.args.hart c.args.observation c.args.reply w stepped none s in
    subst (AccountInv c.args.account.now) (sym (kept ∙ same)) a

pub returns-else-observation-clause-counts : goal.returns-else-observation-clause-counts
returns-else-observation-clause-counts c = λ program marks w stepped.
    let none = idle program marks c.args.machine.now c.args.hart c.args.observation c.args.reply w stepped c.if-observation.false in
    counts_none program marks c.args.machine.now c.args.hart c.args.observation c.args.reply w stepped none c.args.counts.now

pub returns-in-Drained-clause-steps : goal.returns-in-Drained-clause-steps
returns-in-Drained-clause-steps c = λ program marks w s stepped a is_open seen.
    let none = held_up program marks c.args.machine.now c.args.hart c.args.observation c.args.reply w stepped
    (ap has_moved c.in-Drained.is) in
    let after = kept_after program marks c.args.machine.now c.args.hart c.args.observation c.args.reply w stepped none s _
    (c.requires.harts ∙ sym stepped.many) in
    let next = after_event program w (Step c.args.hart) in
    subst (AccountInv c.keep_all.new.account) after
    (subst (λ (l : Log). AccountInv c.keep_all.new.account (with_all_kept l next.words (length c.args.account.now.harts.items) s)) stepped.log
    (c.keep_all.ensures.stands next s stepped.stands a (above_seen c.args.sections.now _ w s seen is_open)))

pub returns-in-Drained-clause-counts : goal.returns-in-Drained-clause-counts
returns-in-Drained-clause-counts c = λ program marks w stepped.
    let none = held_up program marks c.args.machine.now c.args.hart c.args.observation c.args.reply w stepped
    (ap has_moved c.in-Drained.is) in
    counts_none program marks c.args.machine.now c.args.hart c.args.observation c.args.reply w stepped none c.args.counts.now

pub returns-in_default-clause-steps : goal.returns-in_default-clause-steps
returns-in_default-clause-steps c = λ program marks w s stepped a is_open seen.
    let none = held_up program marks c.args.machine.now c.args.hart c.args.observation c.args.reply w stepped
    (unmoved c.args.reply c.in_default.not-Moved) in
    let kept = kept_none program marks c.args.machine.now c.args.hart c.args.observation c.args.reply w stepped
    (undrained c.args.reply c.in_default.not-Drained) s
    (subst (λ (n : ℕ). AreOpen n w.log w.words s) (sym stepped.many) is_open) in
    let same = steps_none program marks c.args.machine.now c.args.hart c.args.observation c.args.reply w stepped none s in
    subst (AccountInv c.args.account.now) (sym (kept ∙ same)) a

pub returns-in_default-clause-counts : goal.returns-in_default-clause-counts
returns-in_default-clause-counts c = λ program marks w stepped.
    let none = held_up program marks c.args.machine.now c.args.hart c.args.observation c.args.reply w stepped
    (unmoved c.args.reply c.in_default.not-Moved) in
    counts_none program marks c.args.machine.now c.args.hart c.args.observation c.args.reply w stepped none c.args.counts.now
