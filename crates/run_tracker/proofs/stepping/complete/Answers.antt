use Rattle.std.proofs.Common.{◌≡◌, ◌==◌, not, true, refl, sym, subst, arith}
use Rattle.machine_events.specs.declared.event.Reply.TheVariants.{Moved}
use Rattle.machine_events.specs.declared.event.Event.TheVariants.{Step}
use Rattle.machine_model.specs.Machine.{after_event}
use Rattle.machine_model.specs.Schedule.{is_fence, is_point_store, finishes_fence, stores_point}
use Rattle.run_tracker.specs.links.AccountRepresentation.{AccountInv}
use Rattle.run_tracker.proofs.StepsByObservation.{fence_done, mark_is, plain_counts, plain_steps, point_is, position_is, steps_are}
use Rattle.run_tracker.proofs.EventCounts.{completes-other, counted-one}
use Rattle.run_tracker.proofs.Events.{begun_if}
use Rattle.run_tracker.proofs.MoreBegun.{free_few}
use Rattle.run_tracker.proofs.stepping.complete.Goals as goal

pub begin_if-requires-clause-room : goal.begin_if-requires-clause-room
begin_if-requires-clause-room c =
    let has = c.requires.after.has in
    let few = free_few c.args.account.now has.steps c.args.hart has.stands (omega (arith, c.requires.harts, c.requires.exists)) in
    omega (arith, few, has.few)

pub returns-then-observation-clause-steps : goal.returns-then-observation-clause-steps
returns-then-observation-clause-steps c = λ program marks w s stepped a.
    let h = c.args.hart in
    subst (AccountInv c.args.account.now)
    (sym (plain_steps program marks c.args.machine.now h c.args.observation Moved w stepped c.requires.running refl c.if-observation.true s)) a

pub returns-then-observation-clause-counts : goal.returns-then-observation-clause-counts
returns-then-observation-clause-counts c = λ program marks w stepped.
    let h = c.args.hart in
    plain_counts program marks c.args.machine.now h c.args.observation Moved w stepped c.requires.running refl c.if-observation.true
    c.args.counts.now

pub returns-clause-steps : goal.returns-clause-steps
returns-clause-steps c = λ program marks w s stepped a.
    let h = c.args.hart in
    let seen = c.args.observation in
    let position = c.position_if-position.result in
    let at = λ (stores : seen.sign.store ≡ true). position_is program marks c.args.machine.now h seen Moved w stepped c.requires.running refl position
    (c.position_if-position.ensures.asked stores (after_event program w (Step h)) stepped.stands) in
    subst (AccountInv c.bind_if.new.self)
    (steps_are program marks c.args.machine.now h seen Moved w stepped c.requires.running refl s seen.sign.mark (not (position == seen.position)) position
    seen.sign.store refl (mark_is program marks c.args.machine.now h seen Moved w stepped c.requires.running refl)
    (point_is program marks c.args.machine.now h seen Moved w stepped c.requires.running refl position seen.sign.store refl at
    c.position_if-position.ensures.unasked)
    at)
    (c.bind_if.ensures.stands (begun_if seen.sign.mark h s) (c.begin_if.ensures.stands s a))

pub returns-clause-counts : goal.returns-clause-counts
returns-clause-counts c = λ program marks w stepped.
    let h = c.args.hart in
    let seen = c.args.observation in
    let position = c.position_if-position.result in
    let at = λ (stores : seen.sign.store ≡ true). position_is program marks c.args.machine.now h seen Moved w stepped c.requires.running refl position
    (c.position_if-position.ensures.asked stores (after_event program w (Step h)) stepped.stands) in
    record {
      points =
          counted-one c.args.counts.now.points.items c.add.new.self.points.items h (not (position == seen.position))
          (λ g. stores_point program w (Step h) g) c.add.ensures.points
          (omega (arith, c.requires.counts.points, c.requires.exists))
          (point_is program marks c.args.machine.now h seen Moved w stepped c.requires.running refl position seen.sign.store refl at
          c.position_if-position.ensures.unasked)
          (λ g ne. completes-other (is_point_store w.log g) program w h g ne);
      fences =
          counted-one c.args.counts.now.fences.items c.add.new.self.fences.items h seen.sign.fence (λ g. finishes_fence program w (Step h) g)
          c.add.ensures.fences
          (omega (arith, c.requires.counts.fences, c.requires.exists))
          (fence_done program marks c.args.machine.now h seen Moved w stepped c.requires.running refl)
          (λ g ne. completes-other is_fence program w h g ne);
    }
