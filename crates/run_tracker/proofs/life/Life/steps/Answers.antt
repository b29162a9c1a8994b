use Rattle.std.proofs.Common.{◌≡◌, ◌+◌, ◌-◌, ◌≤◌, ap, ◌∙◌, arith}
use Rattle.run_tracker.specs.ObjectLives.{Course}
use Rattle.run_tracker.specs.LocalRuns.{with_steps}
use Rattle.run_tracker.proofs.RepeatedSteps.{more_steps}
use Rattle.run_tracker.proofs.life.Life.steps.Goals as goal

pub loop-left-preserved-then-left-gt0 : goal.loop-left-preserved-then-left-gt0
loop-left-preserved-then-left-gt0 c =
    let life : Course = c.args.self.now in
    let h = c.args.hart in
    let left = c.loop-left.left in
    let made = c.run_locally.result in
    let inv = c.loop-left.invariant in
    let made_is : c.from-left.result ≡ made = omega (arith, c.from-left.ensures) in
    let sum : c.args.count - left + made + 1 ≡ c.args.count - (left - c.from-left.result - 1) = omega (arith, made_is, c.if-left-gt0.true, inv.within) in
    record {
      within = omega (arith, inv.within);
      life =
          c.event_apart.ensures.life
          ∙ ap (λ (x : Course). with_steps x h 1)
          (c.run_locally.ensures.life ∙ ap (λ (x : Course). with_steps x h made) inv.life ∙ more_steps life h (c.args.count - left) made)
          ∙ more_steps life h (c.args.count - left + made) 1 ∙ ap (with_steps life h) sum;
    }

pub loop-left-preserved : goal.loop-left-preserved
loop-left-preserved c =
    let life : Course = c.args.self.now in
    let h = c.args.hart in
    let left = c.loop-left.left in
    let made = c.run_locally.result in
    let inv = c.loop-left.invariant in
    let made_is : c.from-left.result ≡ made = omega (arith, c.from-left.ensures) in
    let within : made ≤ left = omega (arith, c.run_locally.ensures.most, c.min-most.ensures, c.from.ensures) in
    let sum : c.args.count - left + made ≡ c.args.count - (left - c.from-left.result) = omega (arith, made_is, within, inv.within) in
    record {
      within = omega (arith, inv.within);
      life =
          c.run_locally.ensures.life ∙ ap (λ (x : Course). with_steps x h made) inv.life ∙ more_steps life h (c.args.count - left) made
          ∙ ap (with_steps life h) sum;
    }
