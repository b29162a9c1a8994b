use Rattle.std.proofs.Common.{◌≡◌, ℕ, ◌+◌, ◌<◌, ◌∙◌, length, map, ap, arith, rules, length-set}
use Rattle.machine_model.specs.declared.phase.Phase.{Phase}
use Rattle.machine_model.specs.declared.phase.Phase.TheVariants.{Done}
use Rattle.machine_model.specs.Machine.{phase_after_crash, durable_point}
use Rattle.log_schemes.specs.Schemes.{numbers_from}
use Rattle.ido_machine.proofs.Lists.{set_next, from_each}
use Rattle.ido_machine.proofs.harts.set_phases.Goals as goal

pub loop-thread-preserved : goal.loop-thread-preserved
loop-thread-preserved c = record {
  size = length-set c.loop-thread.phases c.loop-thread.thread c.phase_after_crash.result ∙ c.loop-thread.invariant.size;
  set =
      λ words s. set_next (λ thread. phase_after_crash (durable_point c.args.memory.now.log words thread)) c.loop-thread.phases c.loop-thread.thread
      c.phase_after_crash.result Done
      (search rules) (c.phase_after_crash.ensures words s) (c.loop-thread.invariant.set words s);
}

pub returns-clause-phases : goal.returns-clause-phases
returns-clause-phases c = λ words s.
    let f : ℕ → Phase = λ thread. phase_after_crash (durable_point c.args.memory.now.log words thread) in
    let still : (n : ℕ) → n < length c.loop-thread.phases → n < c.loop-thread.thread =
    λ n below. omega (arith, below, c.loop-thread-test.false, c.loop-thread.invariant.size) in
    from_each f 0 c.loop-thread.phases Done (λ n below. c.loop-thread.invariant.set words s n (still n below) ∙ (let e : n ≡ 0 + n = omega arith in ap f e))
    ∙ ap (λ (n : ℕ). map f (numbers_from 0 n)) c.loop-thread.invariant.size
