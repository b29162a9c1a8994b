use Rattle.std.proofs.Common.{◌∙◌, arith, length-set}
use Rattle.machine_model.specs.Machine.{resumed_register}
use Rattle.resume_recovery.proofs.Points.{registers_are}
use Rattle.resume_recovery.proofs.Registers.{set_next, all_set}
use Rattle.resume_recovery.proofs.record.resumed_registers.Goals as goal

pub loop-register-preserved : goal.loop-register-preserved
loop-register-preserved c = record {
  size = length-set c.loop-register.registers c.loop-register.register c.resumed_register.result ∙ c.loop-register.invariant.size;
  set =
      λ words s. set_next (resumed_register c.args.memory.now.log words c.args.hart) c.loop-register.registers c.loop-register.register
      c.resumed_register.result
      (omega (arith, c.loop-register.invariant.size, c.loop-register-test.true)) (c.resumed_register.ensures words s) (c.loop-register.invariant.set words s);
}

pub returns : goal.returns
returns c =
    λ words s. registers_are c.args.memory.now.log words c.args.hart _
    (all_set (resumed_register c.args.memory.now.log words c.args.hart) c.loop-register.registers 32 c.loop-register.invariant.size
    (λ i below. c.loop-register.invariant.set words s i (omega (arith, below, c.loop-register-test.false))))
