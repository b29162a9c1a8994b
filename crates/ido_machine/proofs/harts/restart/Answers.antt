use Rattle.std.proofs.Common.{◌∙◌, rules}
use Rattle.ido_machine.proofs.Starts.{AreRestarted-set, AreFresh-all}
use Rattle.ido_machine.proofs.harts.restart.Goals as goal

pub loop-thread-preserved : goal.loop-thread-preserved
loop-thread-preserved c =
    AreRestarted-set c.args.program.now c.loop-thread.harts c.loop-thread.thread c.restart.new.self c.loop-thread.invariant
    (record { registers = c.restart.ensures.registers; pc = c.restart.ensures.pc ∙ c.start_of.ensures; queue = c.restart.ensures.queue })

pub returns : goal.returns
returns c = AreFresh-all c.args.program.now c.loop-thread.harts c.loop-thread.thread (search rules) c.loop-thread.invariant
