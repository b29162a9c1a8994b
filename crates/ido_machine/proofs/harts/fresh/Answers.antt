use Rattle.std.proofs.Common.{◌∙◌}
use Rattle.ido_machine.proofs.Starts.{AreFresh-push}
use Rattle.ido_machine.proofs.harts.fresh.Goals as goal

pub loop-thread-preserved : goal.loop-thread-preserved
loop-thread-preserved c =
    rw c.in_ok-push.ensures.items
    (AreFresh-push c.args.program.now c.loop-thread.harts.items c.loop-thread.thread _ c.loop-thread.invariant
    (record { registers = c.new.ensures.registers; pc = c.new.ensures.pc ∙ c.start_of.ensures; queue = c.new.ensures.queue }))
