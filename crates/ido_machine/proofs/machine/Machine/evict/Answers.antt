use Rattle.ido_machine.specs.Machines.{state_of}
use Rattle.ido_machine.proofs.MachineEvents.{evict_end}
use Rattle.ido_machine.proofs.machine.Machine.evict.Goals as goal

pub returns-clause-world : goal.returns-clause-world
returns-clause-world c =
    λ w s. evict_end c.args.self.now.program (state_of c.args.self.now) c.evict.new.self c.args.line c.args.mask w c.evict.ensures.stands c.evict.ensures.logs s
