use Rattle.rv64_codegen.specs.links.LiveRegisters.{AreLiveLocals}
use Rattle.rv64_codegen.proofs.registers.live_locals.Given as goal

abbrev pub invariant-loop-number : goal.invariant-loop-number
invariant-loop-number l = AreLiveLocals l.homes l.live l.node l.number l.found.items
