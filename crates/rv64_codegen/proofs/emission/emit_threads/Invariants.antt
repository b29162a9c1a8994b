use Rattle.rv64_codegen.specs.Plans.{plan_of}
use Rattle.rv64_codegen.specs.links.Emission.{AreEmittedTo}
use Rattle.rv64_codegen.proofs.emission.emit_threads.Given as goal

abbrev pub invariant-loop-number : goal.invariant-loop-number
invariant-loop-number l = AreEmittedTo (plan_of l.plan) l.number l.threads.items
