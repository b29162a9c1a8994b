use Rattle.std.proofs.Common.{◌*◌}
use Rattle.rv64_codegen.specs.Plans.{plan_of}
use Rattle.flat_compile.specs.links.ResumePlacesByNode.{thread_in, AreStandsBelow}
use Rattle.flat_compile.proofs.resumes.stands.Given as goal

abbrev pub invariant-loop-node : goal.invariant-loop-node
invariant-loop-node l = AreStandsBelow (plan_of l.plan) (thread_in (plan_of l.plan) l.number l.fn.part) (2 * l.node) l.stands.items
