use Rattle.std.proofs.Common.{take}
use Rattle.rv64_codegen.specs.Plans.{plan_of}
use Rattle.flat_compile.specs.links.ResumePlacesByNode.{thread_in, AreFoundAt}
use Rattle.flat_compile.proofs.resumes.thread_resumes.Given as goal

abbrev pub invariant-loop-k : goal.invariant-loop-k
invariant-loop-k l =
    AreFoundAt (plan_of l.plan) (thread_in (plan_of l.plan) l.number l.part) (take l.k l.stands) (take l.k l.addresses) l.resumes.items
