use Rattle.rv64_codegen.specs.Plans.{plan_of}
use Rattle.machine_model.specs.Executables.{resume_marks}
use Rattle.flat_compile.specs.links.ResumePlacesByNode.{AreTabled}
use Rattle.flat_compile.proofs.resumes.resume_table.Given as goal

abbrev pub invariant-loop-number : goal.invariant-loop-number
invariant-loop-number l = AreTabled (plan_of l.plan) (resume_marks l.marks.threads.items) l.number l.table.items
