use Rattle.std.proofs.Common.{◌≡◌, List, take}
use Rattle.rv64_isa.specs.declared.object.ThreadMarks.{ThreadMarks}
use Rattle.machine_model.specs.Executables.{node_marks, resume_marks}
use Rattle.run_tracker.proofs.marks.copy_of.Given as goal

-- so many of the threads' marks have been copied
pub record HaveCopied (copied marks : List ThreadMarks) : Type 0 where
  pub nodes : node_marks copied ≡ node_marks marks
  pub resumes : resume_marks copied ≡ resume_marks marks

abbrev pub invariant-loop-thread : goal.invariant-loop-thread
invariant-loop-thread l = HaveCopied l.threads.items (take l.thread-index l.marks.threads.items)
