use Rattle.std.proofs.Common.{ℕ, ◌<◌, get_or}
use Rattle.c_tree.specs.Flats.{flat_of}
use Rattle.flat_compile.specs.declared.resumes.LiveLocal.{LiveLocal}
use Rattle.image_checks.specs.Checks.{HasLocal}
use Rattle.image_checks.specs.Logs.{logs_of}
use Rattle.image_checks.proofs.threads.wrong_register.Given as goal

abbrev pub invariant-loop-local : goal.invariant-loop-local
invariant-loop-local l =
    (k : ℕ) (d : LiveLocal) → k < l.local-index → HasLocal (flat_of l.flat) (logs_of l.log l.logs) l.thread l.bank (get_or l.live k d)
