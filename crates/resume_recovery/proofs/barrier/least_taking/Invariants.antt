use Rattle.std.proofs.Common.{◌≡◌, drop}
use Rattle.resume_recovery.specs.links.LeastLockTaker.{taking_among}
use Rattle.resume_recovery.proofs.barrier.least_taking.Given as goal

abbrev pub invariant-loop-hart : goal.invariant-loop-hart
invariant-loop-hart l = taking_among 0 l.phases ≡ taking_among l.hart (drop l.hart l.phases)
