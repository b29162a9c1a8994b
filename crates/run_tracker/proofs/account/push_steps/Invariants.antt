use Rattle.std.proofs.Common.{◌≡◌, ◌+◌, ◌++◌, replicate}
use Rattle.std.specs.Vec.{vec_capacity, vec_len}
use Rattle.run_tracker.proofs.account.push_steps.Given as goal

abbrev pub invariant-loop : goal.invariant-loop
invariant-loop l = record {
  items : l.kept.items ≡ l.initial.kept.items ++ replicate l.counter l.hart;
  len : vec_len l.kept ≡ vec_len l.initial.kept + l.counter;
  capacity : vec_capacity l.kept ≡ vec_capacity l.initial.kept;
}
