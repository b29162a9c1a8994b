use Rattle.std.proofs.Common.{◌≡◌, ◌+◌, length, take}
use Rattle.std.specs.Vec.{vec_capacity, vec_len}
use Rattle.run_tracker.proofs.account.Account.new.Given as goal

abbrev pub invariant-loop-step : goal.invariant-loop-step
invariant-loop-step l = record {
  items : l.kept.items ≡ take l.step-index l.before;
  len : vec_len l.kept ≡ l.step-index;
  capacity : vec_capacity l.kept ≡ length l.before + l.cap;
}
