use Rattle.std.proofs.Common.{◌≡◌, ◌+◌, length, map, take}
use Rattle.std.specs.Vec.{vec_capacity, vec_len}
use Rattle.run_tracker.specs.links.AccountRepresentation.{ends_from}
use Rattle.run_tracker.specs.links.EarlierLives.{schedule_in, steps_together}
use Rattle.run_tracker.proofs.earlier.ends_of.Given as goal

abbrev pub invariant-loop-life : goal.invariant-loop-life
invariant-loop-life l = record {
  ends : l.ends.items ≡ ends_from 0 (map schedule_in (take l.life-index l.lives));
  end : l.end ≡ length (steps_together (map schedule_in (take l.life-index l.lives)));
  len : vec_len l.ends ≡ l.life-index;
  capacity : vec_capacity l.ends ≡ length l.lives + l.cap;
}
