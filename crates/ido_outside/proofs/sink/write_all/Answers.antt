-- What this write added goes on from what was added before.
use Rattle.std.proofs.Common.{ℕ, arith, length-take, length-drop}
use Rattle.ido_outside.proofs.AddedBytes.{Adds-more}
use Rattle.ido_outside.proofs.sink.write_all.Goals as goal

pub loop-done-preserved : goal.loop-done-preserved
loop-done-preserved g c = record {
  within = omega (arith, c.in_ok-done.ensures.bound, length-take {A = ℕ}, length-drop {A = ℕ});
  added = Adds-more _ _ _ c.args.bytes.now c.loop-done.done c.in_ok-done.field-0 c.loop-done.invariant.added c.in_ok-done.ensures.bytes;
  later = omega (arith, c.loop-done.invariant.later, c.in_ok-done.ensures.cause.later);
}
