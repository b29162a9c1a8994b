use Rattle.std.proofs.Common.{◌≡◌, length, take}
use Rattle.crash_images.specs.links.WrittenLives.{AreWritten}
use Rattle.crash_images.proofs.writing.put_lives.Given as goal

abbrev pub invariant-loop-i : goal.invariant-loop-i
invariant-loop-i l = record {
  written : AreWritten l.fn.out.items (take l.i l.schedules) l.out.items;
  end : l.i-end ≡ length l.schedules;
}
