use Rattle.std.proofs.Common.{◌≤◌, ◌-◌, length, take}
use Rattle.ido_outside.specs.Sink.{Adds}
use Rattle.ido_outside.proofs.sink.write_all.Given as goal

-- the bytes so far were added, and the count of faults has not fallen
abbrev pub invariant-loop-done : goal.invariant-loop-done
invariant-loop-done g l = record {
  within : l.done ≤ length l.bytes;
  added : Adds (g.K.Sink.written l.initial.sink) (g.K.Sink.written l.sink) (take l.done l.bytes);
  later : g.K.Sink.faults l.initial.sink ≤ g.K.Sink.faults l.sink;
}

abbrev pub decreases-loop-done : goal.decreases-loop-done
decreases-loop-done g l = length l.bytes - l.done
