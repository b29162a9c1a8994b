use Rattle.std.proofs.Common.{◌≤◌, length}
use Rattle.c_inline.proofs.rank.walk_all.Given as goal

abbrev pub invariant-loop : goal.invariant-loop
invariant-loop l = l.next ≤ length l.calls
