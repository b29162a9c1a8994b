use Rattle.std.proofs.Common.{◌≡◌, ◌≤◌, length, take}
use Rattle.c_typer.proofs.scope.Scope.leave.Given as goal

abbrev pub invariant-loop-outer : goal.invariant-loop-outer
invariant-loop-outer l = record {
  least : l.outer.known ≤ length l.self.known.items;
  most : length l.self.known.items ≤ length l.fn.self.known.items;
  known : l.self.known.items ≡ take (length l.self.known.items) l.fn.self.known.items;
  mark : l.self.mark ≡ l.outer.mark;
  kinds : l.self.kinds ≡ l.fn.self.kinds;
  refers : l.self.refers ≡ l.fn.self.refers;
}

abbrev pub decreases-loop-outer : goal.decreases-loop-outer
decreases-loop-outer l = length l.self.known.items
