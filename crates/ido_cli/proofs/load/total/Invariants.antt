use Rattle.std.proofs.Common.{◌≡◌, ◌*◌, ◌^◌, drop}
use Rattle.std.specs.Prelude.{◌+ℤ◌, ◌≤ℤ◌, neg_ℤ, pos}
use Rattle.ido_cli.specs.Loads.{total}
use Rattle.ido_cli.proofs.load.total.Given as goal

abbrev pub invariant-loop-number : goal.invariant-loop-number
invariant-loop-number l = record {
  so_far : l.sum +ℤ total (drop l.number-index l.numbers) ≡ total l.numbers;
  above : neg_ℤ (pos (l.number-index * 2 ^ 64)) ≤ℤ l.sum;
  below : l.sum ≤ℤ pos (l.number-index * 2 ^ 64);
}
