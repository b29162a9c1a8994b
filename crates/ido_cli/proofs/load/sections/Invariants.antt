use Rattle.std.proofs.Common.{◌≡◌, ◌*◌, ◌^◌, ◌≤◌, take}
use Rattle.std.specs.Prelude.{sum}
use Rattle.ido_cli.proofs.load.sections.Given as goal

abbrev pub invariant-loop-sections : goal.invariant-loop-sections
invariant-loop-sections l = record {
  so_far : l.sum ≡ sum (take l.sections-index l.ended);
  few : l.sum ≤ l.sections-index * 2 ^ 64;
}
