use Rattle.std.proofs.Common.{◌≡◌, ◌+◌, drop}
use Rattle.ido_base.specs.Locks.{mask_with}
use Rattle.image_checks.proofs.bank.mask_with.Given as goal

abbrev pub invariant-loop-number : goal.invariant-loop-number
invariant-loop-number l = l.mask + mask_with (drop l.number-index l.numbers) ≡ mask_with l.numbers
