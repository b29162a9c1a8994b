use Rattle.std.proofs.Common.{◌+◌, ◌*◌}
use Rattle.hart_driver.proofs.sweep.+halves.Given as goal

abbrev pub decreases-outcomes_from : goal.decreases-outcomes_from
decreases-outcomes_from g l = 2 * l.count

abbrev pub decreases-front : goal.decreases-front
decreases-front g l = 2 * l.low + 1

abbrev pub decreases-back : goal.decreases-back
decreases-back g l = 2 * l.high + 1
