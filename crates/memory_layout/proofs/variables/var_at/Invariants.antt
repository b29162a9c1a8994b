use Rattle.std.proofs.Common.{◌≡◌, take}
use Rattle.ido_base.specs.Layout.{end_from}
use Rattle.memory_layout.proofs.variables.var_at.Given as goal

abbrev pub invariant-loop-shape : goal.invariant-loop-shape
invariant-loop-shape l = l.end ≡ end_from 0 (take l.shape-index l.earlier)
