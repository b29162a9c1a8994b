use Rattle.std.proofs.Common.{sym, subst, rules}
use Rattle.node_code.specs.declared.kept.KeptLocks.{KeptLocks}
use Rattle.node_code.specs.Pieces.{MayKeep}
use Rattle.node_code.proofs.MadeBoundaries.{none_in}
use Rattle.node_code.proofs.kept.KeptLocks.is_none.Goals as goal

pub returns-in-Mask : goal.returns-in-Mask
returns-in-Mask c = λ locks may.
    sym (none_in c.in-Mask.mask locks (search rules) (subst (λ (kept : KeptLocks). MayKeep kept locks) c.in-Mask.is may))
