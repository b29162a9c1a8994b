use Rattle.c_inline.proofs.CallDepth.{deeper, whole_bodies}
use Rattle.c_inline.proofs.laws.depth_is_enough.Goals as goal

pub returns-clause-deeper : goal.returns-clause-deeper
returns-clause-deeper c = deeper

pub returns-clause-whole : goal.returns-clause-whole
returns-clause-whole c = whole_bodies
