-- The sets that are held are those of the graph's threads, so boundaries can be made of them.
use Rattle.flat_compile.proofs.Plans.{sets_of}
use Rattle.flat_compile.proofs.compile.boundaries.Goals as goal

pub cut_each_write-requires : goal.cut_each_write-requires
cut_each_write-requires c = sets_of c.args.log c.args.analysis.now c.requires
