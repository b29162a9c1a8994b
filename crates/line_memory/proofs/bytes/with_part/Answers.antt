use Rattle.std.proofs.Common.{arith}
use Rattle.line_memory.proofs.WordParts.{with_part-shifts, with_part-below}
use Rattle.line_memory.proofs.bytes.with_part.Goals as goal

pub overflow_add-result : goal.overflow_add-result
overflow_add-result c =
    rw (c.part-old.ensures, c.low_bytes.ensures, with_part-shifts c.args.value c.args.byte c.args.count c.args.new c.requires.fits)
    (omega (arith, with_part-below c.args.value c.args.byte c.args.count c.args.new c.ranges.value.fits c.requires.fits))

pub returns : goal.returns
returns c = rw (c.part-old.ensures, c.low_bytes.ensures) (with_part-shifts c.args.value c.args.byte c.args.count c.args.new c.requires.fits)
