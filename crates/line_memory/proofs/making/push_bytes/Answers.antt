use Rattle.std.proofs.Common.{arith}
use Rattle.line_memory.proofs.NewCells.{push_bytes_step}
use Rattle.line_memory.proofs.making.push_bytes.Goals as goal

pub loop-i-preserved : goal.loop-i-preserved
loop-i-preserved c = record {
  items =
      push_bytes_step c.args.cells.now.items c.loop-i.cells.items c.push.new.self.items c.args.bytes.now c.loop-i.i c.word_from.result c.of.result
      c.loop-i.invariant.items c.in_ok-push.ensures.items c.of.ensures c.word_from.ensures;
  len = omega (arith, c.in_ok-push.ensures.len, c.loop-i.invariant.len);
}
