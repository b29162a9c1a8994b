use Rattle.std.proofs.Common.{arith, ◌∙◌}
use Rattle.line_memory.proofs.NewCells.{IsCopied-set, IsCopied-past, from_le_bytes-copied}
use Rattle.line_memory.proofs.making.word_from.Goals as goal
use Rattle.line_memory.proofs.making.word_from.Goals.{then-at-k, else-at-k}

pub loop-k-preserved : goal.loop-k-preserved
loop-k-preserved c = elim c.if-at-k.branch [
  | then-at-k w ↦ rw w.word-is (IsCopied-set c.loop-k.word c.args.bytes.now c.args.at c.loop-k.k (omega arith) c.loop-k.invariant)
  | else-at-k w ↦ rw w.word-is (IsCopied-past c.loop-k.word c.args.bytes.now c.args.at c.loop-k.k (omega arith) c.loop-k.invariant)
]

pub returns : goal.returns
returns c = c.from_le_bytes.ensures ∙ from_le_bytes-copied c.loop-k.word c.args.bytes.now c.args.at c.loop-k.k (omega arith) c.loop-k.invariant
