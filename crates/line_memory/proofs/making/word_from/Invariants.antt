use Rattle.line_memory.proofs.NewCells.{IsCopied}
use Rattle.line_memory.proofs.making.word_from.Given as goal

abbrev pub invariant-loop-k : goal.invariant-loop-k
invariant-loop-k l = IsCopied l.word l.bytes l.at l.k
