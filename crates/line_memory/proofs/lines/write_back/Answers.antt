use Rattle.std.proofs.Common.{arith}
use Rattle.line_memory.proofs.lines.write_back.Goals as goal

pub returns-then-base-cells : goal.returns-then-base-cells
returns-then-base-cells c = λ words stores entry s kept. rw (kept.line, kept.positions) (c.write_words_back.ensures words stores s kept.kept)

pub returns-else-base-cells : goal.returns-else-base-cells
returns-else-base-cells c = λ words stores entry s kept. absurd (omega (arith, s.size, kept.exists))
