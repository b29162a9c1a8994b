use Rattle.std.proofs.Common.{sym, ◌∙◌}
use Rattle.line_memory.proofs.CellLoopSteps.{only_listed}
use Rattle.line_memory.proofs.lines.crash.Goals as goal

pub returns-then-is_all : goal.returns-then-is_all
returns-then-is_all c = λ words stores s changed. c.crash_all.ensures words stores s

pub returns-else-is_all : goal.returns-else-is_all
returns-else-is_all c =
    λ words stores s changed. c.crash_some.ensures words stores s
    (λ i more. only_listed c.args.changes.now c.numbers.result.now i (sym c.is_all.ensures ∙ c.if-is_all.false) c.numbers.ensures (changed i more))
