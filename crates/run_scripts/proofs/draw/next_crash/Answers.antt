use Rattle.std.proofs.Common.{◌==◌, count_by, sym, ◌∙◌, arith}
use Rattle.std.proofs.lemmas.List.{at_drop_all}
use Rattle.run_scripts.proofs.DrawnRuns.{not_met}
use Rattle.run_scripts.proofs.draw.next_crash.Goals as goal
use Rattle.run_scripts.proofs.draw.next_crash.Goals.{then-crash-draws, else-crash-draws}

pub loop-crash-preserved : goal.loop-crash-preserved
loop-crash-preserved c = λ k from below.
    let cs = c.args.crashes.now in
    let i = c.loop-crash.crash-index in
    elim c.if-crash-draws.branch [
      | then-crash-draws w ↦ not_met cs i k _ c.loop-crash-test.true (λ e. omega arith) (c.loop-crash.invariant k from (omega arith))
      | else-crash-draws w ↦ not_met cs i k _ c.loop-crash-test.true (λ e. omega arith) (c.loop-crash.invariant k from (omega arith))
    ]

pub returns : goal.returns
returns c = λ k from below.
    sym (c.loop-crash.invariant k from below) ∙ at_drop_all (λ cs. count_by (λ c. c == k) cs) c.args.crashes.now c.loop-crash.crash-index
    c.loop-crash-test.false
