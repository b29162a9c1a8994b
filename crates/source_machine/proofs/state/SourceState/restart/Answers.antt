use Rattle.std.proofs.Common.{◌≡◌, ◌∙◌, ℕ, Option, None, length, ap, subst, arith}
use Rattle.std.proofs.lemmas.List.{length-replicate}
use Rattle.source_machine.proofs.RestartedStates.{Restarted, all_restarted, run_kept}
use Rattle.source_machine.proofs.state.SourceState.restart.Goals as goal

pub returns-clause-anew : goal.returns-clause-anew
returns-clause-anew c =
    let before = c.args.self.now in
    let after = c.loop-thread.self in
    let i = c.loop-thread.invariant in
    let all : c.loop-thread.thread ≡ length after.threads.items =
    omega (arith, c.loop-thread-test.false, c.loop-thread.auto.thread-end, c.len-thread-end.ensures, i.code.count, before.threads.ok.0) in
    all_restarted before after i.variables i.holders i.sections i.code (subst (Restarted after.threads.items) all i.done)

pub returns-clause-run : goal.returns-clause-run
returns-clause-run c =
    let i = c.loop-thread.invariant in
    let none : Option ℕ = None in
    run_kept c.args.self.now c.loop-thread.self i.code (ap length i.holders ∙ length-replicate (length c.args.self.now.holders.items) none)
