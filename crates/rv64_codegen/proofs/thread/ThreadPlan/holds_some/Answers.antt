use Rattle.std.proofs.Common.{arith, ap, sym, ◌∙◌, not, nat_eq, ℕ}
use Rattle.rv64_codegen.specs.links.Threads.{plan_in, thread_of}
use Rattle.rv64_codegen.proofs.PlannedNodes.{held_there, held_sets}
use Rattle.rv64_codegen.proofs.LoggedNodes.{none_held}
use Rattle.rv64_codegen.proofs.NodePieces.{label_at}
use Rattle.rv64_codegen.proofs.thread.ThreadPlan.holds_some.Goals as goal

pub overflow_cast-step : goal.overflow_cast-step
overflow_cast-step c = omega (arith, label_at c.args.self.now c.args.node c.requires)

pub count-requires-clause-thread : goal.count-requires-clause-thread
count-requires-clause-thread c =
    let x = c.args.self.now in
    let o = c.requires.open_is in
    held_there (plan_in x) o.plan (thread_of x) o.thread

pub count-requires-clause-step : goal.count-requires-clause-step
count-requires-clause-step c =
    let x = c.args.self.now in
    let o = c.requires.open_is in
    omega (arith, held_sets (plan_in x) o.plan (thread_of x) o.thread c.args.node c.requires.own)

pub returns : goal.returns
returns c =
    ap (λ (n : ℕ). not (nat_eq n 0)) c.count.ensures ∙ ap not (sym (none_held c.args.self.now c.requires.open_is c.args.node c.requires.own))
