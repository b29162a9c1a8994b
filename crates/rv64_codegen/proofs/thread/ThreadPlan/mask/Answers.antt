use Rattle.std.proofs.Common.{◌∙◌, ap, arith, length}
use Rattle.lock_discipline.specs.Masks.{mask_of}
use Rattle.rv64_codegen.specs.links.Threads.{plan_in, thread_of}
use Rattle.rv64_codegen.proofs.PlannedNodes.{held_there, held_sets, few_held}
use Rattle.rv64_codegen.proofs.NodePieces.{label_at}
use Rattle.rv64_codegen.proofs.thread.ThreadPlan.mask.Goals as goal

pub overflow_cast-step : goal.overflow_cast-step
overflow_cast-step c = omega (arith, label_at c.args.self.now c.args.node c.requires.own)

pub before-requires-clause-thread : goal.before-requires-clause-thread
before-requires-clause-thread c =
    let x = c.args.self.now in
    let o = c.requires.own.open_is in
    held_there (plan_in x) o.plan (thread_of x) o.thread

pub before-requires-clause-step : goal.before-requires-clause-step
before-requires-clause-step c =
    let x = c.args.self.now in
    let o = c.requires.own.open_is in
    omega (arith, held_sets (plan_in x) o.plan (thread_of x) o.thread c.args.node c.requires.own.own)

pub mask_of-requires : goal.mask_of-requires
mask_of-requires c =
    let x = c.args.self.now in
    let o = c.requires.own.open_is in
    let few = few_held (plan_in x) o.plan (thread_of x) o.thread c.requires.keeping c.args.node c.requires.own.own in
    omega (arith, ap length c.before-2.ensures.is, few)

pub returns : goal.returns
returns c = c.mask_of.ensures ∙ ap mask_of c.before-2.ensures.is
