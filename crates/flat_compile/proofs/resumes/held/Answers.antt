use Rattle.std.proofs.Common.{◌≡◌, List, Bool, subst, arith, IfOk}
use Rattle.thread_code.specs.Plans.{locks_held}
use Rattle.rv64_codegen.specs.Plans.{plan_of}
use Rattle.rv64_codegen.proofs.Public.{held_there, held_sets, few_nodes}
use Rattle.flat_compile.specs.links.ResumePlacesByNode.{thread_in}
use Rattle.flat_compile.proofs.resumes.held.Goals as goal

pub overflow_cast-node : goal.overflow_cast-node
overflow_cast-node c =
    let p = plan_of c.args.plan.now in
    let is = c.requires.is in
    let own = c.requires.own in
    omega (arith, own.below_end, few_nodes p is.plan (thread_in p c.args.number c.args.part) is.thread)

pub before-held-requires-clause-thread : goal.before-held-requires-clause-thread
before-held-requires-clause-thread c =
    let p = plan_of c.args.plan.now in
    let is = c.requires.is in
    held_there p is.plan (thread_in p c.args.number c.args.part) is.thread

pub before-held-requires-clause-step : goal.before-held-requires-clause-step
before-held-requires-clause-step c =
    let p = plan_of c.args.plan.now in
    let is = c.requires.is in
    omega (arith, held_sets p is.plan (thread_in p c.args.number c.args.part) is.thread c.args.node c.requires.own)

pub returns : goal.returns
returns c =
    subst (λ (set : List Bool). IfOk c.numbers_of.result (λ r. r.items ≡ locks_held set)) c.before-held.ensures.is c.numbers_of.ensures
