use Rattle.std.proofs.Common.{arith}
use Rattle.rv64_codegen.specs.Plans.{plan_of}
use Rattle.rv64_codegen.proofs.Public.{held_there, held_sets, few_nodes}
use Rattle.flat_compile.specs.links.ResumePlacesByNode.{thread_in}
use Rattle.flat_compile.proofs.resumes.count.Goals as goal

pub overflow_cast-node : goal.overflow_cast-node
overflow_cast-node c =
    let p = plan_of c.args.plan.now in
    let is = c.requires.is in
    let own = c.requires.own in
    omega (arith, own.below_end, few_nodes p is.plan (thread_in p c.args.number c.args.part) is.thread)

pub count-requires-clause-thread : goal.count-requires-clause-thread
count-requires-clause-thread c =
    let p = plan_of c.args.plan.now in
    let is = c.requires.is in
    held_there p is.plan (thread_in p c.args.number c.args.part) is.thread

pub count-requires-clause-step : goal.count-requires-clause-step
count-requires-clause-step c =
    let p = plan_of c.args.plan.now in
    let is = c.requires.is in
    omega (arith, held_sets p is.plan (thread_in p c.args.number c.args.part) is.thread c.args.node c.requires.own)

pub returns : goal.returns
returns c = c.count.ensures
