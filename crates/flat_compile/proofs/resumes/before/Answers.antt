use Rattle.rv64_codegen.specs.Plans.{plan_of}
use Rattle.flat_compile.specs.links.ResumePlacesByNode.{thread_in}
use Rattle.flat_compile.proofs.ResumedNodes.{exists}
use Rattle.flat_compile.proofs.ResumeAddresses.{chosen_before}
use Rattle.flat_compile.proofs.resumes.before.Goals as goal

pub is_chosen-requires-clause-node : goal.is_chosen-requires-clause-node
is_chosen-requires-clause-node c = exists c.args.plan.now c.args.number c.args.part c.args.node c.requires

pub returns-then-is_chosen : goal.returns-then-is_chosen
returns-then-is_chosen c =
    let p = plan_of c.args.plan.now in
    chosen_before p (thread_in p c.args.number c.args.part) c.args.node c.requires.own (c.is_chosen.ensures.0 c.if-is_chosen.true)
