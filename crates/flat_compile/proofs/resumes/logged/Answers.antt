use Rattle.std.proofs.Common.{◌∙◌, sym, subst, arith, Option}
use Rattle.flow_graph.specs.Nodes.{node_of}
use Rattle.recovered_threads.specs.RecordDescriptions.{the_core}
use Rattle.rv64_codegen.specs.Plans.{plan_of}
use Rattle.flat_compile.specs.declared.resumes.Assignment.{Assignment}
use Rattle.flat_compile.specs.links.ResumePlacesByNode.{thread_in, IsNext}
use Rattle.flat_compile.proofs.ResumedNodes.{exists, at_node}
use Rattle.flat_compile.proofs.ResumeAddresses.{names_none, none_held}
use Rattle.flat_compile.proofs.LoggedAssignments.{next_here, none_in_registers, none_outside}
use Rattle.flat_compile.proofs.resumes.logged.Goals as goal

pub index-requires : goal.index-requires
index-requires c = omega (arith, exists c.args.plan.now c.args.number c.args.part c.args.node c.requires, c.args.plan.now.graph.now.nodes.ok.0)

pub returns-in-Registers : goal.returns-in-Registers
returns-in-Registers c =
    let p = plan_of c.args.plan.now in
    none_in_registers p (thread_in p c.args.number c.args.part) c.args.node (sym c.locals.ensures ∙ c.in-Registers.is)

pub returns-then-count-eq0 : goal.returns-then-count-eq0
returns-then-count-eq0 c =
    let p = plan_of c.args.plan.now in
    let t = thread_in p c.args.number c.args.part in
    none_outside p t c.args.node
    (names_none p t c.requires.is.plan c.requires.is.thread c.args.node c.requires.own (sym c.count.ensures ∙ c.if-count-eq0.true))

pub returns-else-count-eq0 : goal.returns-else-count-eq0
returns-else-count-eq0 c =
    let q = c.args.plan.now in
    let p = plan_of q in
    let t = thread_in p c.args.number c.args.part in
    let is = node_of c.index.result.now in
    let at = at_node q c.args.number c.args.part c.args.node c.requires c.index.result.now c.index.ensures in
    subst (λ (o : Option Assignment). IsNext p t c.args.node the_core o) (sym c.assignment_in.ensures)
    (next_here p t c.args.node is at (sym c.locals.ensures ∙ c.in-Frame.is)
    (λ none. c.if-count-eq0.false (c.count.ensures ∙ none_held p t c.requires.is.plan c.requires.is.thread c.args.node c.requires.own none)))
