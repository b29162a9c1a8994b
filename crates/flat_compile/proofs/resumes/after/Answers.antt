use Rattle.std.proofs.Common.{ap, sym, ◌∙◌, arith}
use Rattle.c_tree.specs.Exprs.{lock_name_of}
use Rattle.flow_graph.specs.Nodes.{action_of, node_of}
use Rattle.rv64_codegen.specs.Plans.{plan_of}
use Rattle.flat_compile.specs.links.ResumePlacesByNode.{thread_in}
use Rattle.flat_compile.proofs.ResumedNodes.{exists, at_node, passing}
use Rattle.flat_compile.proofs.ResumeAddresses.{locks, unlocks, frees, none_held, names_none, passes, unlock_own}
use Rattle.flat_compile.proofs.resumes.after.Goals as goal

pub index-requires : goal.index-requires
index-requires c = omega (arith, exists c.args.plan.now c.args.number c.args.part c.args.node c.requires, c.args.plan.now.graph.now.nodes.ok.0)

pub count-requires : goal.count-requires
count-requires c =
    let q = c.args.plan.now in
    let p = plan_of q in
    let is = node_of c.index.result.now in
    record {
      is = c.requires.is;
      own =
          unlock_own p (thread_in p c.args.number c.args.part) c.requires.is.plan c.requires.is.thread c.args.node (lock_name_of c.in-Unlock.lock.now)
          c.in-Unlock.next is
          c.requires.own (at_node q c.args.number c.args.part c.args.node c.requires c.index.result.now c.index.ensures) (ap action_of c.in-Unlock.is);
    }

pub returns-in-Lock : goal.returns-in-Lock
returns-in-Lock c =
    let q = c.args.plan.now in
    let p = plan_of q in
    locks p (thread_in p c.args.number c.args.part) c.args.node (node_of c.index.result.now) c.requires.own
    (at_node q c.args.number c.args.part c.args.node c.requires c.index.result.now c.index.ensures) (lock_name_of c.in-Lock.lock.now) c.in-Lock.next
    (ap action_of c.in-Lock.is)

pub returns-then-count-eq0 : goal.returns-then-count-eq0
returns-then-count-eq0 c =
    let q = c.args.plan.now in
    let p = plan_of q in
    let t = thread_in p c.args.number c.args.part in
    let is = node_of c.index.result.now in
    let at = at_node q c.args.number c.args.part c.args.node c.requires c.index.result.now c.index.ensures in
    let lock = lock_name_of c.in-Unlock.lock.now in
    let own = unlock_own p t c.requires.is.plan c.requires.is.thread c.args.node lock c.in-Unlock.next is c.requires.own at (ap action_of c.in-Unlock.is) in
    frees p t c.args.node is c.requires.own at lock c.in-Unlock.next (ap action_of c.in-Unlock.is)
    (names_none p t c.requires.is.plan c.requires.is.thread c.in-Unlock.next own (sym c.count.ensures ∙ c.if-count-eq0.true))

pub returns-else-count-eq0 : goal.returns-else-count-eq0
returns-else-count-eq0 c =
    let q = c.args.plan.now in
    let p = plan_of q in
    let t = thread_in p c.args.number c.args.part in
    let is = node_of c.index.result.now in
    let at = at_node q c.args.number c.args.part c.args.node c.requires c.index.result.now c.index.ensures in
    let lock = lock_name_of c.in-Unlock.lock.now in
    let own = unlock_own p t c.requires.is.plan c.requires.is.thread c.args.node lock c.in-Unlock.next is c.requires.own at (ap action_of c.in-Unlock.is) in
    unlocks p t c.args.node is c.requires.own at lock c.in-Unlock.next (ap action_of c.in-Unlock.is)
    (λ none. c.if-count-eq0.false (c.count.ensures ∙ none_held p t c.requires.is.plan c.requires.is.thread c.in-Unlock.next own none))

pub returns-in_default : goal.returns-in_default
returns-in_default c =
    let q = c.args.plan.now in
    let p = plan_of q in
    passes p (thread_in p c.args.number c.args.part) c.args.node (node_of c.index.result.now) c.requires.own
    (at_node q c.args.number c.args.part c.args.node c.requires c.index.result.now c.index.ensures)
    (passing c.index.result.now.action c.in_default.not-Lock c.in_default.not-Unlock)
