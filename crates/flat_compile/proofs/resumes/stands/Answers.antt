use Rattle.std.proofs.Common.{ℕ, ◌*◌, ◌+◌, ◌≡◌, List, sym, subst, arith}
use Rattle.rv64_codegen.specs.Plans.{plan_of}
use Rattle.rv64_codegen.proofs.Public.{first_below}
use Rattle.flat_compile.specs.links.ResumePlacesByNode.{thread_in, AreStandsBelow}
use Rattle.flat_compile.specs.declared.resumes.Stand.{Stand}
use Rattle.flat_compile.proofs.ResumeAddresses.{begun, before_more, after_more}
use Rattle.flat_compile.proofs.resumes.stands.Goals as goal

pub loop-node-init : goal.loop-node-init
loop-node-init c =
    let p = plan_of c.args.plan.now in
    let t = thread_in p c.args.number c.args.part in
    subst (λ (ns : List Stand). AreStandsBelow p t (2 * c.args.part.first) ns) (sym c.new-stands.ensures.items) (begun p t)

pub loop-node-preserved : goal.loop-node-preserved
loop-node-preserved c =
    let p = plan_of c.args.plan.now in
    let t = thread_in p c.args.number c.args.part in
    let node = c.loop-node.node in
    let half = subst (λ (ns : List Stand). AreStandsBelow p t (2 * node + 1) ns) (sym c.in_ok-push_some.ensures)
    (before_more p t node c.loop-node.stands.items c.before-in-loop-node.result c.loop-node.invariant c.before-in-loop-node.ensures) in
    subst (λ (ns : List Stand). AreStandsBelow p t (2 * (node + 1)) ns) (sym c.in_ok-push_some-2.ensures)
    (after_more p t node c.push_some.new.stands.items c.after.result half c.after.ensures)

pub returns : goal.returns
returns c =
    let p = plan_of c.args.plan.now in
    let t = thread_in p c.args.number c.args.part in
    let first = first_below p c.requires.plan t c.requires.thread in
    let end : c.loop-node.node ≡ c.args.part.end = omega (arith, c.loop-node-test.false, c.loop-node.auto.node-end (omega (arith, first))) in
    subst (λ (n : ℕ). AreStandsBelow p t (2 * n) c.loop-node.stands.items) end c.loop-node.invariant
