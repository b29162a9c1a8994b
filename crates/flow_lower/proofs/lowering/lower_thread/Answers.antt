use Rattle.std.proofs.Common.{◌≡◌, ℕ, suc, ◌+◌, List, length, ap, arith}
use Rattle.c_tree.specs.Flats as f
use Rattle.c_tree.specs.declared.flat.Statement.{Statement}
use Rattle.flow_graph.specs.Lowering.{statements_count}
use Rattle.flow_lower.proofs.AddedNodes as g
use Rattle.flow_lower.proofs.lowering.lower_thread.Goals as goal

pub returns-clause-part : goal.returns-clause-part
returns-clause-part c =
    let old = c.args.nodes.now.items in
    let mid = c.lower_all.new.nodes.items in
    let inner = g.all_long old mid _ (f.statements_of c.deref-6.result.now) c.in_ok-last.last c.in_ok-lower_all.ensures in
    let same = ap (λ (ys : List Statement). statements_count (f.statements_of ys)) c.deref-6.ensures.value in
    let one = g.length_pushed mid c.push.new.self.items c.plain.result c.in_ok-push.ensures.items in
    g.part_is (f.thread_of c.args.thread.now) (length old) c.len-first.result c.len.result c.len-2.result
    (omega (arith, c.len-first.ensures, c.args.nodes.now.ok.0))
    (omega (arith, inner, same, one, c.len.ensures, c.push.new.self.ok.0)) (omega (arith, c.len-2.ensures, c.args.thread.now.locals.ok.0))
