use Rattle.std.proofs.Common.{◌≡◌, ◌∙◌, ℕ, ◌+◌, ◌<◌, List, length, refl, sym, ap, ap₂, subst, arith}
use Rattle.std.proofs.lemmas.Result.{IfOk-weaker}
use Rattle.c_tree.specs.Exprs.{placed_of}
use Rattle.c_tree.specs.Flats as f
use Rattle.c_tree.specs.declared.flat.Statement.{Statement}
use Rattle.c_tree.specs.declared.flat.Arm.{Arm}
use Rattle.c_tree.proofs.Public.{flat_rows_of_while as of_while, flat_rows_of_do as of_do, flat_rows_of_if as of_if}
use Rattle.flow_graph.specs.Lowering.{entry, statement_nodes, statements_nodes, arms_nodes, arms_count, statements_count}
use Rattle.flow_lower.specs.links.Growth.{Adds}
use Rattle.flow_lower.specs.links.Tables.{table_from}
use Rattle.flow_lower.proofs.AddedNodes as g
use Rattle.flow_lower.proofs.lowering.+lowering.Goals as goal

pub lower_all-loop-statement-preserved : goal.lower_all-loop-statement-preserved
lower_all-loop-statement-preserved t c =
    g.next_statement (table_from c.args.table.now) c.args.nodes.now.items c.loop-statement.nodes.items c.lower_statement.new.nodes.items c.args.statements.now
    c.loop-statement.statement-index c.statement-item.result c.args.next
    c.in_ok-end.end c.in_ok-following.following c.entry.result (omega arith) c.statement-item.is c.loop-statement.invariant
    (omega (arith, c.in_ok-following.ensures, c.len-in-loop-statement.ensures, c.loop-statement.nodes.ok.0, c.in_ok-own.ensures)) c.entry.ensures
    c.in_ok-lower_statement.ensures

pub lower_all-returns : goal.lower_all-returns
lower_all-returns t c =
    g.no_statement_left (table_from c.args.table.now) c.args.nodes.now.items c.loop-statement.nodes.items c.args.statements.now c.loop-statement.statement-index
    c.args.next c.in_ok-end.end
    (omega arith) c.loop-statement.invariant

pub lower_arms-loop-arm-preserved : goal.lower_arms-loop-arm-preserved
lower_arms-loop-arm-preserved t c =
    let x = c.arm-item.result in
    let same : c.deref.result.now ≡ x.body.items = c.deref.ensures.value in
    g.next_arm (table_from c.args.table.now) c.args.nodes.now.items c.loop-arm.nodes.items c.push.new.self.items c.lower_all.new.nodes.items
    (record { place = c.args.place; last = c.args.last; next = c.args.next }) c.args.arms.now
    c.loop-arm.arm-index x c.deref-in-loop-arm.result.now c.in_ok-end.end (omega arith) c.arm-item.is c.deref-in-loop-arm.ensures.value c.loop-arm.invariant
    (record {
      inside = c.in_ok-inside.inside;
      following = c.in_ok-following.following;
      holds = c.entry-holds.result;
      fails = c.entry-fails.result;
      node = c.in_ok-test.field-0;
      first = omega (arith, c.in_ok-inside.ensures, c.len-in-loop-arm.ensures, c.loop-arm.nodes.ok.0);
      then =
          c.in_ok-following.ensures ∙ ap (λ (n : ℕ). c.in_ok-inside.inside + n)
          (c.in_ok-count.ensures ∙ ap (λ (ys : List Statement). statements_count (f.statements_of ys)) same);
      to_body = c.entry-holds.ensures;
      to_rest = c.entry-fails.ensures;
      added = c.in_ok-push.ensures.items;
      tests = c.in_ok-test.ensures;
    })
    c.in_ok-lower_all.ensures

pub lower_arms-returns : goal.lower_arms-returns
lower_arms-returns t c =
    g.no_arm_left (table_from c.args.table.now) c.args.nodes.now.items c.loop-arm.nodes.items
    (record { place = c.args.place; last = c.args.last; next = c.args.next }) c.args.arms.now
    c.loop-arm.arm-index c.in_ok-end.end (omega arith) c.loop-arm.invariant

pub lower_statement-returns-in_ok-lower_arms-in-If : goal.lower_statement-returns-in_ok-lower_arms-in-If
lower_statement-returns-in_ok-lower_arms-in-If t c =
    let w = c.in-If in
    let old = c.args.nodes.now.items in
    let mid = c.lower_arms.new.nodes.items in
    let new = c.lower_all.new.nodes.items in
    let view : f.statement_of c.args.statement.now ≡ f.If w.place (f.arms_list_of w.arms.items) (f.statements_of w.otherwise.items) =
    ap f.statement_of w.is ∙ of_if w.place w.arms w.otherwise in
    let long : c.len.result ≡ length old = omega (arith, c.len.ensures, c.args.nodes.now.ok.0) in
    let e : c.in_ok-last-in-If.last ≡ entry (statements_count (f.statements_of w.otherwise.items))
    (length old + arms_count (f.arms_list_of w.arms.items)) c.args.next =
    c.in_ok-last-in-If.ensures
    ∙ ap₂ (λ (os : List Statement) (arms : List Arm).
    entry (statements_count (f.statements_of os)) (c.len.result + arms_count (f.arms_list_of arms)) c.args.next) c.deref-in-If.ensures.value
    c.deref.ensures.value
    ∙ ap (λ (n : ℕ). entry (statements_count (f.statements_of w.otherwise.items)) (n + arms_count (f.arms_list_of w.arms.items)) c.args.next) long in
    let P : List Arm → Type 0 = λ arms.
    Adds old mid (arms_nodes (table_from c.args.table.now) (f.arms_list_of arms) w.place c.in_ok-last-in-If.last (length old) c.args.next) in
    let h : P w.arms.items = subst P c.deref-in-If-2.ensures.value c.in_ok-lower_arms-in-If.ensures in
    let Q : List Statement → Type 0 = λ os. Adds mid new (statements_nodes (table_from c.args.table.now) (f.statements_of os) (length mid) c.args.next) in
    rw view (IfOk-weaker c.lower_all.result (λ _. Q c.deref-in-If-3.result.now) _ (λ _ k.
    g.adds_if (table_from c.args.table.now) old mid new w.place (f.arms_list_of w.arms.items) (f.statements_of w.otherwise.items)
    c.in_ok-last-in-If.last c.args.next e h
    (subst Q c.deref-in-If-3.ensures.value k)) c.lower_all.ensures)

pub lower_statement-returns-in-While : goal.lower_statement-returns-in-While
lower_statement-returns-in-While t c =
    let w = c.in-While in
    let old = c.args.nodes.now.items in
    let new = c.lower_while.new.nodes.items in
    let view : f.statement_of c.args.statement.now ≡ f.While w.place (placed_of w.condition) (f.statements_of w.body.items) =
    ap f.statement_of w.is ∙ of_while w.place w.condition w.body in
    let Q : List Statement → Type 0 = λ ys.
    Adds old new (statement_nodes (table_from c.args.table.now) (f.While w.place (placed_of w.condition) (f.statements_of ys)) (length old) c.args.next) in
    rw view (IfOk-weaker c.lower_while.result (λ _. Q c.deref-in-While.result.now) _ (λ _ k. subst Q c.deref-in-While.ensures.value k) c.lower_while.ensures)

pub lower_statement-returns-in-Do : goal.lower_statement-returns-in-Do
lower_statement-returns-in-Do t c =
    let w = c.in-Do in
    let old = c.args.nodes.now.items in
    let new = c.lower_do.new.nodes.items in
    let view : f.statement_of c.args.statement.now ≡ f.Do w.place (f.statements_of w.body.items) (placed_of w.condition) =
    ap f.statement_of w.is ∙ of_do w.place w.body w.condition in
    let Q : List Statement → Type 0 = λ ys.
    Adds old new (statement_nodes (table_from c.args.table.now) (f.Do w.place (f.statements_of ys) (placed_of w.condition)) (length old) c.args.next) in
    rw view (IfOk-weaker c.lower_do.result (λ _. Q c.deref-in-Do.result.now) _ (λ _ k. subst Q c.deref-in-Do.ensures.value k) c.lower_do.ensures)
