use Rattle.std.proofs.Common.{◌≡◌, ◌∙◌, ◌<◌, List, [], ◌∷◌, ap, sym, subst, refl, arith, length, length-append}
use Rattle.std.proofs.lemmas.Bool.Decides.{nat_tests}
use Rattle.std.specs.Prelude.{IfOk}
use Rattle.c_tree.specs.Exprs.{placed_of, lvalue_of, lock_name_of}
use Rattle.c_tree.specs.Flats as f
use Rattle.c_tree.specs.declared.flat.Statement.{Statement}
use Rattle.c_tree.specs.declared.flat.Arm.{Arm}
use Rattle.source_machine.specs.declared.code.Node.TheVariants as node
use Rattle.c_tree.specs.Source.{opened, opened_all}
use Rattle.c_tree.proofs.Public.{flat_rows_of_while as of_while, flat_rows_of_do as of_do, flat_rows_of_if as of_if}
use Rattle.source_machine.specs.links.Codes.{Emits, EmitsLoop, EmitsArms}
use Rattle.source_machine.proofs.Emission.{emits_longer, emits_loop, ok_node, ok_never, ok_if, ok_test, all_none, all_more, arms_none, arms_more}
use Rattle.source_machine.proofs.code.+emission.Goals as goal

pub emit-returns-in-Assign : goal.emit-returns-in-Assign
emit-returns-in-Assign t c =
    let w = c.in-Assign in
    rw w.is (ok_node _ _ _ _ (f.Assign w.place (lvalue_of w.target) (placed_of w.value) ∷ []) c.args.next c.push.ensures
    (λ all rest at. record { place = w.place; rest = rest; follows = at; is = refl }))

pub emit-returns-then-is_empty : goal.emit-returns-then-is_empty
emit-returns-then-is_empty t c =
    let w = c.in-If in
    let view : opened (f.statement_of c.args.statement.now) ≡ f.If w.place (f.arms_list_of w.arms.items) (f.statements_of w.otherwise.items) ∷ [] =
    ap opened (ap f.statement_of w.is ∙ of_if w.place w.arms w.otherwise) in
    let e = c.if-is_empty.ensures in
    let none : length w.arms.items ≡ 0 = grind (arith, nat_tests, e, w.arms.ok.0) in
    rw view (ok_never _ _ _ w.place w.arms.items (f.statements_of w.otherwise.items) c.args.next none c.push-then-is_empty.ensures)

pub emit-returns-in_ok-last-in-If : goal.emit-returns-in_ok-last-in-If
emit-returns-in_ok-last-in-If t c =
    let w = c.in-If in
    let view : opened (f.statement_of c.args.statement.now) ≡ f.If w.place (f.arms_list_of w.arms.items) (f.statements_of w.otherwise.items) ∷ [] =
    ap opened (ap f.statement_of w.is ∙ of_if w.place w.arms w.otherwise) in
    let e = c.if-is_empty.ensures in
    let some : 0 < length w.arms.items = grind (arith, nat_tests, e, w.arms.ok.0) in
    let P : List Statement → Type 0 = λ ys. Emits c.args.nodes.now.items c.emit_all.new.nodes.items
    (opened_all (f.statements_of ys)) c.args.next c.in_ok-last-in-If.last in
    let Q : List Arm → Type 0 = λ ys. IfOk c.emit_arms.result (λ entry. EmitsArms c.emit_all.new.nodes.items c.emit_arms.new.nodes.items
    (f.arms_list_of ys) c.in_ok-last-in-If.last c.args.next entry) in
    let h = subst P c.deref.ensures.value c.in_ok-last-in-If.ensures in
    let k = subst Q c.deref-in-If.ensures.value c.emit_arms.ensures in
    rw view (ok_if c.emit_arms.result _ c.emit_all.new.nodes.items _ w.place w.arms.items
    (f.statements_of w.otherwise.items) c.in_ok-last-in-If.last c.args.next some h k)

pub emit-returns-in_ok-emit_loop-in-While : goal.emit-returns-in_ok-emit_loop-in-While
emit-returns-in_ok-emit_loop-in-While t c =
    let w = c.in-While in
    let view : opened (f.statement_of c.args.statement.now) ≡ f.While w.place (placed_of w.condition) (f.statements_of w.body.items) ∷ [] =
    ap opened (ap f.statement_of w.is ∙ of_while w.place w.condition w.body) in
    let e : EmitsLoop c.args.nodes.now.items c.emit_loop.new.nodes.items (placed_of w.condition)
    (f.statements_of c.deref-in-While.result.now) c.args.next c.in_ok-emit_loop-in-While.field-0 = c.in_ok-emit_loop-in-While.ensures in
    let P : List Statement → Type 0 = λ xs. EmitsLoop c.args.nodes.now.items c.emit_loop.new.nodes.items (placed_of w.condition)
    (f.statements_of xs) c.args.next c.in_ok-emit_loop-in-While.field-0 in
    let k = subst P c.deref-in-While.ensures.value e in
    let Q : List f.Statement → Type 0 =
    λ does. Emits c.args.nodes.now.items c.emit_loop.new.nodes.items does c.args.next c.in_ok-emit_loop-in-While.field-0.test in
    subst Q (sym view) (k.tests w.place)

pub emit-returns-in_ok-emit_loop-in-Do : goal.emit-returns-in_ok-emit_loop-in-Do
emit-returns-in_ok-emit_loop-in-Do t c =
    let w = c.in-Do in
    let view = ap opened (ap f.statement_of w.is ∙ of_do w.place w.body w.condition) in
    let e : EmitsLoop c.args.nodes.now.items c.emit_loop-in-Do.new.nodes.items (placed_of w.condition)
    (f.statements_of c.deref-in-Do.result.now) c.args.next c.in_ok-emit_loop-in-Do.field-0 = c.in_ok-emit_loop-in-Do.ensures in
    let P : List Statement → Type 0 = λ xs. EmitsLoop c.args.nodes.now.items c.emit_loop-in-Do.new.nodes.items (placed_of w.condition)
    (f.statements_of xs) c.args.next c.in_ok-emit_loop-in-Do.field-0 in
    let k = subst P c.deref-in-Do.ensures.value e in
    let Q : List f.Statement → Type 0 =
    λ does. Emits c.args.nodes.now.items c.emit_loop-in-Do.new.nodes.items does c.args.next c.in_ok-emit_loop-in-Do.field-0.body in
    subst Q (sym view) (k.begins w.place)

pub emit-returns-in-Lock : goal.emit-returns-in-Lock
emit-returns-in-Lock t c =
    let w = c.in-Lock in
    rw w.is (ok_node _ _ _ _ (f.Lock w.place (lock_name_of w.lock) ∷ []) c.args.next c.push-in-Lock.ensures
    (λ all rest at. record { place = w.place; rest = rest; follows = at; is = refl }))

pub emit-returns-in-Unlock : goal.emit-returns-in-Unlock
emit-returns-in-Unlock t c =
    let w = c.in-Unlock in
    rw w.is (ok_node _ _ _ _ (f.Unlock w.place (lock_name_of w.lock) ∷ []) c.args.next c.push-in-Unlock.ensures
    (λ all rest at. record { place = w.place; rest = rest; follows = at; is = refl }))

pub emit_arm-returns : goal.emit_arm-returns
emit_arm-returns t c =
    let P : List Statement → Type 0 = λ xs. Emits c.args.nodes.now.items c.emit_all.new.nodes.items
    (opened_all (f.statements_of xs)) c.args.next c.in_ok-holds.holds in
    ok_test c.push.result c.args.nodes.now.items c.emit_all.new.nodes.items c.push.new.nodes.items _
    (f.statements_of c.args.arm.now.body.items) c.in_ok-holds.holds c.args.fails c.args.next
    (subst P c.deref.ensures.value c.in_ok-holds.ensures) c.push.ensures

pub emit_all-loop-i-init : goal.emit_all-loop-i-init
emit_all-loop-i-init t c = all_none c.args.nodes.now.items c.args.statements.now c.args.next

pub emit_all-loop-i-preserved : goal.emit_all-loop-i-preserved
emit_all-loop-i-preserved t c =
    all_more c.args.statements.now c.loop-i.i c.index-statements-i.result (omega arith) (omega arith) c.index-statements-i.is c.loop-i.invariant
    c.in_ok-entry.ensures

pub emit_arms-loop-i-init : goal.emit_arms-loop-i-init
emit_arms-loop-i-init t c = arms_none c.args.nodes.now.items c.args.arms.now c.args.last c.args.next

pub emit_arms-loop-i-preserved : goal.emit_arms-loop-i-preserved
emit_arms-loop-i-preserved t c =
    arms_more c.args.arms.now c.loop-i.i c.index-arms-i.result (omega arith) (omega arith) c.index-arms-i.is c.loop-i.invariant c.in_ok-entry.ensures

pub emit_loop-index_mut-requires : goal.emit_loop-index_mut-requires
emit_loop-index_mut-requires t c =
    let p = c.in_ok-test.ensures in
    let e = c.in_ok-holds.ensures in
    let long = emits_longer e (omega (arith, p.at, ap length p.nodes, length-append c.args.nodes.now.items (node.Never ∷ []))) in
    omega (arith, long, p.at, ap length p.nodes, length-append c.args.nodes.now.items (node.Never ∷ []), c.emit_all.new.nodes.ok.0)

pub emit_loop-returns : goal.emit_loop-returns
emit_loop-returns t c = emits_loop c.args.condition (f.statements_of c.args.body.now) c.args.next c.in_ok-test.test c.in_ok-holds.holds
    (record { mid = _; after = _; pushed = c.in_ok-test.ensures; emits = c.in_ok-holds.ensures; is = refl })
