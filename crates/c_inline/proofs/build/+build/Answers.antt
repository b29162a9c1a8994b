use Rattle.std.proofs.Common.{◌≡◌, ◌<◌, [], map, ℕ, ◌+◌, ◌*◌, List, Option, refl, sym, ap, ◌∙◌, arith}
use Rattle.std.proofs.lemmas.Result.{on_ok_weaker}
use Rattle.c_tree.specs.Exprs as e
use Rattle.c_tree.specs.Programs as p
use Rattle.c_tree.specs.Flats as f
use Rattle.c_tree.specs.Inlining as i
use Rattle.c_tree.specs.Programs.{function_of}
use Rattle.c_tree.specs.declared.program.Statement.{Statement}
use Rattle.c_tree.specs.declared.program.Arm.{Arm}
use Rattle.c_tree.specs.declared.flat.Statement as flat
use Rattle.c_tree.proofs.Public.{program_rows_of_while as of_while, program_rows_of_do as of_do, program_rows_of_if as of_if}
use Rattle.c_inline.specs.declared.build.Begun.{Begun}
use Rattle.c_inline.specs.links.Weights as v
use Rattle.c_inline.specs.links.InlinedBodies.{locals_of, whole, after, following_of, begun_if_any, all_made, and_any}
use Rattle.c_inline.specs.links.InlinedBodies.{begun_work, all_work, function_work, statements_work}
use Rattle.c_inline.proofs.InlinedStatements.{and_none, made_alone, one_made, while_made, do_made, if_made, assign_made, statement_step, statement_left}
use Rattle.c_inline.proofs.InlinedStatements.{statements_all, arm_made, arm_left, arms_all, step_made, step_work, done_made, done_work, all_work_more}
use Rattle.c_inline.proofs.build.+build.Goals as goal

pub make_arms-loop-arm-preserved : goal.make_arms-loop-arm-preserved
make_arms-loop-arm-preserved t c =
    let fs = map function_of c.args.bodies.functions.now in
    let xs = c.args.arms.now in
    let j = c.loop-arm.arm-index in
    let x = c.arm-item.result in
    let inner = ap (λ (ys : List Statement). i.statements fs (whole fs) c.args.by (locals_of c.loop-arm.locals) (p.statements_of ys))
    (sym c.deref.ensures.value)
    ∙ c.in_ok-body.ensures in (
      sym (arm_made fs (whole fs) c.args.by xs j x c.loop-arm-test.true c.arm-item.is (locals_of c.loop-arm.locals) (locals_of c.make_statements.new.locals)
          c.loop-arm.made.items c.push.new.self.items _ c.in_ok-push.ensures.items c.in_ok-condition.ensures inner)
          ∙ c.loop-arm.invariant.0,
      omega (arith, c.loop-arm.invariant.1, arm_left fs (whole fs) c.args.by xs j x c.loop-arm-test.true c.arm-item.is),
    )

pub make_arms-returns : goal.make_arms-returns
make_arms-returns t c =
    let fs = map function_of c.args.bodies.functions.now in
    sym c.loop-arm.invariant.0 ∙ arms_all fs (whole fs) c.args.by c.args.arms.now c.loop-arm.arm-index (locals_of c.loop-arm.locals)
    (f.arms_list_of c.loop-arm.made.items) c.loop-arm-test.false

pub make_body-make_step-requires : goal.make_body-make_step-requires
make_body-make_step-requires t c =
    let functions = c.args.bodies.functions.now in
    let d : 3 * begun_work functions c.args.begun + 1 ≡ t = c.decreases in
    let e = ap (all_work functions) c.in-Some.ensures.items in
    let less : 3 * begun_work functions c.in-Some.begun < t =
    omega (arith, d, e, c.loop-begun.invariant.1, all_work_more functions c.pop.new.self.items c.in-Some.begun) in
    (less, c.requires)

pub make_body-returns : goal.make_body-returns
make_body-returns t c =
    let functions = c.args.bodies.functions.now in
    let made = f.statements_of c.loop-begun.made.items in
    let ks = locals_of c.loop-begun.locals in
    let empty : c.loop-begun.waiting.items ≡ [] = grind (arith, c.in_default.ensures.cases) in
    sym (c.loop-begun.invariant.0)
    ∙ ap (λ (bs : List Begun). after made (all_made functions bs ks)) empty
    ∙ ap (λ (y : f.Statements). let r : i.Made f.Statements = record { made = y; locals = ks } in r) (and_none made)

pub make_or_begin-make_arms-requires : goal.make_or_begin-make_arms-requires
make_or_begin-make_arms-requires t c =
    let n = c.in-If in
    let fs = map function_of c.args.bodies.functions.now in
    let w : p.Statement → ℕ = v.statement_weight v.size 2 fs (function_work fs) in
    let view = ap w (ap p.statement_of n.is ∙ of_if n.place n.arms n.otherwise) in
    let inner = ap (λ (xs : List Arm). v.arms_weight v.size 2 fs (function_work fs) (p.arms_list_of xs)) c.deref-in-If.ensures.value in
    let d : 3 * w (p.statement_of c.args.statement.now) ≡ t = c.decreases in
    let less : 3 * v.arms_weight v.size 2 fs (function_work fs) (p.arms_list_of c.deref-in-If.result.now) + 2 < t = omega (arith, view, inner, d) in
    (less, c.requires)

pub make_or_begin-make_statements-requires : goal.make_or_begin-make_statements-requires
make_or_begin-make_statements-requires t c =
    let n = c.in-If in
    let fs = map function_of c.args.bodies.functions.now in
    let w : p.Statement → ℕ = v.statement_weight v.size 2 fs (function_work fs) in
    let view = ap w (ap p.statement_of n.is ∙ of_if n.place n.arms n.otherwise) in
    let inner = ap (λ (xs : List Statement). statements_work fs (p.statements_of xs)) c.deref-in-If-2.ensures.value in
    let d : 3 * w (p.statement_of c.args.statement.now) ≡ t = c.decreases in
    let less : 3 * statements_work fs (p.statements_of c.deref-in-If-2.result.now) + 2 < t = omega (arith, view, inner, d) in
    (less, c.requires)

pub make_or_begin-make_statements-requires-in-While : goal.make_or_begin-make_statements-requires-in-While
make_or_begin-make_statements-requires-in-While t c =
    let n = c.in-While in
    let fs = map function_of c.args.bodies.functions.now in
    let w : p.Statement → ℕ = v.statement_weight v.size 2 fs (function_work fs) in
    let view = ap w (ap p.statement_of n.is ∙ of_while n.place n.condition n.body) in
    let inner = ap (λ (xs : List Statement). statements_work fs (p.statements_of xs)) c.deref-in-While.ensures.value in
    let d : 3 * w (p.statement_of c.args.statement.now) ≡ t = c.decreases in
    let less : 3 * statements_work fs (p.statements_of c.deref-in-While.result.now) + 2 < t = omega (arith, view, inner, d) in
    (less, c.requires)

pub make_or_begin-make_statements-requires-in-Do : goal.make_or_begin-make_statements-requires-in-Do
make_or_begin-make_statements-requires-in-Do t c =
    let n = c.in-Do in
    let fs = map function_of c.args.bodies.functions.now in
    let w : p.Statement → ℕ = v.statement_weight v.size 2 fs (function_work fs) in
    let view = ap w (ap p.statement_of n.is ∙ of_do n.place n.body n.condition) in
    let inner = ap (λ (xs : List Statement). statements_work fs (p.statements_of xs)) c.deref-in-Do.ensures.value in
    let d : 3 * w (p.statement_of c.args.statement.now) ≡ t = c.decreases in
    let less : 3 * statements_work fs (p.statements_of c.deref-in-Do.result.now) + 2 < t = omega (arith, view, inner, d) in
    (less, c.requires)

pub make_or_begin-returns-in_ok-push-in-Assign-clause-made : goal.make_or_begin-returns-in_ok-push-in-Assign-clause-made
make_or_begin-returns-in_ok-push-in-Assign-clause-made t c =
    let n = c.in-Assign in
    let fs = map function_of c.args.bodies.functions.now in
    let ks = locals_of c.args.locals.now in
    assign_made fs (whole fs) c.args.by ks ks c.args.made.now.items c.push.new.self.items n.place (p.statement_of c.args.statement.now)
    c.in_ok-target-in-Assign.target n.target c.in_ok-value-in-Assign.value n.value
    (ap p.statement_of n.is) c.in_ok-push-in-Assign.ensures.items refl c.in_ok-target-in-Assign.ensures c.in_ok-value-in-Assign.ensures

pub make_or_begin-returns-in_ok-push-in-If-clause-made : goal.make_or_begin-returns-in_ok-push-in-If-clause-made
make_or_begin-returns-in_ok-push-in-If-clause-made t c =
    let n = c.in-If in
    let fs = map function_of c.args.bodies.functions.now in
    let arms = ap (λ (ys : List Arm). i.arms_of fs (whole fs) c.args.by (locals_of c.args.locals.now) (p.arms_list_of ys)) (sym c.deref-in-If.ensures.value)
    ∙ c.in_ok-arms-in-If.ensures in
    let otherwise = ap (λ (ys : List Statement). i.statements fs (whole fs) c.args.by (locals_of c.make_arms.new.locals) (p.statements_of ys))
    (sym c.deref-in-If-2.ensures.value) ∙ c.in_ok-otherwise-in-If.ensures in
    if_made fs (whole fs) c.args.by (locals_of c.args.locals.now) (locals_of c.make_statements.new.locals) c.args.made.now.items
    c.push-in-If.new.self.items n.place
    (p.statement_of c.args.statement.now) c.in_ok-arms-in-If.arms c.in_ok-otherwise-in-If.otherwise
    (p.arms_list_of n.arms.items) (p.statements_of n.otherwise.items) (locals_of c.make_arms.new.locals)
    (ap p.statement_of n.is ∙ of_if n.place n.arms n.otherwise) c.in_ok-push-in-If.ensures.items arms otherwise

pub make_or_begin-returns-in_ok-push-in-While-clause-made : goal.make_or_begin-returns-in_ok-push-in-While-clause-made
make_or_begin-returns-in_ok-push-in-While-clause-made t c =
    let n = c.in-While in
    let fs = map function_of c.args.bodies.functions.now in
    let inner = ap (λ (ys : List Statement). i.statements fs (whole fs) c.args.by (locals_of c.args.locals.now) (p.statements_of ys))
    (sym c.deref-in-While.ensures.value) ∙ c.in_ok-body-in-While.ensures in
    while_made fs (whole fs) c.args.by (locals_of c.args.locals.now) (locals_of c.make_statements-in-While.new.locals) c.args.made.now.items
    c.push-in-While.new.self.items
    n.place c.in_ok-condition-in-While.condition n.condition c.in_ok-body-in-While.body
    (p.statements_of n.body.items) c.in_ok-condition-in-While.ensures inner (p.statement_of c.args.statement.now)
    (ap p.statement_of n.is ∙ of_while n.place n.condition n.body) c.in_ok-push-in-While.ensures.items

pub make_or_begin-returns-in_ok-push-in-Do-clause-made : goal.make_or_begin-returns-in_ok-push-in-Do-clause-made
make_or_begin-returns-in_ok-push-in-Do-clause-made t c =
    let n = c.in-Do in
    let fs = map function_of c.args.bodies.functions.now in
    let inner = ap (λ (ys : List Statement). i.statements fs (whole fs) c.args.by (locals_of c.args.locals.now) (p.statements_of ys))
    (sym c.deref-in-Do.ensures.value)
    ∙ c.in_ok-body-in-Do.ensures in
    do_made fs (whole fs) c.args.by (locals_of c.args.locals.now) (locals_of c.make_statements-in-Do.new.locals) c.args.made.now.items
    c.push-in-Do.new.self.items n.place
    c.in_ok-condition-in-Do.condition n.condition c.in_ok-body-in-Do.body
    (p.statements_of n.body.items) c.in_ok-condition-in-Do.ensures inner (p.statement_of c.args.statement.now)
    (ap p.statement_of n.is ∙ of_do n.place n.body n.condition) c.in_ok-push-in-Do.ensures.items

pub make_or_begin-returns-in_ok-push-in-Lock-clause-made : goal.make_or_begin-returns-in_ok-push-in-Lock-clause-made
make_or_begin-returns-in_ok-push-in-Lock-clause-made t c =
    let n = c.in-Lock in
    let fs = map function_of c.args.bodies.functions.now in
    let ks = locals_of c.args.locals.now in
    one_made fs (whole fs) c.args.by ks ks c.args.made.now.items c.push-in-Lock.new.self.items n.place (flat.Lock n.place c.in_ok-lock-in-Lock.lock)
    (f.Lock n.place (i.shifted_lock c.args.by (e.lock_name_of n.lock)))
    (i.statement fs (whole fs) c.args.by ks (p.statement_of c.args.statement.now))
    c.in_ok-push-in-Lock.ensures.items (ap (f.Lock n.place) c.in_ok-lock-in-Lock.ensures)
    (ap (λ (x : Statement). i.statement fs (whole fs) c.args.by ks (p.statement_of x)) n.is)

pub make_or_begin-returns-in_ok-push-in-Unlock-clause-made : goal.make_or_begin-returns-in_ok-push-in-Unlock-clause-made
make_or_begin-returns-in_ok-push-in-Unlock-clause-made t c =
    let n = c.in-Unlock in
    let fs = map function_of c.args.bodies.functions.now in
    let ks = locals_of c.args.locals.now in
    one_made fs (whole fs) c.args.by ks ks c.args.made.now.items c.push-in-Unlock.new.self.items n.place (flat.Unlock n.place c.in_ok-lock-in-Unlock.lock)
    (f.Unlock n.place (i.shifted_lock c.args.by (e.lock_name_of n.lock))) (i.statement fs (whole fs) c.args.by ks (p.statement_of c.args.statement.now))
    c.in_ok-push-in-Unlock.ensures.items (ap (f.Unlock n.place) c.in_ok-lock-in-Unlock.ensures)
    (ap (λ (x : Statement). i.statement fs (whole fs) c.args.by ks (p.statement_of x)) n.is)

pub make_statements-loop-statement-preserved : goal.make_statements-loop-statement-preserved
make_statements-loop-statement-preserved t c =
    let fs = map function_of c.args.bodies.functions.now in
    let xs = c.args.statements.now in
    let j = c.loop-statement.statement-index in
    let x = c.statement-item.result in (
      sym (statement_step fs (whole fs) c.args.by xs j x c.loop-statement-test.true c.statement-item.is (locals_of c.loop-statement.locals)
          (locals_of c.make_statement.new.locals)
          (f.statements_of c.loop-statement.made.items) (f.statements_of c.make_statement.new.made.items) c.in_ok-make_statement.ensures)
          ∙ c.loop-statement.invariant.0,
      omega (arith, c.loop-statement.invariant.1, statement_left fs (whole fs) c.args.by xs j x c.loop-statement-test.true c.statement-item.is),
    )

pub make_statements-make_statement-requires : goal.make_statements-make_statement-requires
make_statements-make_statement-requires t c =
    let fs = map function_of c.args.bodies.functions.now in
    let xs = c.args.statements.now in
    let j = c.loop-statement.statement-index in
    let x = c.statement-item.result in
    let d : 3 * statements_work fs (p.statements_of xs) + 2 ≡ t = c.decreases in
    let less : 3 * v.statement_weight v.size 2 fs (function_work fs) (p.statement_of x) + 1 < t =
    omega (arith, d, c.loop-statement.invariant.1, statement_left fs (whole fs) c.args.by xs j x c.loop-statement-test.true c.statement-item.is) in
    (less, c.requires)

pub make_statements-returns : goal.make_statements-returns
make_statements-returns t c =
    let fs = map function_of c.args.bodies.functions.now in
    sym c.loop-statement.invariant.0 ∙ statements_all fs (whole fs) c.args.by c.args.statements.now c.loop-statement.statement-index
    (locals_of c.loop-statement.locals) (f.statements_of c.loop-statement.made.items) c.loop-statement-test.false

pub make_step-returns-in_ok-inner-in-Some-clause-made : goal.make_step-returns-in_ok-inner-in-Some-clause-made
make_step-returns-in_ok-inner-in-Some-clause-made t c =
    let inner = c.in_ok-inner-in-Some.inner in
    on_ok_weaker c.push_begun.result
    (λ (rest : c.push_begun.new.waiting.items ≡ and_any c.push.new.self.items inner).
    step_made c.args.bodies.functions.now c.args.waiting.now.items c.push_begun.new.waiting.items c.args.begun c.next.new.begun inner c.in-Some.statement.now
    c.in-Some.ensures (rest ∙ ap (λ (bs : List Begun). and_any bs inner) c.in_ok-push-in-Some.ensures.items)
    (locals_of c.args.locals.now) (locals_of c.make_or_begin.new.locals)
    (f.statements_of c.args.made.now.items) (f.statements_of c.make_or_begin.new.made.items) c.in_ok-inner-in-Some.ensures.made)
    c.push_begun.ensures

pub make_step-returns-in_ok-inner-in-Some-clause-work : goal.make_step-returns-in_ok-inner-in-Some-clause-work
make_step-returns-in_ok-inner-in-Some-clause-work t c =
    let inner = c.in_ok-inner-in-Some.inner in
    on_ok_weaker c.push_begun.result
    (λ (rest : c.push_begun.new.waiting.items ≡ and_any c.push.new.self.items inner).
    step_work c.args.bodies.functions.now c.args.waiting.now.items c.push_begun.new.waiting.items c.args.begun c.next.new.begun inner c.in-Some.statement.now
    c.in-Some.ensures (rest ∙ ap (λ (bs : List Begun). and_any bs inner) c.in_ok-push-in-Some.ensures.items)
    c.in_ok-inner-in-Some.ensures.work)
    c.push_begun.ensures

pub make_step-returns-in-None-clause-made : goal.make_step-returns-in-None-clause-made
make_step-returns-in-None-clause-made t c =
    let old = f.statements_of c.args.made.now.items in
    on_ok_weaker c.push_following.result
    (λ (following : f.statements_of c.push_following.new.made.items ≡ i.statements_and old (following_of c.next.new.begun.following)).
    done_made c.args.bodies.functions.now c.args.waiting.now.items c.args.begun (locals_of c.args.locals.now) old
    (f.statements_of c.push_following.new.made.items)
    c.in-None.ensures.0
    (following ∙ ap (λ (b : Begun). i.statements_and old (following_of b.following)) c.in-None.ensures.1))
    c.push_following.ensures

pub make_step-returns-in-None-clause-work : goal.make_step-returns-in-None-clause-work
make_step-returns-in-None-clause-work t c =
    let old = f.statements_of c.args.made.now.items in
    on_ok_weaker c.push_following.result
    (λ (following : f.statements_of c.push_following.new.made.items ≡ i.statements_and old (following_of c.next.new.begun.following)).
    done_work c.args.bodies.functions.now c.args.waiting.now.items c.args.begun (locals_of c.args.locals.now) old
    (f.statements_of c.push_following.new.made.items)
    c.in-None.ensures.0)
    c.push_following.ensures

pub make_statement-returns-in-None : goal.make_statement-returns-in-None
make_statement-returns-in-None t c =
    let fs = map function_of c.args.bodies.functions.now in
    let new = f.statements_of c.make_or_begin.new.made.items in
    let ks = locals_of c.make_or_begin.new.locals in
    made_alone (f.statements_of c.args.made.now.items) new
    (i.statement fs (whole fs) c.args.by (locals_of c.args.locals.now) (p.statement_of c.args.statement.now)) ks
    (c.in_ok-begun.ensures.made ∙ ap (λ (o : Option Begun). after new (begun_if_any c.args.bodies.functions.now o ks)) c.in-None.is)
