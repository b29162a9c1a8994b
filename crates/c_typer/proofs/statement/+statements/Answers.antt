use Rattle.std.proofs.Common.{◌≡◌, List, take, sym, ap, ap₂, ◌∙◌, arith}
use Rattle.std.proofs.lemmas.List.{at_drop_all}
use Rattle.std.proofs.lemmas.Result.{IfOk-equal}
use Rattle.std.specs.Option.{option_map}
use Rattle.ido_base.specs.declared.place.Place.{Place}
use Rattle.c_tree.specs.Names as n
use Rattle.c_tree.specs.Programs as p
use Rattle.c_tree.specs.Trees as tree
use Rattle.c_tree.specs.TypeRules as rules
use Rattle.c_tree.specs.Elaboration as typing
use Rattle.c_tree.specs.Elaboration.{one, statements_and}
use Rattle.c_tree.specs.Views as v
use Rattle.c_tree.specs.declared.tree.Arm as tree_arm
use Rattle.c_tree.specs.declared.tree.Call.{Call}
use Rattle.c_tree.specs.declared.tree.Expression.{Expression}
use Rattle.c_tree.specs.declared.tree.Head.{Head}
use Rattle.c_tree.specs.declared.tree.Statement.{Statement}
use Rattle.c_tree.specs.declared.tree.Lvalue.{Lvalue}
use Rattle.c_tree.proofs.Public.{of_block, tree_rows_of_if as of_if, tree_rows_of_while as of_while, tree_rows_of_do as of_do, of_for}
use Rattle.c_typer.specs.links.FirstFaults.{first_of, noted}
use Rattle.c_typer.specs.links.Rows.{loop_as, loop_faults}
use Rattle.c_typer.specs.links.Scopes.{globals_of, scope_of}
use Rattle.c_typer.specs.declared.scope.Mark.{Mark}
use Rattle.c_typer.proofs.Rows.{always, and_nothing, and_no_arm, arms_and, one_more, two_more}
use Rattle.c_typer.proofs.NestedScopes.{grows_both, grows_none, left_again, stays_both}
use Rattle.c_typer.proofs.RowSteps.{noted_both, rest_is, made_step, noted_step, scope_step, arms_rest_is, arms_made_step, arms_noted_step, arms_scope_step}
use Rattle.c_typer.proofs.statement.+statements.Goals as goal

-- ---- Rows

pub statements-loop-next-preserved : goal.statements-loop-next-preserved
statements-loop-next-preserved t c =
    let gs = globals_of c.args.globals.now in
    let s = scope_of c.loop-next.scope in
    let x = v.statement_of c.next-item.result in
    let split = rest_is c.args.read.now c.loop-next.next-index c.next-item.result (omega arith) c.next-item.is in
    let done = c.in_ok-statement.ensures in
    let before = c.loop-next.invariant in record {
      made = made_step gs _ _ s (scope_of c.statement.new.scope) x _ _ _ split done.made done.scope before.made;
      noted = noted_step c.args.globals.now.language gs _ _ s (scope_of c.statement.new.scope) x _ _ _ split done.noted done.scope before.noted;
      scope = scope_step gs s (scope_of c.statement.new.scope) x _ _ _ split done.scope before.scope;
      grows = grows_both _ _ _ before.grows done.grows;
    }

pub statements-returns-clause-made : goal.statements-returns-clause-made
statements-returns-clause-made t c =
    let gs = globals_of c.args.globals.now in
    let s = scope_of c.loop-next.scope in
    let made = p.statements_of c.loop-next.made.items in
    sym (and_nothing made)
    ∙ sym (at_drop_all (λ (xs : List Statement). statements_and made (typing.statements gs s (v.statements_of xs)).made) c.args.read.now c.loop-next.next-index
    (omega arith))
    ∙ c.loop-next.invariant.made

pub arms_of-loop-arm-preserved : goal.arms_of-loop-arm-preserved
arms_of-loop-arm-preserved t c =
    let gs = globals_of c.args.globals.now in
    let s = scope_of c.loop-arm.scope in
    let a = c.arm-item.result in
    let x = v.expression_of a.condition in
    let body = v.block_of a.block in
    let split = arms_rest_is c.args.read.now c.loop-arm.arm-index a (omega arith) c.arm-item.is in
    let condition = c.in_ok-condition.ensures in
    let inside = c.in_ok-body.ensures in
    let before = c.loop-arm.invariant in record {
      made = arms_made_step gs c.loop-arm.made.items c.push.new.self.items _ s
          (scope_of c.body_of.new.scope) x body _ _ _ split c.in_ok-push.ensures.items condition.made inside.made inside.scope before.made;
      noted =
          arms_noted_step c.args.globals.now.language gs _ _ _ s (scope_of c.body_of.new.scope) x body _ _ _ split condition.noted inside.noted
          inside.scope before.noted;
      scope = arms_scope_step gs s (scope_of c.body_of.new.scope) x body _ _ _ split inside.scope before.scope;
      stays = stays_both _ _ _ before.stays inside.stays;
    }

pub arms_of-returns-clause-made : goal.arms_of-returns-clause-made
arms_of-returns-clause-made t c =
    let gs = globals_of c.args.globals.now in
    let s = scope_of c.loop-arm.scope in
    let made = p.arms_list_of c.loop-arm.made.items in
    ap p.arms_list_of c.shrink_to_fit.ensures.items ∙ sym (and_no_arm made)
    ∙ sym (at_drop_all (λ (xs : List tree_arm.Arm). arms_and made (typing.arms_of gs s (v.arms_list_of xs)).made) c.args.read.now c.loop-arm.arm-index
    (omega arith))
    ∙ c.loop-arm.invariant.made

-- ---- Statements

pub statement-returns-in-Block-clause-made : goal.statement-returns-in-Block-clause-made
statement-returns-in-Block-clause-made t c =
    let view = ap v.statement_of c.in-Block.is ∙ of_block c.in-Block.read in
    let made = p.statements_of c.args.made.now.items in
    IfOk-equal c.block.result _ _ _ c.block.ensures.made
    (ap (λ (x : tree.Statement). statements_and made (typing.statement (globals_of c.args.globals.now) (scope_of c.args.scope.now) x).made) (sym view))

pub statement-returns-in-Block-clause-noted : goal.statement-returns-in-Block-clause-noted
statement-returns-in-Block-clause-noted t c =
    let view = ap v.statement_of c.in-Block.is ∙ of_block c.in-Block.read in
    IfOk-equal c.block.result _ _ _ c.block.ensures.noted
    (ap (λ (x : tree.Statement). noted (first_of c.args.faults.now)
    (rules.statement_faults c.args.globals.now.language (globals_of c.args.globals.now) (scope_of c.args.scope.now) x))
    (sym view))

pub statement-returns-in-Block-clause-scope : goal.statement-returns-in-Block-clause-scope
statement-returns-in-Block-clause-scope t c =
    let view = ap v.statement_of c.in-Block.is ∙ of_block c.in-Block.read in
    IfOk-equal c.block.result _ _ _ c.block.ensures.scope
    (ap (λ (x : tree.Statement). (typing.statement (globals_of c.args.globals.now) (scope_of c.args.scope.now) x).scope) (sym view))

pub statement-returns-in-Empty-clause-made : goal.statement-returns-in-Empty-clause-made
statement-returns-in-Empty-clause-made t c =
    let made = p.statements_of c.args.made.now.items in
    sym (and_nothing made)
    ∙ ap (λ (x : Statement). statements_and made (typing.statement (globals_of c.args.globals.now) (scope_of c.args.scope.now) (v.statement_of x)).made)
    (sym c.in-Empty.is)

pub statement-returns-in_ok-next-in-CallAssignment-clause-noted : goal.statement-returns-in_ok-next-in-CallAssignment-clause-noted
statement-returns-in_ok-next-in-CallAssignment-clause-noted t c =
    let gs = globals_of c.args.globals.now in
    let s = scope_of c.args.scope.now in
    let w = c.in-CallAssignment in
    let l = c.args.globals.now.language in
    let assigned = v.lvalue_of c.deref-in-CallAssignment.result.now in
    let read = v.call_of c.deref-in-CallAssignment-3.result.now in
    let view = ap v.statement_of w.is
    ∙ ap₂ (λ (x : Lvalue) (y : Call). tree.AssignResult (v.lvalue_of x) (v.call_of y)) (sym c.deref-in-CallAssignment.ensures)
    (sym c.deref-in-CallAssignment-3.ensures) in
    let second = first_of c.target.new.faults in
    let to = c.target_referring.ensures
    ∙ ap (λ (x : Lvalue). rules.target_referring l gs s (v.lvalue_of x)) (c.deref-in-CallAssignment-4.ensures ∙ sym c.deref-in-CallAssignment.ensures) in
    let place = c.name_place.ensures
    ∙ ap (λ (x : Lvalue). (rules.target_name (v.lvalue_of x)).place) (c.deref-in-CallAssignment-5.ensures ∙ sym c.deref-in-CallAssignment.ensures) in
    let given = c.in_ok-next-in-CallAssignment.ensures.noted
    ∙ ap₂ (λ (y : n.Referring) (q : Place). noted second (rules.assigned_faults l gs s y q read)) to place in
    always c.add-in-CallAssignment.result
    (noted_both (first_of c.args.faults.now) second (first_of c.assigned_call.new.faults)
    (rules.target_faults l gs s assigned)
    (rules.assigned_faults l gs s (rules.target_referring l gs s assigned) (rules.target_name assigned).place read)
    c.in_ok-made_target-in-CallAssignment.ensures.noted given
    ∙ ap (λ (x : tree.Statement). noted (first_of c.args.faults.now) (rules.statement_faults l gs s x)) (sym view))

pub statement-returns-in_ok-last-in-If-clause-made : goal.statement-returns-in_ok-last-in-If-clause-made
statement-returns-in_ok-last-in-If-clause-made t c =
    let gs = globals_of c.args.globals.now in
    let s = scope_of c.args.scope.now in
    let w = c.in-If in
    let arms = v.arms_list_of c.deref-in-If.result.now in
    let otherwise = v.otherwise_of w.otherwise in
    let view : v.statement_of c.args.read.now ≡ tree.If w.place arms otherwise
    = ap v.statement_of w.is ∙ of_if w.place w.arms w.otherwise ∙ ap (λ xs. tree.If w.place (v.arms_list_of xs) otherwise) (sym c.deref-in-If.ensures.value) in
    let first = c.in_ok-arms-in-If.ensures in
    let last = c.in_ok-last-in-If.ensures.made ∙ ap (λ (z : n.Scope). (typing.otherwise_of gs z otherwise).made) first.scope in
    one_more c.add-in-If.result _ _ _ _ c.add-in-If.ensures
    (ap one c.if_of.ensures ∙ (λ i. one (p.If w.place (first.made i) (last i))) ∙ ap (λ (x : tree.Statement). (typing.statement gs s x).made) (sym view))

pub statement-returns-in_ok-last-in-If-clause-noted : goal.statement-returns-in_ok-last-in-If-clause-noted
statement-returns-in_ok-last-in-If-clause-noted t c =
    let gs = globals_of c.args.globals.now in
    let s = scope_of c.args.scope.now in
    let w = c.in-If in
    let arms = v.arms_list_of c.deref-in-If.result.now in
    let otherwise = v.otherwise_of w.otherwise in
    let view : v.statement_of c.args.read.now ≡ tree.If w.place arms otherwise
    = ap v.statement_of w.is ∙ of_if w.place w.arms w.otherwise ∙ ap (λ xs. tree.If w.place (v.arms_list_of xs) otherwise) (sym c.deref-in-If.ensures.value) in
    let first = c.in_ok-arms-in-If.ensures in
    let last = c.in_ok-last-in-If.ensures.noted
    ∙ ap (λ (z : n.Scope). noted (first_of c.arms_of.new.faults) (rules.otherwise_faults c.args.globals.now.language gs z otherwise))
    first.scope in
    always c.add-in-If.result
    (noted_both (first_of c.args.faults.now) (first_of c.arms_of.new.faults) (first_of c.last_block.new.faults)
    (rules.arms_faults c.args.globals.now.language gs s arms)
    (rules.otherwise_faults c.args.globals.now.language gs (typing.arms_of gs s arms).scope otherwise) first.noted last
    ∙ ap (λ (x : tree.Statement). noted (first_of c.args.faults.now) (rules.statement_faults c.args.globals.now.language gs s x)) (sym view))

pub statement-returns-in_ok-last-in-If-clause-scope : goal.statement-returns-in_ok-last-in-If-clause-scope
statement-returns-in_ok-last-in-If-clause-scope t c =
    let gs = globals_of c.args.globals.now in
    let s = scope_of c.args.scope.now in
    let w = c.in-If in
    let arms = v.arms_list_of c.deref-in-If.result.now in
    let otherwise = v.otherwise_of w.otherwise in
    let view : v.statement_of c.args.read.now ≡ tree.If w.place arms otherwise
    = ap v.statement_of w.is ∙ of_if w.place w.arms w.otherwise ∙ ap (λ xs. tree.If w.place (v.arms_list_of xs) otherwise) (sym c.deref-in-If.ensures.value) in
    always c.add-in-If.result
    (c.in_ok-last-in-If.ensures.scope ∙ ap (λ (z : n.Scope). (typing.otherwise_of gs z otherwise).scope) c.in_ok-arms-in-If.ensures.scope
    ∙ ap (λ (x : tree.Statement). (typing.statement gs s x).scope) (sym view))

pub statement-returns-in_ok-next-in-While-clause-made : goal.statement-returns-in_ok-next-in-While-clause-made
statement-returns-in_ok-next-in-While-clause-made t c =
    let w = c.in-While in
    let view = ap v.statement_of w.is ∙ of_while w.place w.condition w.block
    ∙ ap (λ (x : Expression). tree.While w.place (v.expression_of x) (v.block_of w.block)) (sym c.deref-in-While.ensures) in
    one_more c.add-in-While.result _ _ _ _ c.add-in-While.ensures
    (c.in_ok-next-in-While.ensures.made ∙ ap (λ (x : tree.Statement). (typing.statement (globals_of c.args.globals.now) (scope_of c.args.scope.now) x).made)
    (sym view))

pub statement-returns-in_ok-next-in-While-clause-noted : goal.statement-returns-in_ok-next-in-While-clause-noted
statement-returns-in_ok-next-in-While-clause-noted t c =
    let w = c.in-While in
    let view = ap v.statement_of w.is ∙ of_while w.place w.condition w.block
    ∙ ap (λ (x : Expression). tree.While w.place (v.expression_of x) (v.block_of w.block)) (sym c.deref-in-While.ensures) in
    always c.add-in-While.result
    (c.in_ok-next-in-While.ensures.noted
    ∙ ap (λ (x : tree.Statement). noted (first_of c.args.faults.now)
    (rules.statement_faults c.args.globals.now.language (globals_of c.args.globals.now) (scope_of c.args.scope.now) x))
    (sym view))

pub statement-returns-in_ok-next-in-While-clause-scope : goal.statement-returns-in_ok-next-in-While-clause-scope
statement-returns-in_ok-next-in-While-clause-scope t c =
    let w = c.in-While in
    let view = ap v.statement_of w.is ∙ of_while w.place w.condition w.block
    ∙ ap (λ (x : Expression). tree.While w.place (v.expression_of x) (v.block_of w.block)) (sym c.deref-in-While.ensures) in
    always c.add-in-While.result
    (c.in_ok-next-in-While.ensures.scope ∙ ap (λ (x : tree.Statement). (typing.statement (globals_of c.args.globals.now) (scope_of c.args.scope.now) x).scope)
    (sym view))

pub statement-returns-in_ok-next-in-Do-clause-made : goal.statement-returns-in_ok-next-in-Do-clause-made
statement-returns-in_ok-next-in-Do-clause-made t c =
    let w = c.in-Do in
    let view = ap v.statement_of w.is ∙ of_do w.place w.block w.condition
    ∙ ap (λ (x : Expression). tree.Do w.place (v.block_of w.block) (v.expression_of x)) (sym c.deref-in-Do.ensures) in
    one_more c.add-in-Do.result _ _ _ _ c.add-in-Do.ensures
    (c.in_ok-next-in-Do.ensures.made ∙ ap (λ (x : tree.Statement). (typing.statement (globals_of c.args.globals.now) (scope_of c.args.scope.now) x).made)
    (sym view))

pub statement-returns-in_ok-next-in-Do-clause-noted : goal.statement-returns-in_ok-next-in-Do-clause-noted
statement-returns-in_ok-next-in-Do-clause-noted t c =
    let w = c.in-Do in
    let view = ap v.statement_of w.is ∙ of_do w.place w.block w.condition
    ∙ ap (λ (x : Expression). tree.Do w.place (v.block_of w.block) (v.expression_of x)) (sym c.deref-in-Do.ensures) in
    always c.add-in-Do.result
    (c.in_ok-next-in-Do.ensures.noted
    ∙ ap (λ (x : tree.Statement). noted (first_of c.args.faults.now)
    (rules.statement_faults c.args.globals.now.language (globals_of c.args.globals.now) (scope_of c.args.scope.now) x))
    (sym view))

pub statement-returns-in_ok-next-in-Do-clause-scope : goal.statement-returns-in_ok-next-in-Do-clause-scope
statement-returns-in_ok-next-in-Do-clause-scope t c =
    let w = c.in-Do in
    let view = ap v.statement_of w.is ∙ of_do w.place w.block w.condition
    ∙ ap (λ (x : Expression). tree.Do w.place (v.block_of w.block) (v.expression_of x)) (sym c.deref-in-Do.ensures) in
    always c.add-in-Do.result
    (c.in_ok-next-in-Do.ensures.scope ∙ ap (λ (x : tree.Statement). (typing.statement (globals_of c.args.globals.now) (scope_of c.args.scope.now) x).scope)
    (sym view))

pub statement-returns-in_ok-next-in-For-clause-made : goal.statement-returns-in_ok-next-in-For-clause-made
statement-returns-in_ok-next-in-For-clause-made t c =
    let gs = globals_of c.args.globals.now in
    let s = scope_of c.args.scope.now in
    let w = c.in-For in
    let start = v.first_of c.deref-in-For.result.now.first in
    let condition = option_map v.expression_of c.deref-in-For-2.result.now.condition in
    let end = option_map v.assignment_of c.deref-in-For-2.result.now.last in
    let block = v.block_of w.block in
    let view = ap v.statement_of w.is ∙ of_for w.place w.head w.block
    ∙ ap₂ (λ (x y : Head). tree.For w.place (v.first_of x.first) (option_map v.expression_of y.condition) (option_map v.assignment_of y.last)
    (v.block_of w.block))
    (sym c.deref-in-For.ensures) (sym c.deref-in-For-2.ensures) in
    let entered = c.enter-outer.ensures.entered in
    let begins = c.in_ok-start_of_for-in-For.ensures in
    let old = p.statements_of c.args.made.now.items in
    let scope = begins.scope ∙ ap (λ (z : n.Scope). (typing.first_at gs w.place z start).scope) entered in
    IfOk-equal c.add-in-For.result _ _ _
    (two_more c.add-in-For.result _ _ old (typing.first_at gs w.place (n.entered s) start).made _ _ c.add-in-For.ensures
    (begins.made ∙ ap (λ (z : n.Scope). statements_and old (typing.first_at gs w.place z start).made) entered)
    (c.in_ok-next-in-For.ensures.made ∙ ap (λ (z : n.Scope). loop_as gs w.place z condition end block) scope))
    (ap (λ (x : tree.Statement). statements_and old (typing.statement gs s x).made) (sym view))

pub statement-returns-in_ok-next-in-For-clause-noted : goal.statement-returns-in_ok-next-in-For-clause-noted
statement-returns-in_ok-next-in-For-clause-noted t c =
    let gs = globals_of c.args.globals.now in
    let s = scope_of c.args.scope.now in
    let w = c.in-For in
    let start = v.first_of c.deref-in-For.result.now.first in
    let condition = option_map v.expression_of c.deref-in-For-2.result.now.condition in
    let end = option_map v.assignment_of c.deref-in-For-2.result.now.last in
    let block = v.block_of w.block in
    let view = ap v.statement_of w.is ∙ of_for w.place w.head w.block
    ∙ ap₂ (λ (x y : Head). tree.For w.place (v.first_of x.first) (option_map v.expression_of y.condition) (option_map v.assignment_of y.last)
    (v.block_of w.block))
    (sym c.deref-in-For.ensures) (sym c.deref-in-For-2.ensures) in
    let entered = c.enter-outer.ensures.entered in
    let begins = c.in_ok-start_of_for-in-For.ensures in
    let scope = begins.scope ∙ ap (λ (z : n.Scope). (typing.first_at gs w.place z start).scope) entered in
    let faults = first_of c.args.faults.now in
    let between = first_of c.start_of_for.new.faults in
    always c.add-in-For.result
    (noted_both faults between (first_of c.loop_of_for.new.faults) (rules.first_faults c.args.globals.now.language gs (n.entered s) start)
    (loop_faults c.args.globals.now.language gs (typing.first_at gs w.place (n.entered s) start).scope condition end block)
    (begins.noted ∙ ap (λ (z : n.Scope). noted faults (rules.first_faults c.args.globals.now.language gs z start)) entered)
    (c.in_ok-next-in-For.ensures.noted ∙ ap (λ (z : n.Scope). noted between (loop_faults c.args.globals.now.language gs z condition end block)) scope)
    ∙ ap (λ (x : tree.Statement). noted faults (rules.statement_faults c.args.globals.now.language gs s x)) (sym view))

pub statement-returns-in_ok-next-in-For-clause-scope : goal.statement-returns-in_ok-next-in-For-clause-scope
statement-returns-in_ok-next-in-For-clause-scope t c =
    let gs = globals_of c.args.globals.now in
    let s = scope_of c.args.scope.now in
    let w = c.in-For in
    let start = v.first_of c.deref-in-For.result.now.first in
    let block = v.block_of w.block in
    let view = ap v.statement_of w.is ∙ of_for w.place w.head w.block
    ∙ ap₂ (λ (x y : Head). tree.For w.place (v.first_of x.first) (option_map v.expression_of y.condition) (option_map v.assignment_of y.last)
    (v.block_of w.block))
    (sym c.deref-in-For.ensures) (sym c.deref-in-For-2.ensures) in
    let enter = c.enter-outer.ensures in
    let begins = c.in_ok-start_of_for-in-For.ensures in
    let goes = c.in_ok-next-in-For.ensures in
    let scope = begins.scope ∙ ap (λ (z : n.Scope). (typing.first_at gs w.place z start).scope) enter.entered in
    let again = left_again c.args.scope.now c.enter-outer.new.self c.loop_of_for.new.scope c.leave.new.self enter.known
    (grows_both _ _ _ begins.grows (grows_none _ _ goes.stays))
    (c.leave.ensures.known ∙ ap (λ (o : Mark). take o.known c.loop_of_for.new.scope.known.items) enter.outer)
    (c.leave.ensures.mark ∙ ap (λ (o : Mark). o.mark) enter.outer) c.leave.ensures.kinds c.leave.ensures.refers in
    always c.add-in-For.result
    (again.0 ∙ ap (n.left s) (goes.scope ∙ ap (λ (z : n.Scope). (typing.inside gs z block).scope) scope)
    ∙ ap (λ (x : tree.Statement). (typing.statement gs s x).scope) (sym view))

pub statement-returns-in_ok-next-in-For-clause-grows : goal.statement-returns-in_ok-next-in-For-clause-grows
statement-returns-in_ok-next-in-For-clause-grows t c =
    let enter = c.enter-outer.ensures in
    let again = left_again c.args.scope.now c.enter-outer.new.self c.loop_of_for.new.scope c.leave.new.self enter.known
    (grows_both _ _ _ c.in_ok-start_of_for-in-For.ensures.grows (grows_none _ _ c.in_ok-next-in-For.ensures.stays))
    (c.leave.ensures.known ∙ ap (λ (o : Mark). take o.known c.loop_of_for.new.scope.known.items) enter.outer)
    (c.leave.ensures.mark ∙ ap (λ (o : Mark). o.mark) enter.outer) c.leave.ensures.kinds c.leave.ensures.refers in
    always c.add-in-For.result (grows_none _ _ again.1)
