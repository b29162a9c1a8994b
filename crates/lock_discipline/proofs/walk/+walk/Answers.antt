use Rattle.std.proofs.Common.{◌≡◌, ◌<◌, [], length, map, sym, ap, ◌∙◌, arith}
use Rattle.std.proofs.lemmas.Result.{err_from_is_err_and}
use Rattle.std.proofs.lemmas.List.Elements.{All-push, All-same}
use Rattle.c_tree.specs.Programs.{variable_of}
use Rattle.c_tree.specs.Flats.{statement_of, statements_of, arms_list_of}
use Rattle.c_tree.specs.LockNames.{Held}
use Rattle.c_tree.specs.links.KnownNames.{names_of}
use Rattle.c_tree.specs.LockDiscipline.{After, walk_arms}
use Rattle.lock_discipline.proofs.CheckerCorrectness.{after_then}
use Rattle.lock_discipline.proofs.Refusals.{refuses_then, refuses_as, refuses_any, refuses_one}
use Rattle.lock_discipline.proofs.CheckerByStatement as p
use Rattle.lock_discipline.proofs.walk.+walk.Goals as goal

pub walk_statement-returns-in_err-check_expr-in-Assign-clause-walk : goal.walk_statement-returns-in_err-check_expr-in-Assign-clause-walk
walk_statement-returns-in_err-check_expr-in-Assign-clause-walk t c =
    let q = err_from_is_err_and c.from_residual-in_err-check_expr-in-Assign.result c.from_residual-in_err-check_expr-in-Assign.ensures.1 in
    let language = c.args.language in
    let vs = map variable_of c.args.variables.now in
    let names = names_of c.args.names.now in
    let h = c.args.held.now in
    let w = c.in-Assign in
    rw (q.1, q.2) (refuses_then _ _ _ _ (p.assign_is language vs names h c.requires c.args.statement.now w.place w.target w.value w.is)
    c.in_err-check_expr-in-Assign.ensures)

pub walk_statement-returns-in_err-check_target-in-Assign-clause-walk : goal.walk_statement-returns-in_err-check_target-in-Assign-clause-walk
walk_statement-returns-in_err-check_target-in-Assign-clause-walk t c =
    let q = err_from_is_err_and c.from_residual-in_err-check_target-in-Assign.result c.from_residual-in_err-check_target-in-Assign.ensures.1 in
    let language = c.args.language in
    let vs = map variable_of c.args.variables.now in
    let names = names_of c.args.names.now in
    let h = c.args.held.now in
    let w = c.in-Assign in
    rw (q.1, q.2) (refuses_then _ _ _ _ (p.assign_is language vs names h c.requires c.args.statement.now w.place w.target w.value w.is
    ∙ after_then _ _ h c.in_ok-check_expr-in-Assign.ensures) c.in_err-check_target-in-Assign.ensures)

pub walk_statement-returns-in_err-check_free-in-Assign-clause-walk : goal.walk_statement-returns-in_err-check_free-in-Assign-clause-walk
walk_statement-returns-in_err-check_free-in-Assign-clause-walk t c =
    let q = err_from_is_err_and c.from_residual-in_err-check_free-in-Assign.result c.from_residual-in_err-check_free-in-Assign.ensures.1 in
    let language = c.args.language in
    let vs = map variable_of c.args.variables.now in
    let names = names_of c.args.names.now in
    let h = c.args.held.now in
    let w = c.in-Assign in
    rw (q.1, q.2) (refuses_as _ _ _ (p.assign_is language vs names h c.requires c.args.statement.now w.place w.target w.value w.is
    ∙ after_then _ _ h c.in_ok-check_expr-in-Assign.ensures ∙ after_then _ _ h c.in_ok-check_target-in-Assign.ensures) c.in_err-check_free-in-Assign.ensures)

pub walk_statement-returns-in_ok-end-in-Assign-clause-walk : goal.walk_statement-returns-in_ok-end-in-Assign-clause-walk
walk_statement-returns-in_ok-end-in-Assign-clause-walk t c =
    let language = c.args.language in
    let vs = map variable_of c.args.variables.now in
    let names = names_of c.args.names.now in
    let h = c.args.held.now in
    let w = c.in-Assign in
    p.assign_is language vs names h c.requires c.args.statement.now w.place w.target w.value w.is ∙ after_then _ _ h c.in_ok-check_expr-in-Assign.ensures
    ∙ after_then _ _ h c.in_ok-check_target-in-Assign.ensures ∙ c.in_ok-check_free-in-Assign.ensures ∙ ap After (sym c.in_ok-end-in-Assign.ensures)

pub walk_statement-returns-in_err-ends-in-If-clause-walk : goal.walk_statement-returns-in_err-ends-in-If-clause-walk
walk_statement-returns-in_err-ends-in-If-clause-walk t c =
    let q = err_from_is_err_and c.from_residual-in_err-ends-in-If.result c.from_residual-in_err-ends-in-If.ensures.1 in
    let language = c.args.language in
    let vs = map variable_of c.args.variables.now in
    let names = names_of c.args.names.now in
    let h = c.args.held.now in
    let w = c.in-If in
    let same : c.deref.result.now ≡ w.arms.items = c.deref.ensures.value in
    rw (q.1, q.2) (refuses_one _ _ _ _
    (p.if_is language vs names h c.requires c.args.statement.now w.place w.arms w.otherwise c.deref.result.now w.is same) c.in_err-ends-in-If.ensures.walk)

pub walk_statement-returns-in_err-end-in-If-clause-walk : goal.walk_statement-returns-in_err-end-in-If-clause-walk
walk_statement-returns-in_err-end-in-If-clause-walk t c =
    let q = err_from_is_err_and c.from_residual-in_err-end-in-If.result c.from_residual-in_err-end-in-If.ensures.1 in
    let language = c.args.language in
    let vs = map variable_of c.args.variables.now in
    let names = names_of c.args.names.now in
    let h = c.args.held.now in
    let w = c.in-If in
    let same : c.deref.result.now ≡ w.arms.items = c.deref.ensures.value in
    let equal : c.deref-in-If.result.now ≡ w.otherwise.items = c.deref-in-If.ensures.value in
    rw (q.1, q.2) (refuses_then _ _ _ _
    (p.otherwise_is language vs names h c.requires c.args.statement.now w.place w.arms w.otherwise c.deref.result.now c.deref-in-If.result.now
    c.in_ok-ends-in-If.ends.items w.is same equal c.in_ok-ends-in-If.ensures.walk) c.in_err-end-in-If.ensures.walk)

pub walk_statement-join-requires : goal.walk_statement-join-requires
walk_statement-join-requires t c =
    let names = names_of c.args.names.now in
    p.walked_all_length c.args.language (map variable_of c.args.variables.now) names c.args.held.now c.requires (statements_of c.deref-in-If.result.now)
    c.in_ok-end-in-If.end c.in_ok-end-in-If.ensures.walk

pub walk_statement-returns-in_err-join-in-If-clause-walk : goal.walk_statement-returns-in_err-join-in-If-clause-walk
walk_statement-returns-in_err-join-in-If-clause-walk t c =
    let q = err_from_is_err_and c.from_residual-in_err-join-in-If.result c.from_residual-in_err-join-in-If.ensures.1 in
    let language = c.args.language in
    let vs = map variable_of c.args.variables.now in
    let names = names_of c.args.names.now in
    let h = c.args.held.now in
    let w = c.in-If in
    let same : c.deref.result.now ≡ w.arms.items = c.deref.ensures.value in
    let equal : c.deref-in-If.result.now ≡ w.otherwise.items = c.deref-in-If.ensures.value in
    rw (q.1, q.2) (refuses_as _ _ _
    (p.ends_meet language vs names h c.requires c.args.statement.now w.place w.arms w.otherwise c.deref.result.now c.deref-in-If.result.now
    c.in_ok-ends-in-If.ends.items
    c.deref-in-If-2.result.now c.in_ok-end-in-If.end w.is same equal c.in_ok-ends-in-If.ensures.walk c.in_ok-ends-in-If.ensures.long
    c.in_ok-end-in-If.ensures.walk c.deref-in-If-2.ensures.value) c.in_err-join-in-If.ensures)

pub walk_statement-returns-in_ok-join-in-If-clause-walk : goal.walk_statement-returns-in_ok-join-in-If-clause-walk
walk_statement-returns-in_ok-join-in-If-clause-walk t c =
    let language = c.args.language in
    let vs = map variable_of c.args.variables.now in
    let names = names_of c.args.names.now in
    let h = c.args.held.now in
    let w = c.in-If in
    let same : c.deref.result.now ≡ w.arms.items = c.deref.ensures.value in
    let equal : c.deref-in-If.result.now ≡ w.otherwise.items = c.deref-in-If.ensures.value in
    p.ends_meet language vs names h c.requires c.args.statement.now w.place w.arms w.otherwise c.deref.result.now c.deref-in-If.result.now
    c.in_ok-ends-in-If.ends.items
    c.deref-in-If-2.result.now c.in_ok-end-in-If.end w.is same equal c.in_ok-ends-in-If.ensures.walk c.in_ok-ends-in-If.ensures.long
    c.in_ok-end-in-If.ensures.walk c.deref-in-If-2.ensures.value ∙ c.in_ok-join-in-If.ensures

pub walk_statement-returns-in_ok-join-in-If-clause-sets : goal.walk_statement-returns-in_ok-join-in-If-clause-sets
walk_statement-returns-in_ok-join-in-If-clause-sets t c =
    let language = c.args.language in
    let vs = map variable_of c.args.variables.now in
    let names = names_of c.args.names.now in
    let h = c.args.held.now in
    let w = c.in-If in
    let same : c.deref.result.now ≡ w.arms.items = c.deref.ensures.value in
    let equal : c.deref-in-If.result.now ≡ w.otherwise.items = c.deref-in-If.ensures.value in
    p.if_sets language vs names h c.requires c.args.statement.now w.place w.arms w.otherwise c.deref.result.now c.deref-in-If.result.now _ _ _ w.is same equal
    c.in_ok-ends-in-If.ensures.sets c.in_ok-end-in-If.ensures.sets

pub walk_statement-returns-in_err-end-in-While-clause-walk : goal.walk_statement-returns-in_err-end-in-While-clause-walk
walk_statement-returns-in_err-end-in-While-clause-walk t c =
    let q = err_from_is_err_and c.from_residual-in_err-end-in-While.result c.from_residual-in_err-end-in-While.ensures.1 in
    let language = c.args.language in
    let vs = map variable_of c.args.variables.now in
    let names = names_of c.args.names.now in
    let h = c.args.held.now in
    let w = c.in-While in
    let same : c.deref-in-While.result.now ≡ w.body.items = c.deref-in-While.ensures.value in
    rw (q.1, q.2) (refuses_then _ _ _ _
    (p.while_is language vs names h c.requires c.args.statement.now w.place w.condition w.body c.deref-in-While.result.now w.is same
    c.in_ok-check_expr-in-While.ensures)
    c.in_err-end-in-While.ensures.walk)

pub walk_statement-returns-in_err-join-in-While-clause-walk : goal.walk_statement-returns-in_err-join-in-While-clause-walk
walk_statement-returns-in_err-join-in-While-clause-walk t c =
    let q = err_from_is_err_and c.from_residual-in_err-join-in-While.result c.from_residual-in_err-join-in-While.ensures.1 in
    let language = c.args.language in
    let vs = map variable_of c.args.variables.now in
    let names = names_of c.args.names.now in
    let h = c.args.held.now in
    let w = c.in-While in
    let same : c.deref-in-While.result.now ≡ w.body.items = c.deref-in-While.ensures.value in
    rw (q.1, q.2) (refuses_as _ _ _
    (p.while_is language vs names h c.requires c.args.statement.now w.place w.condition w.body c.deref-in-While.result.now w.is same
    c.in_ok-check_expr-in-While.ensures
    ∙ after_then _ _ c.in_ok-end-in-While.end c.in_ok-end-in-While.ensures.walk) c.in_err-join-in-While.ensures)

pub walk_statement-returns-in_ok-first-in-While-clause-walk : goal.walk_statement-returns-in_ok-first-in-While-clause-walk
walk_statement-returns-in_ok-first-in-While-clause-walk t c =
    let language = c.args.language in
    let vs = map variable_of c.args.variables.now in
    let names = names_of c.args.names.now in
    let h = c.args.held.now in
    let w = c.in-While in
    let same : c.deref-in-While.result.now ≡ w.body.items = c.deref-in-While.ensures.value in
    p.while_is language vs names h c.requires c.args.statement.now w.place w.condition w.body c.deref-in-While.result.now w.is same
    c.in_ok-check_expr-in-While.ensures
    ∙ after_then _ _ c.in_ok-end-in-While.end c.in_ok-end-in-While.ensures.walk ∙ c.in_ok-join-in-While.ensures
    ∙ ap After (sym c.in_ok-first-in-While.ensures)

pub walk_statement-returns-in_ok-first-in-While-clause-sets : goal.walk_statement-returns-in_ok-first-in-While-clause-sets
walk_statement-returns-in_ok-first-in-While-clause-sets t c =
    let language = c.args.language in
    let vs = map variable_of c.args.variables.now in
    let names = names_of c.args.names.now in
    let h = c.args.held.now in
    let w = c.in-While in
    let same : c.deref-in-While.result.now ≡ w.body.items = c.deref-in-While.ensures.value in
    p.while_sets language vs names h c.requires c.args.statement.now w.place w.condition w.body c.deref-in-While.result.now _ _ _ w.is same
    c.in_ok-push-in-While.ensures
    c.in_ok-end-in-While.ensures.sets

pub walk_statement-returns-in_err-after-in-Do-clause-walk : goal.walk_statement-returns-in_err-after-in-Do-clause-walk
walk_statement-returns-in_err-after-in-Do-clause-walk t c =
    let q = err_from_is_err_and c.from_residual-in_err-after-in-Do.result c.from_residual-in_err-after-in-Do.ensures.1 in
    let language = c.args.language in
    let vs = map variable_of c.args.variables.now in
    let names = names_of c.args.names.now in
    let h = c.args.held.now in
    let w = c.in-Do in
    let same : c.deref-in-Do.result.now ≡ w.body.items = c.deref-in-Do.ensures.value in
    rw (q.1, q.2) (refuses_then _ _ _ _
    (p.do_is language vs names h c.requires c.args.statement.now w.place w.body w.condition c.deref-in-Do.result.now w.is same)
    c.in_err-after-in-Do.ensures.walk)

pub walk_statement-returns-in_err-check_expr-in-Do-clause-walk : goal.walk_statement-returns-in_err-check_expr-in-Do-clause-walk
walk_statement-returns-in_err-check_expr-in-Do-clause-walk t c =
    let q = err_from_is_err_and c.from_residual-in_err-check_expr-in-Do.result c.from_residual-in_err-check_expr-in-Do.ensures.1 in
    let language = c.args.language in
    let vs = map variable_of c.args.variables.now in
    let names = names_of c.args.names.now in
    let h = c.args.held.now in
    let w = c.in-Do in
    let same : c.deref-in-Do.result.now ≡ w.body.items = c.deref-in-Do.ensures.value in
    rw (q.1, q.2) (refuses_then _ _ _ _
    (p.do_tests language vs names h c.requires c.args.statement.now w.place w.body w.condition c.deref-in-Do.result.now c.in_ok-after-in-Do.after w.is same
    c.in_ok-after-in-Do.ensures.walk) c.in_err-check_expr-in-Do.ensures)

pub walk_statement-returns-in_err-join-in-Do-clause-walk : goal.walk_statement-returns-in_err-join-in-Do-clause-walk
walk_statement-returns-in_err-join-in-Do-clause-walk t c =
    let q = err_from_is_err_and c.from_residual-in_err-join-in-Do.result c.from_residual-in_err-join-in-Do.ensures.1 in
    let language = c.args.language in
    let vs = map variable_of c.args.variables.now in
    let names = names_of c.args.names.now in
    let h = c.args.held.now in
    let w = c.in-Do in
    let same : c.deref-in-Do.result.now ≡ w.body.items = c.deref-in-Do.ensures.value in
    rw (q.1, q.2) (refuses_as _ _ _
    (p.do_tests language vs names h c.requires c.args.statement.now w.place w.body w.condition c.deref-in-Do.result.now c.in_ok-after-in-Do.after w.is same
    c.in_ok-after-in-Do.ensures.walk ∙ after_then _ _ c.in_ok-after-in-Do.after c.in_ok-check_expr-in-Do.ensures) c.in_err-join-in-Do.ensures)

pub walk_statement-returns-in_ok-first-in-Do-clause-walk : goal.walk_statement-returns-in_ok-first-in-Do-clause-walk
walk_statement-returns-in_ok-first-in-Do-clause-walk t c =
    let language = c.args.language in
    let vs = map variable_of c.args.variables.now in
    let names = names_of c.args.names.now in
    let h = c.args.held.now in
    let w = c.in-Do in
    let same : c.deref-in-Do.result.now ≡ w.body.items = c.deref-in-Do.ensures.value in
    p.do_tests language vs names h c.requires c.args.statement.now w.place w.body w.condition c.deref-in-Do.result.now c.in_ok-after-in-Do.after w.is same
    c.in_ok-after-in-Do.ensures.walk ∙ after_then _ _ c.in_ok-after-in-Do.after c.in_ok-check_expr-in-Do.ensures ∙ c.in_ok-join-in-Do.ensures
    ∙ ap After (sym c.in_ok-first-in-Do.ensures)

pub walk_statement-returns-in_ok-first-in-Do-clause-sets : goal.walk_statement-returns-in_ok-first-in-Do-clause-sets
walk_statement-returns-in_ok-first-in-Do-clause-sets t c =
    let language = c.args.language in
    let vs = map variable_of c.args.variables.now in
    let names = names_of c.args.names.now in
    let h = c.args.held.now in
    let w = c.in-Do in
    let same : c.deref-in-Do.result.now ≡ w.body.items = c.deref-in-Do.ensures.value in
    p.do_sets language vs names h c.requires c.args.statement.now w.place w.body w.condition c.deref-in-Do.result.now c.in_ok-after-in-Do.after _ _ _ w.is same
    c.in_ok-after-in-Do.ensures.walk c.in_ok-after-in-Do.ensures.sets c.in_ok-push-in-Do.ensures

pub walk_statements-loop-statement-preserved : goal.walk_statements-loop-statement-preserved
walk_statements-loop-statement-preserved t c =
    let language = c.args.language in
    let vs = map variable_of c.args.variables.now in
    let names = names_of c.args.names.now in
    let xs = c.args.statements.now in
    let kept = c.loop-statement.invariant in
    let h = c.loop-statement.end in
    let k = c.in_ok-end.end in
    let x = c.statement-item.result in
    let within : c.loop-statement.statement-index < length xs = omega arith in
    record {
      long = p.walked_length language vs names h kept.long (statement_of x) k c.in_ok-end.ensures.walk;
      walk = p.next_walk language vs names _ h k xs c.loop-statement.statement-index x within c.statement-item.is kept.walk c.in_ok-end.ensures.walk;
      sets = p.next_sets names h k xs c.loop-statement.statement-index x _ _ _ within c.statement-item.is
          (p.walked_after language vs names h kept.long (statement_of x) k c.in_ok-end.ensures.walk) c.in_ok-end.ensures.sets kept.sets;
    }

pub walk_arms-returns-in_err-check_expr-clause-walk : goal.walk_arms-returns-in_err-check_expr-clause-walk
walk_arms-returns-in_err-check_expr-clause-walk t c =
    let q = err_from_is_err_and c.from_residual-in_err-check_expr.result c.from_residual-in_err-check_expr.ensures.1 in
    let language = c.args.language in
    let vs = map variable_of c.args.variables.now in
    let names = names_of c.args.names.now in
    let h = c.args.held.now in
    let xs = c.args.arms.now in
    let within : c.loop-arm.arm-index < length xs = omega arith in
    rw (q.1, q.2) (refuses_any _ _ _ _ (p.at_arm language vs names h (walk_arms language vs names h []
    (arms_list_of xs)) c.loop-arm.ends.items xs c.loop-arm.arm-index c.arm-item.result within c.arm-item.is c.loop-arm.invariant.walk)
    c.in_err-check_expr.ensures)

pub walk_arms-returns-in_err-walk_statements-clause-walk : goal.walk_arms-returns-in_err-walk_statements-clause-walk
walk_arms-returns-in_err-walk_statements-clause-walk t c =
    let q = err_from_is_err_and c.from_residual-in_err-walk_statements.result c.from_residual-in_err-walk_statements.ensures.1 in
    let language = c.args.language in
    let vs = map variable_of c.args.variables.now in
    let names = names_of c.args.names.now in
    let h = c.args.held.now in
    let xs = c.args.arms.now in
    let within : c.loop-arm.arm-index < length xs = omega arith in
    rw (q.1, q.2) (refuses_any _ _ _ _
    (p.in_arm_body language vs names h (walk_arms language vs names h []
    (arms_list_of xs)) c.loop-arm.ends.items xs c.loop-arm.arm-index c.arm-item.result c.deref.result.now within c.arm-item.is c.deref.ensures.value
    c.loop-arm.invariant.walk c.in_ok-check_expr.ensures)
    c.in_err-walk_statements.ensures.walk)

pub walk_arms-loop-arm-preserved : goal.walk_arms-loop-arm-preserved
walk_arms-loop-arm-preserved t c =
    let language = c.args.language in
    let vs = map variable_of c.args.variables.now in
    let names = names_of c.args.names.now in
    let h = c.args.held.now in
    let xs = c.args.arms.now in
    let k = c.in_ok-walk_statements.field-0 in
    let within : c.loop-arm.arm-index < length xs = omega arith in
    record {
      long = All-same (λ (y : Held). length y ≡ length names) _ _ c.in_ok-push-2.ensures.items
          (All-push (λ (y : Held). length y ≡ length names) c.loop-arm.ends.items k c.loop-arm.invariant.long
          (p.walked_all_length language vs names h c.requires (statements_of c.deref.result.now) k c.in_ok-walk_statements.ensures.walk));
      walk = p.next_arm language vs names h (walk_arms language vs names h []
          (arms_list_of xs)) c.loop-arm.ends.items _ k xs c.loop-arm.arm-index c.arm-item.result c.deref.result.now within c.arm-item.is c.deref.ensures.value
          c.loop-arm.invariant.walk c.in_ok-check_expr.ensures c.in_ok-walk_statements.ensures.walk c.in_ok-push-2.ensures.items;
      sets =
          p.next_arm_sets names h xs c.loop-arm.arm-index c.arm-item.result c.deref.result.now _ _ _ _ within c.arm-item.is
          c.deref.ensures.value
          c.in_ok-push.ensures c.in_ok-walk_statements.ensures.sets c.loop-arm.invariant.sets;
    }
