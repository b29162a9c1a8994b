use Rattle.std.proofs.Common.{◌<◌, length, map, refl, arith}
use Rattle.std.proofs.lemmas.Result.{err_from_is_err_and}
use Rattle.c_tree.specs.Programs.{mutex_of}
use Rattle.c_tree.specs.links.KnownNames.{names_of}
use Rattle.lock_order.proofs.Walks as p
use Rattle.lock_order.proofs.walk.+walk.Goals as goal

pub walk_statement-returns-in_err-walk_arms-in-If : goal.walk_statement-returns-in_err-walk_arms-in-If
walk_statement-returns-in_err-walk_arms-in-If t c =
    let ms = map mutex_of c.args.mutexes.now in
    let names = names_of c.args.names.now in
    let q = err_from_is_err_and c.from_residual.result c.from_residual.ensures.1 in
    let w = c.in-If in
    rw (q.1, q.2)
    (p.refuses_then _ _ _ _
    (p.if_is ms names _ c.args.statement.now w.place w.arms w.otherwise c.deref.result.now w.otherwise.items w.is c.deref.ensures.value refl)
    c.in_err-walk_arms-in-If.ensures)

pub walk_statement-returns-in_ok-walk_arms-in-If : goal.walk_statement-returns-in_ok-walk_arms-in-If
walk_statement-returns-in_ok-walk_arms-in-If t c =
    let ms = map mutex_of c.args.mutexes.now in
    let names = names_of c.args.names.now in
    let w = c.in-If in
    p.matches_then _ _ _ _ _ _
    (p.if_is ms names _ c.args.statement.now w.place w.arms w.otherwise c.deref.result.now c.deref-in-If.result.now w.is c.deref.ensures.value
    c.deref-in-If.ensures.value)
    c.in_ok-walk_arms-in-If.ensures c.walk_statements.ensures

pub walk_statement-returns-in-While : goal.walk_statement-returns-in-While
walk_statement-returns-in-While t c =
    let ms = map mutex_of c.args.mutexes.now in
    let names = names_of c.args.names.now in
    let w = c.in-While in
    p.matches_as _ _ _ _ (p.while_is ms names _ c.args.statement.now w.place w.condition w.body c.deref-in-While.result.now w.is c.deref-in-While.ensures.value)
    c.walk_apart.ensures

pub walk_statement-returns-in-Do : goal.walk_statement-returns-in-Do
walk_statement-returns-in-Do t c =
    let ms = map mutex_of c.args.mutexes.now in
    let names = names_of c.args.names.now in
    let w = c.in-Do in
    p.matches_as _ _ _ _ (p.do_is ms names _ c.args.statement.now w.place w.body w.condition c.deref-in-Do.result.now w.is c.deref-in-Do.ensures.value)
    c.walk_apart-in-Do.ensures

pub walk_statements-returns-in_err-walk_statement : goal.walk_statements-returns-in_err-walk_statement
walk_statements-returns-in_err-walk_statement t c =
    let ms = map mutex_of c.args.mutexes.now in
    let names = names_of c.args.names.now in
    let q = err_from_is_err_and c.from_residual.result c.from_residual.ensures.1 in
    let xs = c.args.statements.now in
    let within : c.loop-statement.statement-index < length xs = omega arith in
    rw (q.1, q.2)
    (p.refuses_then _ _ _ _ (p.at_next ms names _ _ xs c.loop-statement.statement-index c.statement-item.result within c.statement-item.is
    c.loop-statement.invariant)
    c.in_err-walk_statement.ensures)

pub walk_statements-loop-statement-preserved : goal.walk_statements-loop-statement-preserved
walk_statements-loop-statement-preserved t c =
    let ms = map mutex_of c.args.mutexes.now in
    let names = names_of c.args.names.now in
    let xs = c.args.statements.now in
    let within : c.loop-statement.statement-index < length xs = omega arith in
    p.next_walk ms names _ _ _ xs c.loop-statement.statement-index c.statement-item.result within c.statement-item.is c.loop-statement.invariant
    c.in_ok-walk_statement.ensures

pub walk_statements-returns : goal.walk_statements-returns
walk_statements-returns t c =
    let ms = map mutex_of c.args.mutexes.now in
    let names = names_of c.args.names.now in
    p.no_next ms names _ _ c.args.statements.now c.loop-statement.statement-index (omega arith) c.loop-statement.invariant

pub walk_arms-returns-in_err-walk_apart : goal.walk_arms-returns-in_err-walk_apart
walk_arms-returns-in_err-walk_apart t c =
    let ms = map mutex_of c.args.mutexes.now in
    let names = names_of c.args.names.now in
    let q = err_from_is_err_and c.from_residual.result c.from_residual.ensures.1 in
    let xs = c.args.arms.now in
    let within : c.loop-arm.arm-index < length xs = omega arith in
    rw (q.1, q.2)
    (p.refuses_then _ _ _ _
    (p.at_arm ms names _ _ xs c.loop-arm.arm-index c.arm-item.result c.deref.result.now within c.arm-item.is c.deref.ensures.value c.loop-arm.invariant)
    c.in_err-walk_apart.ensures)

pub walk_arms-loop-arm-preserved : goal.walk_arms-loop-arm-preserved
walk_arms-loop-arm-preserved t c =
    let ms = map mutex_of c.args.mutexes.now in
    let names = names_of c.args.names.now in
    let xs = c.args.arms.now in
    let within : c.loop-arm.arm-index < length xs = omega arith in
    p.next_arm ms names _ _ _ xs c.loop-arm.arm-index c.arm-item.result c.deref.result.now within c.arm-item.is c.deref.ensures.value c.loop-arm.invariant
    c.in_ok-walk_apart.ensures

pub walk_arms-returns : goal.walk_arms-returns
walk_arms-returns t c =
    let ms = map mutex_of c.args.mutexes.now in
    let names = names_of c.args.names.now in
    p.no_arm ms names _ _ c.args.arms.now c.loop-arm.arm-index (omega arith) c.loop-arm.invariant
