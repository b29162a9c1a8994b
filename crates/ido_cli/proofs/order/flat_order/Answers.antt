use Rattle.std.proofs.Common.{◌≡◌, Some, IfSome, subst}
use Rattle.std.proofs.lemmas.Result.{IfOk-weaker}
use Rattle.c_tree.specs.Flats.{flat_of}
use Rattle.lock_order.specs.Faults.{fault_of}
use Rattle.lock_order.specs.LockOrder.{order_fault}
use Rattle.lock_order.specs.declared.error.OrderError.{OrderError}
use Rattle.ido_cli.specs.Answers.{ordered, unordered}
use Rattle.ido_cli.proofs.RefusedSchedules.{both_ok}
use Rattle.ido_cli.proofs.order.flat_order.Goals as goal

pub returns-in-Ok : goal.returns-in-Ok
returns-in-Ok c =
    IfOk-weaker c.in_order.result _ _ (λ said both accepted. ordered (flat_of c.args.flat.now) accepted c.in-Ok.ensures.accepts both.0 both.1)
    (both_ok c.in_order.result _ _ c.in_order.ensures.status c.in_order.ensures.output)

pub returns-in-Err-NotAbove : goal.returns-in-Err-NotAbove
returns-in-Err-NotAbove c =
    let broken = subst (λ (e : OrderError). IfSome (fault_of e) (λ fault. order_fault (flat_of c.args.flat.now) ≡ Some fault)) c.in-Err-NotAbove.field-0-is
    c.in-Err-NotAbove.ensures.refuses in
    IfOk-weaker c.refused_after.result _ _
    (λ said both accepted. unordered (flat_of c.args.flat.now) accepted
    (record { place = c.in-Err-NotAbove.place; earlier = c.in-Err-NotAbove.earlier }) broken both.0 both.1)
    (both_ok c.refused_after.result _ _ c.refused_after.ensures.status c.refused_after.ensures.output)
