use Rattle.std.proofs.lemmas.Result.{IfOk-weaker}
use Rattle.ido_cli.proofs.RefusedSources.{order_refused}
use Rattle.ido_cli.proofs.order.order_answer.Goals as goal

pub returns-in-Ok : goal.returns-in-Ok
returns-in-Ok c = IfOk-weaker c.flat_order.result _ _ (λ said is. is c.in-Ok.ensures) c.flat_order.ensures

pub returns-in-Err : goal.returns-in-Err
returns-in-Err c =
    IfOk-weaker c.source_refused.result _ _ (λ said told. order_refused c.args.source.now c.in-Err.error c.in-Err.ensures said.status said.output.items told)
    c.source_refused.ensures
