use Rattle.std.proofs.lemmas.Result.{IfOk-weaker}
use Rattle.ido_cli.proofs.RefusedSources.{regions_refused}
use Rattle.ido_cli.proofs.regions.regions_answer.Goals as goal

pub returns-in-Err : goal.returns-in-Err
returns-in-Err c =
    IfOk-weaker c.source_refused.result _ _
    (λ said told. regions_refused c.args.least c.args.source.now c.in-Err.error c.in-Err.ensures said.status said.output.items told)
    c.source_refused.ensures
