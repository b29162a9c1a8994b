use Rattle.std.proofs.Common.{ℕ, subst}
use Rattle.std.proofs.lemmas.Result.{IfOk-weaker}
use Rattle.std.specs.Prelude.{Result}
use Rattle.run_scripts.specs.declared.few.Excess.{Excess}
use Rattle.run_scripts.specs.links.ScriptViews.{few_fault_of}
use Rattle.ido_compile.specs.CompileAnswers.{translation_in}
use Rattle.ido_cli.specs.Sweeps.{faulty}
use Rattle.ido_cli.specs.links.CrashPoints.{IsCounted}
use Rattle.ido_cli.proofs.sweep.script_answer.Goals as goal

pub returns-in-Err : goal.returns-in-Err
returns-in-Err g c =
    let past = subst (λ (r : Result ℕ Excess). IsCounted (translation_in c.args.compiled) c.args.script r) c.in-Err.is c.in_ok-last.ensures in
    IfOk-weaker c.excess_refused.result _ _ (λ said is. faulty (few_fault_of c.in-Err.excess) past is) c.excess_refused.ensures
