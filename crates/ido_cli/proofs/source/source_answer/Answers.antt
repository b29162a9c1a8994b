use Rattle.std.proofs.Common.{List, ℕ, subst}
use Rattle.std.proofs.lemmas.Result.{IfOk-weaker}
use Rattle.c_tree.specs.Flats.{flat_of}
use Rattle.ido_compile.specs.LoggedTexts.{IsAcceptedAs}
use Rattle.flat_compile.specs.TranslatedForms.{command_log}
use Rattle.ido_compile.proofs.Public.{few_threads}
use Rattle.ido_cli.proofs.RefusedSources.{run_refused}
use Rattle.ido_cli.proofs.source.source_answer.Goals as goal

pub flat_answer-requires-clause-few : goal.flat_answer-requires-clause-few
flat_answer-requires-clause-few c = few_threads command_log c.args.source.now c.in-Ok.flat c.in-Ok.ensures

pub returns-in-Ok : goal.returns-in-Ok
returns-in-Ok c =
    IfOk-weaker c.flat_answer.result _ _ (λ said is. is (subst (λ (text : List ℕ). IsAcceptedAs command_log text (flat_of c.in-Ok.flat)) c.requires.source
    c.in-Ok.ensures))
    c.flat_answer.ensures

pub returns-in-Err : goal.returns-in-Err
returns-in-Err c =
    IfOk-weaker c.source_refused.result _ _
    (λ said told. run_refused c.args.source.now c.args.input.now c.requires.source c.in-Err.error c.in-Err.ensures said.status said.output.items told)
    c.source_refused.ensures
