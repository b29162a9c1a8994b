use Rattle.std.proofs.Common.{refl, subst}
use Rattle.std.specs.Prelude.{Err}
use Rattle.std.proofs.lemmas.Result.{err_from_is_err_and}
use Rattle.log_schemes.specs.declared.log.Log.{Log}
use Rattle.ido_compile.specs.CompileAnswers.{IsCompiledAs, IsCompileAnswerAs}
use Rattle.ido_cli.proofs.CompiledImages.{compile_answer, source_answer, version_answer}
use Rattle.ido_cli.proofs.compiled_image.begin.Goals as goal

pub returns-in_err-version : goal.returns-in_err-version
returns-in_err-version c =
    let p = err_from_is_err_and c.from_residual.result c.from_residual.ensures.1 in
    rw (p.1, p.2) (version_answer c.args.newest c.args.bytes.now c.in_err-version.field-0.0 c.in_err-version.ensures.exact)

pub returns-in_err-source : goal.returns-in_err-source
returns-in_err-source c =
    let p = err_from_is_err_and c.from_residual-in_err-source.result c.from_residual-in_err-source.ensures.1 in
    rw (p.1, p.2)
    (source_answer c.args.newest c.args.bytes.now c.in_ok-version.version c.in_ok-version.ensures.exact c.in_err-source.field-0.0
    c.in_err-source.ensures.exact)

pub returns-in_err-compiled : goal.returns-in_err-compiled
returns-in_err-compiled c =
    let p = err_from_is_err_and c.from_residual-in_err-compiled.result c.from_residual-in_err-compiled.ensures.1 in
    let found = c.in_err-compiled.ensures in
    let source = c.in_ok-source.source.now in
    rw (p.1, p.2, found.1)
    (compile_answer c.args.newest c.args.bytes.now c.in_ok-version.version c.in_ok-version.ensures.exact c.one_verdict.ensures.not_both source
    c.in_ok-source.rest.now c.in_ok-source.ensures.exact found.0 (subst (λ (log : Log). IsCompileAnswerAs log source (Err found.0)) c.log.ensures found.2))

pub returns : goal.returns
returns c =
    let source = c.in_ok-source.source.now in
    record {
      is = record {
        source = source;
        rest = c.in_ok-source.rest.now;
        known = c.in_ok-version.ensures.exact;
        begins = c.in_ok-source.ensures.exact;
        compiled = subst (λ (log : Log). IsCompiledAs log source c.in_ok-compiled.compiled) c.log.ensures c.in_ok-compiled.ensures;
      };
      source = refl;
      short = c.in_ok-source.ensures.found.0;
      rest = refl;
    }
