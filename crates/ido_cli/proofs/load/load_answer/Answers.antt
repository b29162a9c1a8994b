use Rattle.std.proofs.Common.{refl}
use Rattle.std.proofs.lemmas.Result.{IfOk-weaker}
use Rattle.c_tree.specs.Flats.{flat_of}
use Rattle.ido_cli.specs.Schemes.{log_by}
use Rattle.ido_compile.specs.CompileAnswers.{translation_in}
use Rattle.run_scripts.specs.GeneratedSources.{generated_source}
use Rattle.ido_cli.proofs.CompiledLimits.{ready, translated_by_object}
use Rattle.ido_cli.proofs.LoadedRuns.{load_ends}
use Rattle.ido_cli.proofs.load.load_answer.Goals as goal

pub loaded-requires-clause-translated : goal.loaded-requires-clause-translated
loaded-requires-clause-translated g c κs within =
    translated_by_object (log_by c.args.scheme) (generated_source c.args.count c.args.seed) c.in_ok-compiled.compiled c.in_ok-compiled.ensures.compiled

pub returns : goal.returns
returns g c =
    let x = c.in_ok-compiled.compiled in
    let y = x.translated in
    let is = c.in_ok-compiled.ensures.compiled in
    IfOk-weaker c.loaded.result _ _
    (λ said run. record {
      flat = flat_of x.flat;
      accepted = is.accepted;
      in_order = c.in_ok-compiled.ensures.in_order;
      translation = translation_in x;
      translated = record {
        object = y.object;
        marks = y.marks;
        cuts = y.cuts;
        translated = is.translated;
        compilation = is.compilation;
        is = refl;
      };
      events = run.events;
      run = run.run;
      summary = run.summed;
      ends = load_ends c.stops_are_settled.ensures (translation_in x) is.compilation
          (ready (log_by c.args.scheme) (generated_source c.args.count c.args.seed) x is).formed c.in_ok-compiled.ensures.in_order
          run.events said.status said.output.items run.run run.summed;
    })
    c.loaded.ensures
