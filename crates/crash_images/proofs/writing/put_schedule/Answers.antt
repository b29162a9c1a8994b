use Rattle.std.proofs.Common.{All, ap, length, subst, sym, arith}
use Rattle.std.proofs.lemmas.Result.{on_ok_weaker}
use Rattle.file_fields.specs.Numbers.{IsNumber}
use Rattle.run_scripts.specs.declared.runs.Run.{Run}
use Rattle.crash_images.proofs.WrittenImages.{life_fits, runs_put, steps_put}
use Rattle.crash_images.proofs.writing.put_schedule.Goals as goal

pub put_life-requires-clause-runs : goal.put_life-requires-clause-runs
put_life-requires-clause-runs c =
    omega (arith, runs_put c.args.schedule.now c.in_ok-runs.runs.items c.requires c.in_ok-runs.ensures.runs, ap length c.deref.ensures.value)

pub put_life-requires-clause-steps : goal.put_life-requires-clause-steps
put_life-requires-clause-steps c =
    subst (All (λ (run : Run). IsNumber run.steps)) (sym c.deref.ensures.value)
    (steps_put c.args.schedule.now c.in_ok-runs.runs.items (λ i. omega (arith, c.type_inv.schedule i)) c.requires c.in_ok-runs.ensures.runs)

pub returns-clause-fits : goal.returns-clause-fits
returns-clause-fits c =
    on_ok_weaker c.put_life.result (λ put. life_fits c.args.schedule.now (λ i. omega (arith, c.type_inv.schedule i)) c.requires) c.put_life.ensures
