-- Local instructions of a hart, one after another.
use Rattle.std.proofs.Common.{◌≡◌, ℕ, zero, suc, ◌+◌, ◌<◌, ◌≤◌, List, Option, Some, None, Bool, true, false, cond, slice_get, refl, ap, sym, subst, ◌∙◌, arith}
use Rattle.machine_model.specs.Machine.{Hart as HartModel, World, with_hart}
use Rattle.hart_core.specs.declared.hart.Hart.{Hart}
use Rattle.hart_core.specs.declared.local.LocalState.{LocalState}
use Rattle.hart_core.specs.LocalSteps.{local_run, then_locally}
use Rattle.hart_core.proofs.Public.{set_found}
use Rattle.ido_machine.specs.declared.machine.Machine.{Machine}
use Rattle.ido_machine.specs.declared.signs.NextLocal.{NextLocal}
use Rattle.ido_machine.specs.declared.signs.Ran.{Ran}
use Rattle.ido_machine.specs.declared.signs.SignTable.{SignTable}
use Rattle.ido_machine.specs.Harts.{local_state_of}
use Rattle.ido_machine.specs.Machines.{RepresentsMachine}
use Rattle.ido_machine.specs.links.LocalRuns.{GoesBy, HasRun, HasRunOn, mark_at, signs_passed, state_in}
use Rattle.ido_machine.specs.links.SignTables.{placed_in, sign_at}
use Rattle.rv64_isa.specs.Rows.{written}

-- before any
pub has_run-none : (table : SignTable) (hart : Hart) → HasRun table hart hart (record { made = 0; passed = 0 })
has_run-none table hart = record { run = refl; passed = refl; few = omega arith; queue = refl }

-- one more
pub has_run-more : (table : SignTable) (first hart gone : Hart) (made passed more : ℕ) (next : NextLocal) →
    HasRun table first hart (record { made = made; passed = passed }) → GoesBy table hart next →
    gone ≡ record hart { registers = written hart.registers next.write.register next.write.value; pc = next.write.pc } →
    more ≡ cond next.mark 1 0 → HasRun table first gone (record { made = suc made; passed = passed + more })
has_run-more table first hart gone made passed more next so goes is counted = record {
  run = ap (then_locally (placed_in table)) so.run ∙ goes.local ∙ ap (λ (x : Hart). Some (state_in x)) (sym is);
  passed =
      ap (λ (n : ℕ). n + more) so.passed
      ∙ ap (λ (n : ℕ). signs_passed table (state_in first) made + n) (counted ∙ ap (λ (b : Bool). cond b 1 0) goes.mark)
      ∙ ap (λ (found : Option LocalState). signs_passed table (state_in first) made + mark_at table found) (sym so.run);
  few = by_mark next.mark counted;
  queue = ap (λ (x : Hart). x.queue) is ∙ so.queue;
}
  where
    by_mark : (b : Bool) → more ≡ cond b 1 0 → passed + more ≤ suc made
    by_mark true e = omega (arith, e, so.few)
    by_mark false e = omega (arith, e, so.few)

-- a hart that has made none is the one that it was
pub none_run_on : (machine : Machine) (w : World) (h : ℕ) (model : HartModel) (table : SignTable) → RepresentsMachine machine w →
    slice_get w.harts h ≡ Some model → HasRunOn machine w h model table (record { made = 0; passed = 0 })
none_run_on machine w h model table stands there = record {
  last = local_state_of model;
  run = refl;
  running = λ some. absurd (omega (arith, some));
  passed = refl;
  stands =
      subst (λ (harts : List HartModel). RepresentsMachine machine (record w { harts = harts })) (sym (set_found w.harts h model there)) stands;
}
