-- A step by which a hart has a lock no more: it is one of a hart at a call, which leaves words as they are.
use Rattle.std.proofs.Common.{◌≡◌, inl, inr, refl, ℕ, List, ap, sym, ◌∙◌, subst, Option, Some, None, slice_get, slice_set}
use Rattle.machine_events.specs.declared.event.Event.TheVariants.{Step}
use Rattle.machine_model.specs.declared.phase.Phase.{Phase}
use Rattle.machine_model.specs.declared.phase.Phase.TheVariants.{Take, Wait, Resume, Run, Done, Ended}
use Rattle.machine_model.specs.Machine.{Hart, Outcome, World, after_event}
use Rattle.machine_model.proofs.Public.{get-set_other, get-set_same}
use Rattle.hart_runs.specs.Calls.{AwaitsOthers, IsInPhase, TakesLocks, all_have, has_all, is_kept_from, one_takes, takes_one}
use Rattle.hart_runs.proofs.Public.{resumes_step, steps_go_on, stopped_stay, takes_step, waits_step}
use Rattle.recovered_threads.proofs.Public.{same_or_other}
use Rattle.thread_runs.specs.Laws.{MarksPass}
use Rattle.crash_simulation.specs.SimulationRelation.{Simulates}
use Rattle.crash_simulation.specs.Systems.{System, IsSystem}
use Rattle.crash_simulation.proofs.Public.{RunsOn, at_call, is_where, not_there, on_run, runs_held, runs_ready, same_number}
use Rattle.compiler_correctness.specs.Compilation.{HartHolds}
use Rattle.resumption_facts.proofs.Calls.{CallsNow, calls_now}

module _ (marks : MarksPass) (y : System) (s : IsSystem y) (w : World) (stands : Simulates y s w) (h lock : ℕ) (has : HartHolds w h lock)
    (given : ¬ (HartHolds (after_event y.runs.program w (Step h)) h lock)) where
  abbrev after : World
  after = after_event y.runs.program w (Step h)

  -- not one that leaves holders as they are
  not_still : after.holders ≡ w.holders → ⊥
  not_still same = given (ap (λ (hs : List (Option ℕ)). slice_get hs lock) same ∙ has)

  -- nor one that takes a lock
  not_taken : (other : ℕ) → after.holders ≡ slice_set w.holders other (Some h) → ⊥
  not_taken other is = elim (same_or_other lock other) [
    | inl same ↦
        given (ap (λ (hs : List (Option ℕ)). slice_get hs lock) is
        ∙ (ap (λ (k : ℕ). slice_get (slice_set w.holders k (Some h)) lock) (sym same) ∙ get-set_same w.holders lock (Some h) (Some h) has))
    | inr apart ↦ given (ap (λ (hs : List (Option ℕ)). slice_get hs lock) is ∙ (get-set_other w.holders other lock (Some h) apart ∙ has))
  ]

  taking : (hart : Hart) → TakesLocks y.runs.program w h hart → ⊥
  taking hart (has_all all does) = not_still (ap (λ (o : Outcome). o.0.holders) does)
  taking hart (takes_one other r does) = not_taken other (ap (λ (o : Outcome). o.0.holders) does)
  taking hart (is_kept_from other g r apart does) = not_still (ap (λ (o : Outcome). o.0.holders) does)

  waiting : (hart : Hart) → AwaitsOthers y.runs.program w h hart → ⊥
  waiting hart (all_have all does) = not_still (ap (λ (o : Outcome). o.0.holders) does)
  waiting hart (one_takes g takes does) = not_still (ap (λ (o : Outcome). o.0.holders) does)

  runs_on : RunsOn y w h → ⊥
  runs_on r = elim (steps_go_on y.runs.program w h r.run r.agrees) [
    | inl goes ↦ not_still (ap (λ (v : World). v.holders) goes.world)
    | inr drains ↦ not_still (ap (λ (v : World). v.holders) drains.world)
  ]

  running : IsInPhase w h Run → CallsNow y w h
  running i =
      let r = runs_ready y s w h stands i in
      let z = r.site.stands in
      let held = (runs_held y s w z.abstract z.ghosts h z.machine.log z.machine.sound i z.locks).1 in
      elim (is_where r.site marks r.ready) [
        | on_run on ↦ absurd (runs_on (subst (λ (n : ℕ). RunsOn y w n) (same_number r.site) on))
        | at_call exit o calling ↦ subst (λ (n : ℕ). CallsNow y w n) (same_number r.site) (calls_now r.site held exit o calling)
      ]

  by_phase : (phase : Phase) → IsInPhase w h phase → CallsNow y w h
  by_phase Take i = absurd (taking i.hart (takes_step y.runs.program w h i))
  by_phase Wait i = absurd (waiting i.hart (waits_step y.runs.program w h i))
  by_phase Resume i = absurd (not_still (ap (λ (o : Outcome). o.0.holders) (resumes_step y.runs.program w h i).does))
  by_phase Run i = running i
  by_phase Done i = absurd (not_still (ap (λ (o : Outcome). o.0.holders) (stopped_stay y.runs.program w h Done (inl refl) i)))
  by_phase Ended i = absurd (not_still (ap (λ (o : Outcome). o.0.holders) (stopped_stay y.runs.program w h Ended (inr refl) i)))

  by_hart : (o : Option Hart) → slice_get w.harts h ≡ o → CallsNow y w h
  by_hart None none = absurd (not_still (ap (λ (v : World). v.holders) (sym (not_there y w h none))))
  by_hart (Some hart) here = by_phase hart.phase (record { hart = hart; here = here; phase_is = refl })

  pub gives_at_call : CallsNow y w h
  gives_at_call = by_hart (slice_get w.harts h) refl
