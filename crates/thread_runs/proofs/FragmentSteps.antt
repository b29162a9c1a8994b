-- Steps in a fragment.
use Rattle.std.proofs.Common.{◌≡◌, refl, ◌⊎◌, inl, inr, ℕ, suc, List, length, ◌∙◌, subst, false}
use Rattle.machine_events.specs.declared.event.Event.TheVariants.{Step}
use Rattle.rv64_isa.specs.Rows.{Effect}
use Rattle.machine_model.specs.Machine.{World, after_event}
use Rattle.machine_model.specs.Frames.{IsWellFormedWorld}
use Rattle.machine_model.specs.Schedule.{passes_mark}
use Rattle.code_runs.specs.ComputingRuns.{LocalConfig, config}
use Rattle.code_runs.specs.CodeTraces.{MarkedEnvironment, Observation, Trace, seen_effects}
use Rattle.hart_runs.specs.HartsOnRuns.{MayGo, IsOnTrace, OnRun}
use Rattle.hart_runs.specs.RunSteps.{GoesForward, Drains, steps_left}
use Rattle.hart_runs.specs.Laws as r
use Rattle.hart_runs.proofs.Public.{steps_go_on, forward_agrees, drains_agree}
use Rattle.thread_code.specs.Plans.{Plan, Thread}
use Rattle.thread_code.specs.NodeCodeEffects.{Places}
use Rattle.thread_runs.specs.CodeFragments.{Stage, Running, AreEffectsApart, end_of, IsOnFragment}
use Rattle.thread_runs.specs.Laws.{run_of, AreMarksOf, CompletesInstruction, IsHeldUp, FragmentsGoOn}
use Rattle.thread_runs.proofs.RemainingSteps.{forward_less, drains_less}
use Rattle.thread_runs.proofs.RunObservations.{Ahead, unmarked_ahead, mark_of_machine, apart_first}

-- a hart stands on a run of which the same is seen
abbrev pub seen_lockstep : (w : World) (h : ℕ) (s : MarkedEnvironment) (steps : ℕ) (seen other : List Observation) (to : LocalConfig) → seen ≡ other →
    IsOnTrace w h s steps seen to →
    IsOnTrace w h s steps other to
seen_lockstep w h s steps seen other to e on = record {
  hart = on.hart;
  here = on.here;
  runs = on.runs;
  walks = subst (λ (x : List Observation). Trace s steps (config on.hart.registers on.hart.pc) x to) e on.walks;
  may = subst (λ (x : List Observation). MayGo w.log (length w.harts) x) e on.may;
}

module _ {p : Plan} {t : Thread} {c : Places} {running : Running} {stage : Stage} {steps : ℕ} {effects : List Effect} (sound : IsWellFormedWorld running.world)
    (counts : r.ForwardCounts) (drained : r.DrainsCountNone) (fragment : IsOnFragment p t c running stage (suc steps) effects) where
  open running use {program, world as w, hart as h, environment as s}

  abbrev to : LocalConfig
  to = config fragment.registers (end_of p t c stage.exit stage.node)

  abbrev run : OnRun w h
  run = run_of p t c fragment

  abbrev Result : Type 0
  Result =
      (CompletesInstruction p t c running stage steps effects fragment ⊎ IsHeldUp p t c running stage steps effects fragment) ×
      ((marks : List (List ℕ)) → AreMarksOf marks h s → passes_mark marks program w h ≡ false)

  goes : GoesForward program w h run → Result
  goes f =
      let q = unmarked_ahead s.marks fragment.on.hart.pc effects f.effect f.later f.seen_is in
      let ahead : Ahead effects f.effect f.later = q.1 in
      let apart = apart_first s f.effect ahead.rest (subst (λ (x : List Effect). AreEffectsApart s x) ahead.effects_are fragment.apart) in
      let counted = counts program w h run f in (
        inl (record {
          forward = f;
          later = ahead.rest;
          effects_are = ahead.effects_are;
          on = record {
            meets = fragment.meets;
            agrees = forward_agrees program w h run f h s apart.0 fragment.agrees;
            apart = apart.1;
            own = fragment.own;
            of_graph = fragment.of_graph;
            registers = fragment.registers;
            on = seen_lockstep (after_event program w (Step h)) h s steps f.later (seen_effects ahead.rest) to ahead.rest_is f.on;
            has = fragment.has;
          };
          point = counted.1;
          fence = counted.2;
          less =
              subst (λ (x : List Observation). suc (steps_left steps x f.on.hart.queue) ≡ steps_left (suc steps) (seen_effects effects) fragment.on.hart.queue)
              ahead.rest_is (forward_less program w h run f);
          same = refl;
        }),
        λ marks same. counted.0 marks ∙ mark_of_machine marks h s fragment.on.hart.pc false same q.0,
      )

  held_up : Drains program w h run → Result
  held_up d =
      let none = drained program w h run d in (
        inr (record {
          drains = d;
          on = record {
            meets = fragment.meets;
            agrees = drains_agree program w h run sound d h s fragment.agrees;
            apart = fragment.apart;
            own = fragment.own;
            of_graph = fragment.of_graph;
            registers = fragment.registers;
            on = d.on;
            has = fragment.has;
          };
          counts = (none.1, none.2);
          less = drains_less program w h run d;
          same = refl;
        }),
        λ marks same. none.0 marks,
      )

  one : GoesForward program w h run ⊎ Drains program w h run → Result
  one (inl f) = goes f
  one (inr d) = held_up d

  pub one_step : Result
  one_step = one (steps_go_on program w h run fragment.agrees)

pub fragments_go_on : r.ForwardCounts → r.DrainsCountNone → FragmentsGoOn
fragments_go_on counts drained p t c program w h s stage steps effects sound fragment =
    one_step sound counts drained fragment
