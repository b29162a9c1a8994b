-- Steps at a mark.
use Rattle.std.proofs.Common.{◌≡◌, refl, ◌⊎◌, inl, inr, ℕ, suc, List, [], ◌∷◌, sym, ◌∙◌, subst, true, Some}
use Rattle.machine_events.specs.declared.event.Event.TheVariants.{Step}
use Rattle.rv64_isa.specs.Rows.{Effect}
use Rattle.machine_model.specs.Machine.{Hart, after_event}
use Rattle.machine_model.specs.Frames.{IsWellFormedWorld}
use Rattle.machine_model.specs.Schedule.{effect_at}
use Rattle.flow_graph.specs.Actions as a
use Rattle.code_runs.specs.ComputingRuns.{LocalConfig, config}
use Rattle.code_runs.specs.CodeTraces.{Observation, Mark, marked, seen_effects}
use Rattle.hart_runs.specs.HartsOnRuns.{OnRun}
use Rattle.hart_runs.specs.RunSteps.{GoesForward, Drains, steps_left}
use Rattle.hart_runs.specs.Laws as r
use Rattle.hart_runs.proofs.Public.{steps_go_on, forward_agrees, drains_agree}
use Rattle.thread_code.specs.Plans.{Plan, Thread}
use Rattle.thread_code.specs.NodeCodeEffects.{Places}
use Rattle.thread_runs.specs.CodeFragments.{Stage, Running, AreEffectsApart, end_of, IsMadeBy, IsAtMark}
use Rattle.thread_runs.specs.Laws.{run_at, PassesMark, Stays, MarksPass}
use Rattle.thread_runs.proofs.RemainingSteps.{forward_less, drains_less}
use Rattle.thread_runs.proofs.RunObservations.{Ahead, marked_ahead, marked_is, mark_of_machine, apart_first}
use Rattle.thread_runs.proofs.FragmentSteps.{seen_lockstep}

module _ {p : Plan} {t : Thread} {c : Places} {running : Running} {e : a.Effect} {stage : Stage} {steps : ℕ} {effects : List Effect}
    (sound : IsWellFormedWorld running.world) (counts : r.ForwardCounts) (drained : r.DrainsCountNone)
    (at : IsAtMark p t c running e stage steps effects) where
  open running use {program, world as w, hart as h, environment as s}

  abbrev to : LocalConfig
  to = config at.registers (end_of p t c stage.exit stage.node)

  abbrev run : OnRun w h
  run = run_at p t c at

  abbrev Result : Type 0
  Result = PassesMark p t c running e stage steps effects at ⊎ Stays p t c running e stage steps effects at

  passes : GoesForward program w h run → Result
  passes f =
      let ahead : Ahead effects f.effect f.later = marked_ahead s.marks at.on.hart.pc effects f.effect f.later at.mark f.seen_is in
      let apart = apart_first s f.effect ahead.rest (subst (λ (x : List Effect). AreEffectsApart s x) ahead.effects_are at.apart) in
      let counted = counts program w h run f in
      inl (record {
        forward = f;
        later = ahead.rest;
        effects_are = ahead.effects_are;
        made = at.made f.effect f.effect_is;
        on = record {
          meets = at.meets;
          agrees = forward_agrees program w h run f h s apart.0 at.agrees;
          apart = apart.1;
          own = at.own;
          of_graph = at.of_graph;
          registers = at.registers;
          on = seen_lockstep (after_event program w (Step h)) h s steps f.later (seen_effects ahead.rest) to ahead.rest_is f.on;
          has = at.has;
        };
        mark = λ marks same. counted.0 marks ∙ mark_of_machine marks h s at.on.hart.pc true same (marked_is s.marks at.on.hart.pc at.mark);
        point = counted.1;
        fence = counted.2;
        less =
            subst (λ (x : List Observation). suc (steps_left steps x f.on.hart.queue) ≡ steps_left (suc steps) (Mark ∷ seen_effects effects) at.on.hart.queue)
            ahead.rest_is (forward_less program w h run f);
        same = refl;
      })

  stays : Drains program w h run → Result
  stays d =
      let none = drained program w h run d in
      inr (record {
        drains = d;
        still = record {
          meets = at.meets;
          agrees = drains_agree program w h run sound d h s at.agrees;
          apart = at.apart;
          own = at.own;
          of_graph = at.of_graph;
          registers = at.registers;
          on = d.on;
          has = at.has;
          mark = subst (λ (x : Hart). marked s.marks x.pc ≡ Mark ∷ []) (sym d.same) at.mark;
          made = subst (λ (x : Hart). (effect : Effect) → effect_at program h x ≡ Some effect → IsMadeBy p t c stage e effect) (sym d.same) at.made;
        };
        no_mark = none.0;
        counts = (none.1, none.2);
        less = drains_less program w h run d;
        same = refl;
      })

  one : GoesForward program w h run ⊎ Drains program w h run → Result
  one (inl f) = passes f
  one (inr d) = stays d

  pub one_step : Result
  one_step = one (steps_go_on program w h run at.agrees)

pub marks_pass : r.ForwardCounts → r.DrainsCountNone → MarksPass
marks_pass counts drained p t c program w h s e stage steps effects sound at =
    one_step sound counts drained at
