-- Where the run of `load` ends: all harts have stopped, and are settled then, or there are as many events as there may be.
use Rattle.std.proofs.Common.{◌≡◌, refl, ℕ, ◌+◌, ◌<◌, ◌≤◌, ◌⊎◌, inl, inr, List, [], ◌∷◌, ◌++◌, length, sym, ap, ◌∙◌, subst, arith, append_assoc}
use Rattle.std.proofs.Common.{Option, Some, None, true, false}
use Rattle.std.specs.Prelude.{slice_get}
use Rattle.std.proofs.lemmas.List.{append-nil}
use Rattle.std.proofs.lemmas.Option.{slice_get_cases}
use Rattle.machine_events.specs.Cores.{is_idle}
use Rattle.machine_events.specs.declared.event.Event.{Event}
use Rattle.machine_events.specs.declared.event.Event.TheVariants.{Step}
use Rattle.machine_model.specs.declared.phase.Phase.{Phase}
use Rattle.machine_model.specs.declared.phase.Phase.TheVariants.{Done, Ended, Take, Wait, Resume, Run}
use Rattle.machine_model.specs.Machine.{Hart, World, happens, has_stopped, is_settled, phase_step, stepped}
use Rattle.c_tree.specs.WellFormed.{IsWellFormed}
use Rattle.compiler_correctness.specs.Compilations.{IsCompilation}
use Rattle.compiler_correctness.specs.Translations.{Translation, world}
use Rattle.deadlock_freedom.specs.Deadlocks.{NoneCanStep, StopsAreSettled}
use Rattle.lock_order.specs.LockOrder.{order_fault}
use Rattle.run_tracker.proofs.Public.{played_is}
use Rattle.run_tracker.specs.ObjectLives.{LifeConfig, is_stopped}
use Rattle.ido_cli.specs.Loads.{IsSummaryOf}
use Rattle.ido_cli.specs.Plays.{beginning}
use Rattle.ido_cli.specs.Reports.{machine_state}
use Rattle.ido_cli.specs.Runs.{status_by}
use Rattle.ido_cli.specs.ThreadedRuns.{AreRounds, IsLoadedRun, all_stopped, full, is_stopped_after, most_leg_events, next_round, passes, steps}
use Rattle.ido_cli.proofs.PlayedRuns.{harts_count}
use Rattle.ido_cli.proofs.SettledReports.{none_by_settled}

-- ---- Rounds

module _ (opening : LifeConfig) where
  -- all harts are stopped, or there are enough events
  abbrev IsAtEnd : List Event → Type 0
  IsAtEnd es = ((h : ℕ) → h < length opening.runs.program → is_stopped_after opening es h ≡ true) ⊎ (most_leg_events ≤ length es)

  rounds_end : (hart : ℕ) (before made : List Event) → AreRounds opening hart before made → IsAtEnd (before ++ made)
  rounds_end hart before made (all_stopped _ _ still) = subst IsAtEnd (sym (append-nil before)) (inl still)
  rounds_end hart before made (full _ _ big) = subst IsAtEnd (sym (append-nil before)) (inr big)
  rounds_end hart before made (passes _ _ _ within still r) = rounds_end (hart + 1) before made r
  rounds_end hart before made (steps _ _ rest within goes room r) =
      subst IsAtEnd (append_assoc before (Step hart ∷ []) rest) (rounds_end (hart + 1) (before ++ Step hart ∷ []) rest r)
  rounds_end hart before made (next_round _ _ r) = rounds_end 0 before made r

-- ---- Harts that have stopped

module _ (c : Translation) (events : List Event) where
  abbrev w : World
  w = world c events

  module _ (still : (h : ℕ) → h < length c.runs.program → is_stopped w h ≡ true) where
    -- a step of one that has stopped is idle
    idle : (h : ℕ) (hart : Hart) (phase : Phase) → has_stopped phase ≡ true → is_idle (phase_step c.runs.program w h hart phase).1 ≡ true
    idle h hart Done e = refl
    idle h hart Ended e = refl
    idle h hart Take e = cc
    idle h hart Wait e = cc
    idle h hart Resume e = cc
    idle h hart Run e = cc

    hart_idle : (h : ℕ) (hart : Hart) → h < length w.harts → slice_get w.harts h ≡ Some hart → is_idle (stepped c.runs.program w h (Some hart)).1 ≡ true
    hart_idle h hart below here =
        let count : length w.harts ≡ length c.runs.program = harts_count c.runs.log c.runs.program c.runs.mutexes c.runs.initial events in
        let stopped : has_stopped hart.phase ≡ true =
        sym (ap (λ (o : Option Hart). elim o [ Some x ↦ has_stopped x.phase | None ↦ false ]) here) ∙ still h (omega (arith, count, below)) in
        idle h hart hart.phase stopped

    none_can_step : NoneCanStep c.runs.program w
    unfolding happens
    none_can_step h = elim ((slice_get_cases w.harts h).1) [
      | inl found ↦
          ap (λ (o : Option Hart). is_idle (stepped c.runs.program w h o).1) found.2 ∙ hart_idle h found.0 found.1 found.2
      | inr missing ↦ ap (λ (o : Option Hart). is_idle (stepped c.runs.program w h o).1) missing.1
    ]

-- ---- The run

module _ (stops : StopsAreSettled) (c : Translation) (is : IsCompilation c) (formed : IsWellFormed c.flat) (in_order : order_fault c.flat ≡ None) where
  stopped_then : (events : List Event) → ((h : ℕ) → h < length c.runs.program → is_stopped_after (beginning c) events h ≡ true) →
      is_settled (world c events) ≡ true
  stopped_then events still =
      stops c is formed in_order events (none_can_step c events (λ h below.
      sym (ap (λ (m : LifeConfig). is_stopped m.world h) (played_is (beginning c) events)) ∙ still h below))

  status_then : (events : List Event) (status : ℕ) (output : List ℕ) → IsSummaryOf c events status output → is_settled (world c events) ≡ true → status ≡ 0
  unfolding machine_state
  status_then events status output summary settled = summary.summed.status_is ∙ ap status_by (none_by_settled (world c events) settled)

  pub load_ends : (events : List Event) (status : ℕ) (output : List ℕ) → IsLoadedRun (beginning c) events → IsSummaryOf c events status output →
      (status ≡ 0) ⊎ (most_leg_events ≤ length events)
  load_ends events status output run summary =
      elim (subst (IsAtEnd (beginning c)) (sym run.is) (rounds_end (beginning c) 0 run.leg run.rest run.in_rounds)) [
        | inl still ↦ inl (status_then events status output summary (stopped_then events still))
        | inr big ↦ inr big
      ]
