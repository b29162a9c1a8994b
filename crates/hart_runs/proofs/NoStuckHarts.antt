-- Where no hart is stuck.
use Rattle.std.proofs.Common.{◌≡◌, ◌≢◌, ◌⊎◌, inl, inr, ℕ, List, ap, sym, ◌∙◌, Bool, true, false, Option, Some, None, refl}
use Rattle.std.specs.Prelude.{slice_get}
use Rattle.machine_events.specs.declared.event.Event.TheVariants.{Step}
use Rattle.machine_events.specs.declared.event.Reply.{Reply}
use Rattle.machine_events.specs.declared.event.Reply.TheVariants.{Moved, Drained, Waits, Barrier, Still, Stuck, Device}
use Rattle.machine_events.specs.declared.event.Cause.{Cause}
use Rattle.rv64_isa.specs.declared.object.Slot.{Slot}
use Rattle.machine_model.specs.declared.phase.Phase.{Phase}
use Rattle.machine_model.specs.declared.phase.Phase.TheVariants.{Take, Wait, Resume, Run, Done, Ended}
use Rattle.machine_model.specs.Machine.{World, Outcome, happens, reply_to}
use Rattle.machine_model.specs.Schedule.{is_running}
use Rattle.hart_runs.specs.HartsOnRuns.{OnRun}
use Rattle.hart_runs.specs.RunSteps.{GoesForward, Drains}
use Rattle.hart_runs.specs.Calls.{IsAtCall, lock_asked, IsInPhase, TakesLocks, AwaitsOthers, IsWell}
use Rattle.hart_runs.proofs.RunStepEffects.{steps_go_on}
use Rattle.hart_runs.proofs.CallSteps.{acquires_take, acquires_wait, releases_give, ends_end}
use Rattle.hart_runs.proofs.RecoverySteps.{takes_step, waits_step, resumes_step, stopped_stay}

is_stuck : Reply → Bool
is_stuck (Stuck cause) = true
is_stuck Moved = false
is_stuck Drained = false
is_stuck (Waits lock holder) = false
is_stuck (Barrier hart) = false
is_stuck Still = false
is_stuck Device = false

module _ (program : List (List Slot)) (w : World) (h : ℕ) where
  -- by the reply, or by what happens
  by_reply : (reply : Reply) → is_stuck reply ≡ false → reply_to program w (Step h) ≡ reply → (cause : Cause) → reply_to program w (Step h) ≢ Stuck cause
  unfolding is_stuck
  by_reply reply none e cause stuck = let no : true ≡ false = ap is_stuck (sym stuck ∙ e) ∙ none in cc

  by_outcome : (o : Outcome) → is_stuck o.1 ≡ false → happens program w (Step h) ≡ o → (cause : Cause) → reply_to program w (Step h) ≢ Stuck cause
  by_outcome o none e = by_reply o.1 none (ap (λ (x : Outcome). x.1) e)

  on_run : (run : OnRun w h) → GoesForward program w h run ⊎ Drains program w h run → (cause : Cause) → reply_to program w (Step h) ≢ Stuck cause
  unfolding is_stuck
  on_run run (inl f) = by_reply Moved refl f.reply
  on_run run (inr d) = by_reply Drained refl d.reply

  takes : (i : IsInPhase w h Take) → TakesLocks program w h i.hart → (cause : Cause) → reply_to program w (Step h) ≢ Stuck cause
  unfolding is_stuck
  takes i (TakesLocks.has_all all e) = by_outcome _ refl e
  takes i (TakesLocks.takes_one lock r e) = by_outcome _ refl e
  takes i (TakesLocks.is_kept_from lock g r other e) = by_outcome _ refl e

  waits : (i : IsInPhase w h Wait) → AwaitsOthers program w h i.hart → (cause : Cause) → reply_to program w (Step h) ≢ Stuck cause
  unfolding is_stuck
  waits i (AwaitsOthers.all_have all e) = by_outcome _ refl e
  waits i (AwaitsOthers.one_takes g t e) = by_outcome _ refl e

  apart : (phase : Phase) → is_running phase ≡ false → IsInPhase w h phase → (cause : Cause) → reply_to program w (Step h) ≢ Stuck cause
  unfolding is_stuck
  apart Take none i = takes i (takes_step program w h i)
  apart Wait none i = waits i (waits_step program w h i)
  apart Resume none i = by_outcome _ refl (resumes_step program w h i).does
  apart Run none i = absurd (let no : true ≡ false = none in cc)
  apart Done none i = by_outcome _ refl (stopped_stay program w h Done (inl refl) i)
  apart Ended none i = by_outcome _ refl (stopped_stay program w h Ended (inr refl) i)

  acquires : (a : IsAtCall program w h 1) (holder : Option ℕ) → slice_get w.holders (lock_asked a.hart) ≡ Some holder → (cause : Cause) →
      reply_to program w (Step h) ≢ Stuck cause
  unfolding is_stuck
  acquires a None e = by_outcome _ refl (acquires_take program w h a e)
  acquires a (Some holder) e = by_outcome _ refl (acquires_wait program w h holder a e)

  pub none_is_stuck : IsWell program w h → (cause : Cause) → reply_to program w (Step h) ≢ Stuck cause
  unfolding is_stuck
  none_is_stuck (IsWell.apart phase none i) = apart phase none i
  none_is_stuck (IsWell.on_run run agrees) = on_run run (steps_go_on program w h run agrees)
  none_is_stuck (IsWell.at_acquire a holder e) = acquires a holder e
  none_is_stuck (IsWell.at_release a e) = by_outcome _ refl (releases_give program w h a e)
  none_is_stuck (IsWell.at_end a e) = by_outcome _ refl (ends_end program w h a e)
