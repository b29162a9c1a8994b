-- A thread stores nothing that it has read on the way from where it would be resumed, unless it had stored that before.
use Rattle.std.proofs.Common.{◌≡◌, ℕ, ◌<◌, ◌≤◌, List, sym, subst, arith}
use Rattle.machine_events.specs.declared.event.Event.{Event}
use Rattle.c_tree.specs.Source.{State}
use Rattle.source_machine.specs.StepExchanges.{steps_of}
use Rattle.machine_model.specs.Schedule.{harts_of, schedules}
use Rattle.flow_graph.specs.IdempotentCuts.{AreCuts}
use Rattle.flow_graph.specs.Lockstep.{Matches}
use Rattle.flow_graph.specs.Lowering.{lowered}
use Rattle.flow_graph.specs.Nodes.{Graph}
use Rattle.flow_graph.specs.Paths.{Element}
use Rattle.recovery_semantics.specs.Attempts.{Writes, WritesAt}
use Rattle.region_attempts.specs.Laws.{Reads}
use Rattle.region_attempts.proofs.Public.{rerun_reads_nothing_overwritten}
use Rattle.crash_simulation.specs.AbstractRuns.{kept_of}
use Rattle.crash_simulation.specs.AccountRelation.{MachinesResume}
use Rattle.crash_simulation.specs.Systems.{System, IsSystem, flat_of}
use Rattle.crash_simulation.proofs.Public.{as_source, resumed}
use Rattle.compiler_correctness.specs.Laws.{translation_of}
use Rattle.compiler_correctness.specs.Translations.{source, steps}
use Rattle.compiler_correctness.proofs.Public.{kept_is}
use Rattle.resumption_facts.specs.StoresFollowReads.{NoReadIsOverwritten}
use Rattle.resumption_facts.proofs.BegunStores.{done_by}

module _ (machines : MachinesResume) (y : System) (s : IsSystem y) (events : List Event) (thread : ℕ) where
  open (machines y s events).is.stands use {abstract as b}

  kept : source (translation_of y) (schedules (steps (translation_of y) events)) ≡ b.config.kept
  kept = kept_is y s _ (steps (translation_of y) events) (machines y s events)

  pending : harts_of (steps (translation_of y) events).pending ≡ b.config.uncommitted
  pending = (machines y s events).is.counted.pending

  cuts : AreCuts (lowered (flat_of y)) y.plan.boundaries
  cuts = subst (λ (g : Graph). AreCuts g y.plan.boundaries) s.plan.lowered s.plan.cuts

  stored_before : (read later : ℕ) (one : Element) → Reads (flat_of y) (kept_of y b) thread read one → read ≤ later →
      later < steps_of thread b.config.uncommitted → WritesAt b.config.kept thread later one.variable one.element →
      Writes b.config.kept thread read one.variable one.element
  stored_before read later one reads low within writes =
      let r = resumed y s b in
      let tried = (r.resumed.invariant.tried thread).within in
      let done = done_by (flat_of y) b.config thread later r.resumed.invariant within one.variable one.element writes in
      rerun_reads_nothing_overwritten.stored (flat_of y) y.plan.boundaries b.origin b.config b.schedule thread read later one s.plan.formed cuts
      r.resumed.invariant r.resumed.kept (r.inside thread) reads low (omega (arith, tried, done)) writes

  unread : (read later : ℕ) (one : Element) → Reads (flat_of y) (kept_of y b) thread read one → read ≤ later →
      later < steps_of thread (harts_of (steps (translation_of y) events).pending) →
      WritesAt (source (translation_of y) (schedules (steps (translation_of y) events))) thread later one.variable one.element →
      Writes (source (translation_of y) (schedules (steps (translation_of y) events))) thread read one.variable one.element
  unread read later one reads low within writes =
      subst (λ (z : State). Writes z thread read one.variable one.element) (sym kept)
      (stored_before read later one reads low (subst (λ (us : List ℕ). later < steps_of thread us) pending within)
      (subst (λ (z : State). WritesAt z thread later one.variable one.element) kept writes))

  matches : Matches (flat_of y) (kept_of y b) (source (translation_of y) (schedules (steps (translation_of y) events)))
  matches = subst (λ (z : State). Matches (flat_of y) (kept_of y b) z) (sym kept) (as_source y s b).kept_matches

pub no_read_is_overwritten : MachinesResume → NoReadIsOverwritten
no_read_is_overwritten machines y s events thread = record {
  flow = kept_of y (machines y s events).is.stands.abstract;
  matches = matches machines y s events thread;
  unread = unread machines y s events thread;
}
