-- Compilations whose sources keep the order of locks never deadlock.
use Rattle.std.proofs.Common.{◌≡◌, inl, refl, ℕ, ◌<◌, List, [], ◌∷◌, ◌++◌, length, get_or, ap, ap₂, sym, ◌∙◌, subst, arith}
use Rattle.std.proofs.Common.{Bool, true, false, Option, Some, None}
use Rattle.std.specs.Prelude.{slice_get, not}
use Rattle.std.proofs.lemmas.Option.{slice_get_within, slice_get-get_or}
use Rattle.machine_events.specs.declared.event.Event.{Event}
use Rattle.machine_events.specs.declared.event.Event.TheVariants.{Step, Crash}
use Rattle.machine_events.specs.declared.event.Reply.{Reply}
use Rattle.machine_events.specs.declared.event.Reply.TheVariants.{Moved}
use Rattle.machine_events.specs.Cores.{is_idle, is_enabled, least_enabled}
use Rattle.machine_model.specs.Executables.{Executable}
use Rattle.machine_model.specs.Schedule.{all_lives}
use Rattle.std.specs.Prelude.{if◌then◌else◌}
use Rattle.std.proofs.lemmas.Bool.{and_parts}
use Rattle.c_tree.specs.Flats as f
use Rattle.c_tree.specs.Source.{State, after_from, runs_from, start}
use Rattle.c_tree.specs.WellFormed.{IsWellFormed}
use Rattle.source_machine.specs.Discipline.{IsReachedState}
use Rattle.source_machine.specs.Lives.{after_lives, begun_after, end_lives, restart}
use Rattle.source_machine.proofs.Public.{after_life, runs_life}
use Rattle.machine_model.specs.declared.phase.Phase.TheVariants.{Take}
use Rattle.machine_model.specs.Machine.{Hart, World, Outcome, reply_to}
use Rattle.hart_runs.specs.HartsOnRuns.{instr_of}
use Rattle.hart_runs.specs.Calls.{IsAtCall, lock_asked}
use Rattle.run_tracker.specs.ObjectLives.{LifeConfig, living}
use Rattle.lock_order.specs.LockOrder.{order_fault}
use Rattle.lock_order.specs.Laws.{IsOrdered, LocksAscend}
use Rattle.compiler_correctness.specs.Translations.{Translation, world, now, source}
use Rattle.compiler_correctness.specs.Compilation.{HoldsAsThread}
use Rattle.compiler_correctness.specs.Images.{world_from, image_of, file_of, image_in, Image}
use Rattle.compiler_correctness.specs.Compilations.{IsCompilation}
use Rattle.compiler_correctness.specs.Laws.{ImagesAreCrashes}
use Rattle.deadlock_freedom.specs.Deadlocks.{HaveStopped, StopsAtTheEnd, NoneDeadlocks, NoneDeadlocksResumed, StopsAreSettled}
use Rattle.deadlock_freedom.proofs.HartReplies.{none_there}
use Rattle.deadlock_freedom.proofs.Holders.{holders_go_on, harts_stay}
use Rattle.deadlock_freedom.proofs.EnabledHarts.{each_waits, none_least, not_false}
use Rattle.deadlock_freedom.proofs.LockChains.{WaitsFor, all_stopped, stopped_idles}
use Rattle.deadlock_freedom.proofs.SettledStops.{settled}

-- where a life begins, threads and locks are as at the source's start
begins_as_start : (x : f.Flat) (s : State) (earlier : List (List ℕ)) → s ≡ record (start x) { variables = s.variables } →
    begun_after x s earlier ≡ record (start x) { variables = (begun_after x s earlier).variables }
begins_as_start x s [] is = is
begins_as_start x s (schedule ∷ rest) is = begins_as_start x (restart x (after_from s schedule)) rest refl

module _ (ascend : LocksAscend) (c : Translation) (is : IsCompilation c) (formed : IsWellFormed c.flat) (order : order_fault c.flat ≡ None)
    (events : List Event) where
  abbrev w : World
  w = world c events

  ordered : IsOrdered c.flat
  ordered = record {
    formed = formed;
    disciplined = λ k d within.
        (is.form.sets.sets k (get_or c.flat.threads k d) (get_or is.form.held k []) (slice_get-get_or c.flat.threads k d within)
        (slice_get-get_or is.form.held k [] (let count = is.form.sets.each_thread in omega (arith, within, count)))).disciplined;
    in_order = order;
  }

  -- a life begins as the source's start, on what the lives before it have left
  reached : IsReachedState c.flat (source c (all_lives (now c events)))
  reached =
      let x = c.flat in
      let earlier : List (List ℕ) = (now c events).earlier in
      let last : List ℕ = (now c events).schedule in
      let begun : State = begun_after x (start x) earlier in
      let runs = and_parts (end_lives x (start x) earlier) (runs_from begun last) (sym (runs_life x (start x) earlier last) ∙ (is.records events).now_runs) in
      record {
        variables = begun.variables;
        schedule = last;
        is = after_life x (start x) earlier last
            ∙ (ap (λ (ended : Bool). if ended then after_from begun last else after_lives x (start x) earlier) runs.0
            ∙ ap (λ (from : State). after_from from last) (begins_as_start x (start x) earlier refl));
      }

  -- a hart that waits for a lock holds lesser ones, and so not that lock itself
  ascends : (h lock held : ℕ) → WaitsFor c.runs.program w h lock → slice_get w.holders held ≡ Some (Some h) → held < lock
  ascends h lock held x owns =
      let agree : HoldsAsThread c w (now c events) h = (((is.records events).each h x.hart x.here).locks_agree) (inl x.runs) in
      let call : IsAtCall c.runs.program w h 1 = record { hart = x.hart; here = x.here; runs = x.runs; calls = ap instr_of x.calls; asks = x.asks } in
      let below : held < lock_asked x.hart =
      ascend c.flat (source c (all_lives (now c events))) h (lock_asked x.hart) held ordered reached (agree.taking call)
      (agree.holds_only call held owns) in
      subst (λ (n : ℕ). held < n) x.lock_is below

  -- where the next step of each hart would wait or find it stopped, all have stopped
  pub all_idle : ((h : ℕ) (hart : Hart) → slice_get w.harts h ≡ Some hart → is_idle (reply_to c.runs.program w (Step h)) ≡ true) → HaveStopped w
  all_idle idles = all_stopped c.runs.program w (holders_go_on c.runs.log c.runs.program c.runs.mutexes c.runs.initial events) idles takes ascends
    where
      takes : (h : ℕ) (hart : Hart) → slice_get w.harts h ≡ Some hart → hart.phase ≡ Take → reply_to c.runs.program w (Step h) ≡ Moved
      takes h hart here = ((is.records events).each h hart here).takes

  module _ (life : LifeConfig) (runs_is : life.runs ≡ c.runs) (world_is : life.world ≡ w) where
    same : (h : ℕ) → reply_to life.runs.program life.world (Step h) ≡ reply_to c.runs.program w (Step h)
    same h = ap₂ (λ (r : Executable) (v : World). reply_to r.program v (Step h)) runs_is world_is

    forth : least_enabled living life (length life.runs.program) ≡ None → HaveStopped w
    forth none = all_idle (λ h hart here.
        let within : h < length w.harts = slice_get_within w.harts h hart here in
        let count : length w.harts ≡ length c.runs.program = harts_stay c.runs.log c.runs.program c.runs.mutexes c.runs.initial events in
        let below : h < length life.runs.program = omega (arith, within, count, ap (λ (r : Executable). length r.program) runs_is) in
        let waits : is_enabled living life h ≡ false = each_waits living life (length life.runs.program) none h below in
        not_false (is_idle (reply_to c.runs.program w (Step h))) (ap (λ (r : Reply). not (is_idle r)) (sym (same h)) ∙ waits))

    back : HaveStopped w → least_enabled living life (length life.runs.program) ≡ None
    back stopped =
        none_least living life (length life.runs.program)
        (λ h. ap (λ (r : Reply). not (is_idle r)) (same h) ∙ ap not (idles h (slice_get w.harts h) refl))
      where
        idles : (h : ℕ) (o : Option Hart) → slice_get w.harts h ≡ o → is_idle (reply_to c.runs.program w (Step h)) ≡ true
        idles h None missing = ap (λ (o : Outcome). is_idle o.1) (none_there c.runs.program w h missing)
        idles h (Some hart) here = stopped_idles c.runs.program w h hart here (stopped h hart here)

  pub stops : StopsAtTheEnd c w
  stops life runs_is world_is = (forth life runs_is world_is, back life runs_is world_is)

pub none_deadlocks : LocksAscend → NoneDeadlocks
none_deadlocks ascend c is formed order events = stops ascend c is formed order events

pub none_deadlocks_resumed : LocksAscend → ImagesAreCrashes → NoneDeadlocksResumed
none_deadlocks_resumed ascend crashes c is formed order before events =
    let same : world c (before ++ Crash ∷ events) ≡ world_from c (image_in c (file_of c (image_of c before))) events =
    sym (ap (λ (x : Image). world_from c x events) (is.in_file before).is_all ∙ (crashes c before events).world_is) in
    subst (StopsAtTheEnd c) same (stops ascend c is formed order (before ++ Crash ∷ events))

pub stops_are_settled : LocksAscend → StopsAreSettled
stops_are_settled ascend c is formed order events idles =
    settled c events (is.whole events) (all_idle ascend c is formed order events (λ h hart here. idles h))
