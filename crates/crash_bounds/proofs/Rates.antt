-- Of compiled programs: how many enabled steps each hart makes, all of them, and a run that goes on to the end.
use Rattle.std.proofs.Common.{◌≡◌, ℕ, suc, ◌+◌, ◌*◌, ◌≤◌, List, [], ◌++◌, length, ap, sym, ◌∙◌, subst, arith, append_assoc, Bool, true}
use Rattle.std.specs.Prelude.{if◌then◌else◌}
use Rattle.std.proofs.lemmas.Bool.{and_parts}
use Rattle.std.proofs.lemmas.Nat.{mul-le}
use Rattle.std.proofs.Math.ListN.{length-append}
use Rattle.std.proofs.lemmas.List.{length-map}
use Rattle.std.proofs.Math.Nat.{mul-suc}
use Rattle.log_schemes.specs.declared.log.Log.{Log}
use Rattle.machine_events.specs.declared.event.Event.{Event}
use Rattle.c_tree.specs.Source.{State, after_from, runs_from, start}
use Rattle.source_machine.specs.Lives.{after_lives, begun_after, end_lives}
use Rattle.source_machine.proofs.Public.{after_life, runs_appended, runs_life}
use Rattle.machine_model.specs.Executables.{first_world}
use Rattle.machine_model.specs.Machine.{World}
use Rattle.machine_model.specs.Schedule.{PendingStep, Steps, harts_of}
use Rattle.compiler_correctness.specs.Translations.{Translation, GoOn, world, steps}
use Rattle.compiler_correctness.specs.Delays.{delay}
use Rattle.compiler_correctness.specs.Compilations.{IsCompilation}
use Rattle.compiler_correctness.proofs.Public.{gets_on_after, go_on_without_crash}
use Rattle.deadlock_freedom.specs.Deadlocks.{StopsAreSettled}
use Rattle.crash_bounds.specs.Rounds.{KeepsAtMost}
use Rattle.crash_bounds.specs.Losses.{kept_state}
use Rattle.crash_bounds.specs.Rates.{AreEnabled, EndsWithin, HartsGetOn, MachinesEnd, MachinesGetOn}
use Rattle.crash_bounds.specs.Rates.{OrderedMachinesSettle, all_begun_among, begun_among, enabled_steps, entry_bound}
use Rattle.crash_bounds.specs.Rates.{most_below, step_bound, sum_below}
use Rattle.crash_bounds.proofs.ActiveSteps.{gained, slow, sound_first, sound_world}
use Rattle.crash_bounds.proofs.BegunSteps.{Gains, counted_in, gained_by}
use Rattle.crash_bounds.proofs.EnabledSteps.{Enters, enabled_all, enabled_few, enabled_on, enters_along, enters_first, within_entry}
use Rattle.crash_bounds.proofs.EnteringHarts.{IsWithin, TakesMove}
use Rattle.crash_bounds.proofs.Entries.{log_is, moves_along}
use Rattle.crash_bounds.proofs.RoundsOfHarts.{TakesMoveAlong}
use Rattle.crash_bounds.proofs.SumsOfHarts.{all_paid, most_is, sum_within}

module _ (c : Translation) (is : IsCompilation c) (locks : ℕ) (few : KeepsAtMost c.runs.log locks) where
  abbrev harts : ℕ
  harts = length c.runs.program

  moves : (done : List Event) → TakesMove c.runs.program (world c done)
  moves done h hart there takes = ((is.records done).each h hart there).takes takes

  enters : (events : List Event) → Enters (world c events)
  enters events =
      enters_along c.runs.program events (first_world c.runs) (sound_first c) (moves_along c.runs.program (first_world c.runs) moves events [])
      (enters_first c.runs.log c.runs.program c.runs.mutexes c.runs.initial)

  module _ (events more : List Event) (on : GoOn more) where
    abbrev w : World
    w = world c events

    abbrev since : Gains (steps c events) (steps c (events ++ more))
    since = gained c events more on

    hart_gets_on : (h : ℕ) → enabled_steps c.runs.program w more h ≤ entry_bound w locks + delay c h * suc (begun_among c events more h)
    hart_gets_on h =
        let short : KeepsAtMost w.log locks = subst (λ (l : Log). KeepsAtMost l locks) (sym (log_is c events)) few in
        let within : IsWithin w h (entry_bound w locks) = within_entry w locks (enters events) short h in
        let along : TakesMoveAlong c.runs.program w more = moves_along c.runs.program (first_world c.runs) moves more events in
        let enabled = enabled_few c.runs.program h more w (entry_bound w locks) on along (enters events).entering within in
        let few_active = slow c h (delay c h) (omega arith) (λ before later then_on many.
        let sound = sound_world c before in
        gets_on_after c before later h sound.count sound.formed then_on (is.delays before later h (go_on_without_crash later then_on) many)) events more on in
        omega (arith, enabled, few_active)

    begun_is : (h : ℕ) → begun_among c events more h ≡ counted_in h since.new
    begun_is h = let gained = gained_by (steps c events) (steps c (events ++ more)) since h in omega (arith, gained)

    all_begun_is : all_begun_among c events more ≡ length since.new
    all_begun_is =
        let more_begun = ap (λ (xs : List ℕ). length xs) since.begun in
        let both = length-append (steps c events).begun since.new in
        omega (arith, more_begun, both)

    priced : (h : ℕ) → enabled_steps c.runs.program w more h ≤ (entry_bound w locks + delay c h) + delay c h * counted_in h since.new
    priced h =
        let enabled = hart_gets_on h in
        let same = ap (λ (n : ℕ). delay c h * suc n) (begun_is h) in
        let product = mul-suc (delay c h) (counted_in h since.new) in
        omega (arith, enabled, same, product)

    machine_gets_on : sum_below harts (enabled_steps c.runs.program w more) ≤ step_bound c w locks (all_begun_among c events more)
    machine_gets_on =
        let sums = sum_within harts (enabled_steps c.runs.program w more) (λ h. entry_bound w locks + delay c h)
        (λ h. delay c h * counted_in h since.new) priced in
        let paid = all_paid (delay c) harts (most_below harts (delay c)) since.new (λ h below. most_is harts h (delay c) below) in
        let same = ap (λ (n : ℕ). most_below harts (delay c) * n) all_begun_is in
        omega (arith, sums, paid, same)

    -- ---- A run of the source from the kept state

    abbrev behind : List ℕ
    behind = since.kept_since ++ harts_of (steps c (events ++ more)).pending

    abbrev begins : State
    begins = begun_after c.flat (start c.flat) (steps c events).earlier

    regrouped : (steps c (events ++ more)).kept ++ harts_of (steps c (events ++ more)).pending ≡ (steps c events).kept ++ behind
    regrouped =
        ap (λ (xs : List ℕ). xs ++ harts_of (steps c (events ++ more)).pending) since.kept
        ∙ append_assoc (steps c events).kept since.kept_since (harts_of (steps c (events ++ more)).pending)

    record Runs : Type 0 where
      ends : end_lives c.flat (start c.flat) (steps c events).earlier ≡ true
      runs : runs_from begins ((steps c events).kept ++ behind) ≡ true

    runs_now : Runs
    runs_now =
        let t : Steps = steps c (events ++ more) in
        let x = c.flat in
        let parts = and_parts (end_lives x (start x) t.earlier) (runs_from (begun_after x (start x) t.earlier) (t.kept ++ harts_of t.pending))
        (sym (runs_life x (start x) t.earlier (t.kept ++ harts_of t.pending)) ∙ (is.records (events ++ more)).now_runs) in
        record {
          ends = ap (end_lives x (start x)) (sym since.earlier) ∙ parts.0;
          runs = ap (runs_from begins) (sym regrouped)
              ∙ (ap (λ (lives : List (List ℕ)). runs_from (begun_after x (start x) lives) (t.kept ++ harts_of t.pending)) (sym since.earlier) ∙ parts.1);
        }

    kept_is : kept_state c events ≡ after_from begins (steps c events).kept
    kept_is =
        let x = c.flat in
        let s : Steps = steps c events in
        after_life x (start x) s.earlier s.kept
        ∙ ap (λ (b : Bool). if b then after_from begins s.kept else after_lives x (start x) s.earlier) runs_now.ends

    runs_behind : runs_from (kept_state c events) behind ≡ true
    runs_behind =
        let s : Steps = steps c events in
        let parts = and_parts (runs_from begins s.kept) (runs_from (after_from begins s.kept) behind)
        (sym (runs_appended begins s.kept behind) ∙ runs_now.runs) in
        ap (λ (z : State). runs_from z behind) kept_is ∙ parts.1

    begun_within : (most : ℕ) → EndsWithin c events most → all_begun_among c events more ≤ most
    begun_within most ends =
        let short = ends behind runs_behind in
        let both = length-append since.kept_since (harts_of (steps c (events ++ more)).pending) in
        let many = length-map (steps c (events ++ more)).pending (λ (step : PendingStep). step.hart) in
        let lost = since.none_lost in
        let new = all_begun_is in
        omega (arith, short, both, many, lost, new)

  machine_ends : (events more : List Event) (most : ℕ) → EndsWithin c events most → AreEnabled c.runs.program (world c events) more →
      length more ≤ step_bound c (world c events) locks most
  machine_ends events more most ends all =
      let on : GoOn more = enabled_on c.runs.program more (world c events) all in
      let each = enabled_all c.runs.program more (world c events) (sound_world c events) all in
      let bound = machine_gets_on events more on in
      let begun = begun_within events more on most ends in
      let product = mul-le (most_below harts (delay c)) (all_begun_among c events more) (most_below harts (delay c)) most (omega arith) begun in
      omega (arith, each, bound, product)

pub harts_get_on : HartsGetOn
harts_get_on c is locks few events more on h = hart_gets_on c is locks few events more on h

pub machines_get_on : MachinesGetOn
machines_get_on c is locks few events more on = machine_gets_on c is locks few events more on

pub machines_end : MachinesEnd
machines_end c is locks few events more most ends all = machine_ends c is locks few events more most ends all

pub ordered_machines_settle : MachinesEnd → StopsAreSettled → OrderedMachinesSettle
ordered_machines_settle end settled c is formed order locks few events more most within all =
    (end c is locks few events more most within all, settled c is formed order (events ++ more))
