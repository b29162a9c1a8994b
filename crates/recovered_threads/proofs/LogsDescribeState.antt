-- What the logs of a machine describe: at the start, after a crash and in recovery.
use Rattle.std.proofs.Common.{◌≡◌, ◌⊎◌, inl, inr, ℕ, ◌<◌, ◌≤◌, ◌↔◌, List, [], length, refl, ap, arith, sym, ◌∙◌, subst, Bool, true, false, Some}
use Rattle.std.specs.Prelude.{slice_get}
use Rattle.std.proofs.lemmas.Bool.{cases_lt, cond-true}
use Rattle.std.proofs.lemmas.Option.{same_Some}
use Rattle.std.specs.Coded.{le_prop}
use Rattle.machine_events.specs.declared.event.Event.TheVariants.{Crash}
use Rattle.ido_base.specs.Locks.{has_lock}
use Rattle.rv64_isa.specs.declared.object.Slot.{Slot}
use Rattle.machine_model.specs.Machine.{World, after_event, durable_point, record_of, start_of}
use Rattle.flow_graph.specs.Actions.{FlowState, graph_start}
use Rattle.log_states.specs.Logs.{Record, nothing_recorded}
use Rattle.log_states.specs.Stages.{is_committed, left_by_crash}
use Rattle.log_states.specs.Machines.{config_of}
use Rattle.log_states.proofs.Public.{log_facts, ends_committed, starts_standing, crashes_standing}
use Rattle.thread_code.specs.Plans.{Plan}
use Rattle.recovered_threads.specs.RecordDescriptions.{Code, Codes, DescribesAs, AllDescribe}
use Rattle.recovered_threads.specs.RecoveryStates.{HasRecord}
use Rattle.recovered_threads.specs.Machines.{LogDescribes, LogsDescribe}
use Rattle.recovered_threads.specs.Laws.{StartsDescribe, DurableLocksAreHeld, DurableLocksAreApart, DurablePointsSettle, CrashesRecover, RecoveringDescribes}
use Rattle.recovered_threads.proofs.RecoveryAfterCrash.{gathers, logs_have_locks}
use Rattle.recovered_threads.proofs.RecordedLocks.{locks_are_held}
use Rattle.recovered_threads.proofs.GatheredLocks.{points_settle}
use Rattle.recovered_threads.proofs.OrderlyStates.{starts_told}

-- what a crash would leave
left : (p : Plan) (code : Code p) (kept : FlowState) (w : World) → LogDescribes p code kept w → Record
left p code kept w t = left_by_crash w.log code.thread.number t.old t.new (config_of w t.log.hart t.rest)

-- a log that has a record would keep it
left_is : (thread : ℕ) (r : Record) (w : World) (s : HasRecord w thread r) → left_by_crash w.log thread nothing_recorded r (config_of w s.hart []) ≡ r
left_is thread r w s =
    cond-true (is_committed w.log thread (config_of w s.hart [])) r nothing_recorded
    (ends_committed w.log thread nothing_recorded r (config_of w s.hart []) s.log refl)

-- a log with a record that describes the kept state
describes_by : (p : Plan) (code : Code p) (kept : FlowState) (w : World) (late : Bool) (r : Record) → HasRecord w code.thread.number r →
    DescribesAs p code kept late r → LogDescribes p code kept w
describes_by p code kept w late r s describes = record {
  old = nothing_recorded;
  new = r;
  rest = [];
  log = s;
  late = late;
  describes = subst (λ (x : Record). DescribesAs p code kept late x) (sym (left_is code.thread.number r w s)) describes;
}

pub starts_describe : StartsDescribe
starts_describe log program locks initial p codes count n below =
    let code = codes.each n below in
    let inside : code.thread.number < length program = omega (arith, below, count, codes.number n below) in
    describes_by p code (graph_start p.graph p.flat) (start_of log program locks initial) false nothing_recorded
    (starts_standing log program locks code.thread.number initial inside) (starts_told p codes n below)

pub durable_locks_are_held : DurableLocksAreHeld
unfolding left
durable_locks_are_held p code kept w plan orderly t lock =
    subst (λ (locks : List ℕ). (has_lock locks lock ≡ true) ↔ (slice_get kept.holders lock ≡ Some (Some code.thread.number)))
    (sym (logs_have_locks code.thread.number t.old t.new w t.rest t.log))
    (locks_are_held p code kept t.late (left p code kept w t) plan orderly t.describes lock)

pub durable_locks_are_apart : DurableLocksAreApart
durable_locks_are_apart p codes kept w plan orderly describe g h lock gb hb eg eh =
    let one = held g gb eg in
    let other = held h hb eh in
    same_Some g h (same_Some (Some g) (Some h) (sym one ∙ other))
  where
    held : (n : ℕ) (below : n < length p.graph.threads) → has_lock (record_of w.log w.words n) lock ≡ true → slice_get kept.holders lock ≡ Some (Some n)
    held n below has =
        (subst (λ (k : ℕ). (has_lock (record_of w.log w.words k) lock ≡ true) ↔ (slice_get kept.holders lock ≡ Some (Some k))) (codes.number n below)
        (durable_locks_are_held p (codes.each n below) kept w plan orderly (describe n below) lock)).0 has

-- ---- Records by their numbers

module _ (p : Plan) (codes : Codes p) (kept : FlowState) (w : World) (describe : LogsDescribe p codes kept w) where
  record_by : (n : ℕ) → (n < length p.graph.threads) ⊎ (length p.graph.threads ≤ n) → Record
  record_by n (inl below) = left p (codes.each n below) kept w (describe n below)
  record_by n (inr past) = nothing_recorded

  records : ℕ → Record
  records n = record_by n (cases_lt n (length p.graph.threads))

  by_is : (n : ℕ) (below : n < length p.graph.threads) (c : (n < length p.graph.threads) ⊎ (length p.graph.threads ≤ n)) →
      record_by n c ≡ left p (codes.each n below) kept w (describe n below)
  unfolding record_by
  by_is n below (inl other) = ap (λ (b : n < length p.graph.threads). left p (codes.each n b) kept w (describe n b)) (le_prop other below)
  by_is n below (inr past) = absurd (let z : ⊥ = omega (arith, below, past) in z)

  record_is : (n : ℕ) (below : n < length p.graph.threads) → records n ≡ left p (codes.each n below) kept w (describe n below)
  unfolding records
  record_is n below = by_is n below (cases_lt n (length p.graph.threads))

  late_by : (n : ℕ) → (n < length p.graph.threads) ⊎ (length p.graph.threads ≤ n) → Bool
  late_by n (inl below) = (describe n below).late
  late_by n (inr past) = false

  lates : ℕ → Bool
  lates n = late_by n (cases_lt n (length p.graph.threads))

  late_by_is : (n : ℕ) (below : n < length p.graph.threads) (c : (n < length p.graph.threads) ⊎ (length p.graph.threads ≤ n)) →
      late_by n c ≡ (describe n below).late
  unfolding late_by
  late_by_is n below (inl other) = ap (λ (b : n < length p.graph.threads). (describe n b).late) (le_prop other below)
  late_by_is n below (inr past) = absurd (let z : ⊥ = omega (arith, below, past) in z)

  late_is : (n : ℕ) (below : n < length p.graph.threads) → lates n ≡ (describe n below).late
  unfolding lates
  late_is n below = late_by_is n below (cases_lt n (length p.graph.threads))

  records_describe : AllDescribe p codes kept lates records
  unfolding left
  records_describe n below =
      subst (λ (late : Bool). DescribesAs p (codes.each n below) kept late (records n)) (sym (late_is n below))
      (subst (λ (r : Record). DescribesAs p (codes.each n below) kept (describe n below).late r) (sym (record_is n below)) (describe n below).describes)

  points : (n : ℕ) (below : n < length p.graph.threads) → durable_point w.log w.words n ≡ (records n).point
  unfolding left
  points n below =
      let t = describe n below in
      let k = (codes.each n below).thread.number in
      subst (λ (m : ℕ). durable_point w.log w.words m ≡ (left p (codes.each n below) kept w t).point) (codes.number n below)
      (log_facts.record_follows_locks.point w.log k t.old t.new (config_of w t.log.hart t.rest) t.log.log)
      ∙ ap (λ (r : Record). r.point) (sym (record_is n below))

  -- the logs, by the numbers of harts
  module _ (program : List (List Slot)) (count : length program ≡ length w.harts) (threads : length w.harts ≡ length p.graph.threads) where
    inside : (h : ℕ) → h < length w.harts → h < length p.graph.threads
    inside h below = omega (arith, below, threads)

    -- a crash leaves its record of each log
    log_left : (h : ℕ) (below : h < length p.graph.threads) → HasRecord (after_event program w Crash) h (records h)
    unfolding left
    log_left h below =
        let t = describe h below in
        let k = (codes.each h below).thread.number in
        subst (λ (r : Record). HasRecord (after_event program w Crash) h r) (sym (record_is h below))
        (subst (λ (m : ℕ). HasRecord (after_event program w Crash) m (left p (codes.each h below) kept w t)) (codes.number h below)
        (crashes_standing program k t.old t.new w t.rest count t.log))

pub durable_points_settle : DurablePointsSettle
durable_points_settle p codes kept w orderly describe =
    points_settle w.log p codes kept (lates p codes kept w describe) (records p codes kept w describe) w.words orderly
    (records_describe p codes kept w describe)
    (points p codes kept w describe)

pub crashes_recover : CrashesRecover
crashes_recover program p codes kept w count threads describe = record {
  records = records p codes kept w describe;
  lates = lates p codes kept w describe;
  gathering = gathers program w (records p codes kept w describe) count (λ h below. points p codes kept w describe h (omega (arith, below, threads)))
      (λ h below. log_left p codes kept w describe program count threads h (omega (arith, below, threads)));
  describe = records_describe p codes kept w describe;
}

pub recovering_describes : RecoveringDescribes
recovering_describes p codes kept w threads to n below =
    describes_by p (codes.each n below) kept w (to.lates n) (to.records n)
    (subst (λ (k : ℕ). HasRecord w k (to.records n)) (sym (codes.number n below)) (to.gathering.logs n (omega (arith, below, threads))))
    (to.describe n below)
