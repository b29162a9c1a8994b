-- What a crash leaves for recovery.
use Rattle.std.proofs.Common.{◌≡◌, ℕ, zero, suc, ◌+◌, ◌<◌, ◌==◌, List, [], map, length, refl, ap, arith, sym, ◌∙◌, subst, cond, Bool, true, false, Some}
use Rattle.std.specs.Prelude.{slice_get}
use Rattle.std.proofs.lemmas.Bool.{true≢false, cond-true}
use Rattle.std.proofs.lemmas.Option.{none-some, slice_get_within}
use Rattle.machine_events.specs.declared.event.Event.TheVariants.{Crash}
use Rattle.rv64_isa.specs.declared.object.Slot.{Slot}
use Rattle.machine_model.specs.declared.phase.Phase.TheVariants.{Take, Done}
use Rattle.machine_model.specs.Machine.{Hart, World, after_event, after_crash_of, happens, fresh_hart, phase_after_crash, durable_point}
use Rattle.log_schemes.specs.Schemes.{numbers_from}
use Rattle.log_states.specs.Logs.{Record, nothing_recorded}
use Rattle.log_states.specs.Stages.{is_committed}
use Rattle.log_states.specs.Machines.{config_of}
use Rattle.log_states.proofs.Public.{log_facts, ends_committed, crashes_standing}
use Rattle.hart_runs.specs.Laws.{IsCrashed}
use Rattle.hart_runs.proofs.Public.{crashes_step}
use Rattle.recovered_threads.specs.RecoveryStates.{HasRecord, Gathers, AreGathering}
use Rattle.recovered_threads.specs.Laws.{CrashesGather, CrashesAgain, LogsHaveLocks}
use Rattle.recovered_threads.proofs.ChangedWorlds.{same_there}

count_numbers : {A : Type 0} (f : ℕ → A) (at count : ℕ) → length (map f (numbers_from at count)) ≡ count
count_numbers f at zero = refl
count_numbers f at (suc count) = let more = count_numbers f (at + 1) count in omega (arith, more)

-- as many harts as programs
count_after : (program : List (List Slot)) (w : World) → length (after_event program w Crash).harts ≡ length program
unfolding happens after_crash_of
count_after program w = count_numbers _ 0 (length program)

-- a hart's first phase, by its point
gathers_first : (v : World) (h point : ℕ) (r : Record) → point ≡ r.point → Gathers v h r (phase_after_crash point)
gathers_first v h zero r same = sym same
gathers_first v h (suc point) r same = by (suc point == 0) none
  where
    none : (suc point == 0) ≡ false
    none = grind arith

    by : (b : Bool) → b ≡ false → Gathers v h r (cond b Done Take)
    by true e = absurd (true≢false e)
    by false e = λ zero_is. let z : suc point ≡ 0 = same ∙ zero_is in omega (arith, z)

module _ (program : List (List Slot)) (w : World) (records : ℕ → Record) (count : length program ≡ length w.harts)
    (points : (h : ℕ) → h < length w.harts → durable_point w.log w.words h ≡ (records h).point)
    (logs : (h : ℕ) → h < length w.harts → HasRecord (after_event program w Crash) h (records h)) where
  abbrev after : World
  after = after_event program w Crash

  crashed : IsCrashed program w after
  crashed = crashes_step program w

  before : (h : ℕ) → h < length after.harts → h < length w.harts
  before h below = omega (arith, below, count, count_after program w)

  each_gathers : (h : ℕ) (hart : Hart) → slice_get after.harts h ≡ Some hart → Gathers after h (records h) hart.phase
  each_gathers h hart there =
      let inside = slice_get_within after.harts h hart there in
      let is : fresh_hart program (phase_after_crash (durable_point w.log w.words h)) h ≡ hart =
      same_there (slice_get after.harts h) _ hart (crashed.harts h (omega (arith, inside, count_after program w))) there in
      subst (λ (x : Hart). Gathers after h (records h) x.phase) is
      (gathers_first after h (durable_point w.log w.words h) (records h) (points h (before h inside)))

  free : (lock h : ℕ) → slice_get after.holders lock ≡ Some (Some h) → ⊥
  free lock h there = none-some h (sym (crashed.free lock (Some h) there))

  -- where it leaves these records
  pub gathers : AreGathering after records
  gathers = record { each = each_gathers; logs = λ h below. logs h (before h below); held = λ lock h there. absurd (free lock h there) }

pub crashes_gather : CrashesGather
crashes_gather program w old new records rest count logs left = gathers program w records count
    (λ h below. log_facts.record_follows_locks.point w.log h (old h) (new h) (config_of w (logs h below).hart (rest h)) (logs h below).log
    ∙ ap (λ (r : Record). r.point) (sym (left h below)))
    (λ h below. subst (λ (r : Record). HasRecord (after_event program w Crash) h r) (sym (left h below))
    (crashes_standing program h (old h) (new h) w (rest h) count (logs h below)))

pub crashes_again : CrashesAgain
crashes_again program w records count gathering =
    crashes_gather program w (λ h. nothing_recorded) records records (λ h. []) count gathering.logs
    (λ h below. sym (cond-true (is_committed w.log h (config_of w (gathering.logs h below).hart [])) (records h) nothing_recorded
    (ends_committed w.log h nothing_recorded (records h) (config_of w (gathering.logs h below).hart []) (gathering.logs h below).log refl)))

-- ---- What the durable log has

pub logs_have_locks : LogsHaveLocks
logs_have_locks thread old new w rest s = log_facts.record_follows_locks.locks w.log thread old new (config_of w s.hart rest) s.log
