-- Steps of recovery, as long as locks are gathered and once they are.
use Rattle.std.proofs.Common.{◌≡◌, ◌≢◌, inl, inr, ℕ, ◌<◌, List, [], set, length, refl, ap, sym, ◌∙◌, subst, Some, None, true}
use Rattle.std.specs.Prelude.{slice_get}
use Rattle.std.proofs.lemmas.Option.{same_Some, slice_get_within}
use Rattle.machine_events.specs.declared.event.Event.TheVariants.{Step}
use Rattle.machine_events.specs.declared.event.Reply.TheVariants.{Moved}
use Rattle.ido_base.specs.Locks.{has_lock}
use Rattle.rv64_isa.specs.declared.object.Slot.{Slot}
use Rattle.machine_model.specs.declared.phase.Phase.{Phase}
use Rattle.machine_model.specs.declared.phase.Phase.TheVariants.{Take, Wait, Resume, Run, Done, Ended}
use Rattle.machine_model.specs.Machine.{Hart, World, after_event, reply_to, record_of}
use Rattle.machine_model.proofs.Public.{get-set_same, get-set_other}
use Rattle.log_states.specs.Logs.{Record, nothing_recorded}
use Rattle.log_states.specs.Machines.{config_of}
use Rattle.log_states.proofs.Public.{ends, log_facts}
use Rattle.hart_runs.specs.Calls.{IsInPhase, TakesLocks, has_all, takes_one, is_kept_from, AwaitsOthers, all_have, one_takes, ResumesHart}
use Rattle.hart_runs.proofs.Public.{takes_step, waits_step, resumes_step}
use Rattle.recovered_threads.specs.RecordDescriptions.{locks_of}
use Rattle.recovered_threads.specs.RecoveryStates.{HoldsAll, HasRecord, Gathers, IsOwn, AreGathering, IsRecoveredHart, HasGathered, AreGathered, Awaits}
use Rattle.recovered_threads.specs.Laws.{AreRecordsApart, TakesNeverWait, WaitsForTakers, GatheredGoOn}
use Rattle.recovered_threads.proofs.ChangedWorlds.{same_there, same_or_other, changed, each_hart, count_changed, log_stays, leads}

-- the locks that recovery reads are the record's
pub record_locks : (w : World) (h : ℕ) (r : Record) → HasRecord w h r → record_of w.log w.words h ≡ locks_of r
record_locks w h r s =
    (log_facts.registers_resumed.between w.log h r w.words s.log.follows.new_is (ends w.log h nothing_recorded r (config_of w s.hart []) s.log refl)).locks

-- what a hart gathers, where it goes on to hold what it held
pub gathers_on : (w v : World) (h : ℕ) (r : Record) (phase : Phase) → (HoldsAll w h r → HoldsAll v h r) → Gathers w h r phase → Gathers v h r phase
gathers_on w v h r Take on g = g
gathers_on w v h r Wait on g = (g.0, on g.1)
gathers_on w v h r Resume on g = g
gathers_on w v h r Run on g = g
gathers_on w v h r Done on g = g
gathers_on w v h r Ended on g = g

-- of one that has gathered, where its locks and its log stay
pub gathered_on : (w v : World) (h : ℕ) (r : Record) (phase : Phase) → (IsRecoveredHart w h r → IsRecoveredHart v h r) → HasGathered w h r phase →
    HasGathered v h r phase
gathered_on w v h r Take on g = g
gathered_on w v h r Wait on g = on g
gathered_on w v h r Resume on g = on g
gathered_on w v h r Run on g = g
gathered_on w v h r Done on g = g
gathered_on w v h r Ended on g = g

-- the step of a hart that leaves the holders leaves others ready
ready_on : (w : World) (g : ℕ) (old new : Hart) (h : ℕ) (r : Record) → slice_get w.harts g ≡ Some old → new.queue ≡ old.queue → IsRecoveredHart w h r →
    IsRecoveredHart (changed w w.holders g new) h r
ready_on w g old new h r here queue is = record {
  inside = is.inside;
  all = is.all;
  only = is.only;
  log = log_stays w w.holders g old new h r here queue is.log;
}

-- ---- Taking

module _ (program : List (List Slot)) (w : World) (records : ℕ → Record) (h : ℕ) (gathering : AreGathering w records)
    (apart : AreRecordsApart (length w.harts) records) (i : IsInPhase w h Take) where
  inside : h < length w.harts
  inside = slice_get_within w.harts h i.hart i.here

  own : (lock : ℕ) → has_lock (record_of w.log w.words h) lock ≡ true → has_lock (locks_of (records h)) lock ≡ true
  own lock has = ap (λ (locks : List ℕ). has_lock locks lock) (sym (record_locks w h (records h) (gathering.logs h inside))) ∙ has

  recorded : (lock : ℕ) → has_lock (locks_of (records h)) lock ≡ true → has_lock (record_of w.log w.words h) lock ≡ true
  recorded lock has = ap (λ (locks : List ℕ). has_lock locks lock) (record_locks w h (records h) (gathering.logs h inside)) ∙ has

  some : (records h).point ≢ 0
  some = subst (λ (phase : Phase). Gathers w h (records h) phase) i.phase_is (gathering.each h i.hart i.here)

  -- the hart takes one more lock
  module _ (lock : ℕ) (has : has_lock (locks_of (records h)) lock ≡ true) (free : slice_get w.holders lock ≡ Some None) where
    abbrev taken : World
    taken = changed w (set w.holders lock (Some h)) h i.hart

    still_all : (k : ℕ) → k ≢ h → k < length w.harts → HoldsAll w k (records k) → HoldsAll taken k (records k)
    still_all k other below all at holder there mine = elim (same_or_other at lock) [
      | inl same ↦ absurd (other (apart k h lock below inside (subst (λ (n : ℕ). has_lock (locks_of (records k)) n ≡ true) same mine) has))
      | inr else ↦ all at holder (sym (get-set_other w.holders lock at (Some h) else) ∙ there) mine
    ]

    still_own : (at k : ℕ) → slice_get taken.holders at ≡ Some (Some k) → IsOwn taken records at k
    still_own at k there = elim (same_or_other at lock) [
      | inl same ↦
          let is : Some h ≡ Some k = same_there (slice_get taken.holders at) (Some h) (Some k)
          (ap (slice_get (set w.holders lock (Some h))) same ∙ get-set_same w.holders lock (Some h) None free) there in
          let one : h ≡ k = same_Some h k is in
          record {
            exists = subst (λ (n : ℕ). n < length taken.harts) one (subst (λ (n : ℕ). h < n) (sym (count_changed w taken.holders h i.hart)) inside);
            has = subst (λ (n : ℕ). has_lock (locks_of (records n)) at ≡ true) one
                (subst (λ (n : ℕ). has_lock (locks_of (records h)) n ≡ true) (sym same) has);
          }
      | inr else ↦
          let old : IsOwn w records at k = gathering.held at k (sym (get-set_other w.holders lock at (Some h) else) ∙ there) in
          record { exists = subst (λ (n : ℕ). k < n) (sym (count_changed w taken.holders h i.hart)) old.exists; has = old.has }
    ]

    taken_gathers : AreGathering taken records
    taken_gathers = record {
      each = each_hart w h i.hart i.hart (λ (k : ℕ) (hart : Hart). Gathers taken k (records k) hart.phase) i.here
          (subst (λ (phase : Phase). Gathers taken h (records h) phase) (sym i.phase_is) some)
          (λ k hart other there. gathers_on w taken k (records k) hart.phase (still_all k other (slice_get_within w.harts k hart there))
          (gathering.each k hart there));
      logs = λ k below. log_stays w taken.holders h i.hart i.hart k (records k) i.here refl
          (gathering.logs k (subst (λ (n : ℕ). k < n) (count_changed w taken.holders h i.hart) below));
      held = still_own;
    }

  -- the hart has all of its locks
  module _ (all : HoldsAll w h (records h)) where
    abbrev waiting : Hart
    waiting = record i.hart { phase = Wait }

    abbrev has_them : World
    has_them = changed w w.holders h waiting

    has_them_gathers : AreGathering has_them records
    has_them_gathers = record {
      each = each_hart w h i.hart waiting (λ (k : ℕ) (hart : Hart). Gathers has_them k (records k) hart.phase) i.here (some, all)
          (λ k hart other there. gathers_on w has_them k (records k) hart.phase (λ holds. holds) (gathering.each k hart there));
      logs = λ k below. log_stays w w.holders h i.hart waiting k (records k) i.here refl
          (gathering.logs k (subst (λ (n : ℕ). k < n) (count_changed w w.holders h waiting) below));
      held = λ lock k there.
          let old = gathering.held lock k there in
          record { exists = subst (λ (n : ℕ). k < n) (sym (count_changed w w.holders h waiting)) old.exists; has = old.has };
    }

  takes_by : TakesLocks program w h i.hart → (reply_to program w (Step h) ≡ Moved) × AreGathering (after_event program w (Step h)) records
  takes_by (has_all all does) =
      let mine : HoldsAll w h (records h) = λ lock holder there has. all lock holder (record { among = recorded lock has; there = there }) in
      leads program w (has_them mine) h Moved (λ (v : World). AreGathering v records) does (has_them_gathers mine)
  takes_by (takes_one lock r does) =
      leads program w (taken lock (own lock r.among) r.there) h Moved (λ (v : World). AreGathering v records) does
      (taken_gathers lock (own lock r.among) r.there)
  takes_by (is_kept_from lock g r other does) =
      let theirs = gathering.held lock g r.there in
      absurd (other (apart g h lock theirs.exists inside theirs.has (own lock r.among)))

pub takes_never_wait : TakesNeverWait
takes_never_wait program w records h gathering apart i = takes_by program w records h gathering apart i (takes_step program w h i)

-- ---- Waiting

module _ (program : List (List Slot)) (w : World) (records : ℕ → Record) (h : ℕ) (gathering : AreGathering w records) (i : IsInPhase w h Wait) where
  ready : (k : ℕ) (hart : Hart) → slice_get w.harts k ≡ Some hart → hart.phase ≡ Wait → IsRecoveredHart w k (records k)
  ready k hart there is =
      let g : Gathers w k (records k) Wait = subst (λ (phase : Phase). Gathers w k (records k) phase) is (gathering.each k hart there) in
      record {
        inside = g.0;
        all = g.1;
        only = λ lock held. (gathering.held lock k held).has;
        log = gathering.logs k (slice_get_within w.harts k hart there);
      }

  abbrev resuming : Hart
  resuming = record i.hart { phase = Resume }

  abbrev goes : World
  goes = changed w w.holders h resuming

  -- another hart, where none takes
  module _ (none : (g : ℕ) → ¬ (IsInPhase w g Take)) where
    has_gathered : (k : ℕ) (hart : Hart) → slice_get w.harts k ≡ Some hart → (phase : Phase) → hart.phase ≡ phase → Gathers w k (records k) phase →
        HasGathered goes k (records k) phase
    has_gathered k hart there Take is g = none k (record { hart = hart; here = there; phase_is = is })
    has_gathered k hart there Wait is g = ready_on w h i.hart resuming k (records k) i.here refl (ready k hart there is)
    has_gathered k hart there Resume is g = absurd g
    has_gathered k hart there Run is g = tt
    has_gathered k hart there Done is g = tt
    has_gathered k hart there Ended is g = tt

    gathered : AreGathered goes records
    gathered = record {
      each = each_hart w h i.hart resuming (λ (k : ℕ) (hart : Hart). HasGathered goes k (records k) hart.phase) i.here
          (ready_on w h i.hart resuming h (records h) i.here refl (ready h i.hart i.here i.phase_is))
          (λ k hart other there. has_gathered k hart there hart.phase refl (gathering.each k hart there));
    }

    resumes : IsInPhase goes h Resume
    resumes = record { hart = resuming; here = get-set_same w.harts h resuming i.hart i.here; phase_is = refl }

  waits_by : AwaitsOthers program w h i.hart → Awaits program w records h
  waits_by (all_have none does) =
      let to = leads program w goes h Moved (λ (v : World). IsInPhase v h Resume × AreGathered v records) does (resumes none, gathered none) in
      Awaits.all_have none to.0 to.1.0 to.1.1
  waits_by (one_takes g takes does) = Awaits.one_takes g takes does

pub waits_for_takers : WaitsForTakers
waits_for_takers program w records h gathering i = waits_by program w records h gathering i (waits_step program w h i)

-- ---- Going on

module _ (program : List (List Slot)) (w : World) (records : ℕ → Record) (h : ℕ) (gathered : AreGathered w records) (old : Hart)
    (here : slice_get w.harts h ≡ Some old) where
  goes_as : (new : Hart) → new.queue ≡ old.queue → HasGathered (changed w w.holders h new) h (records h) new.phase →
      AreGathered (changed w w.holders h new) records
  goes_as new queue own = record {
    each = each_hart w h old new (λ (k : ℕ) (hart : Hart). HasGathered (changed w w.holders h new) k (records k) hart.phase) here own
        (λ k hart other there. gathered_on w (changed w w.holders h new) k (records k) hart.phase (ready_on w h old new k (records k) here queue)
        (gathered.each k hart there));
  }

  await_by : (is : old.phase ≡ Wait) → AwaitsOthers program w h old →
      (reply_to program w (Step h) ≡ Moved) × AreGathered (after_event program w (Step h)) records
  await_by is (all_have none does) =
      let ready : IsRecoveredHart w h (records h) = subst (λ (phase : Phase). HasGathered w h (records h) phase) is (gathered.each h old here) in
      let new : Hart = record old { phase = Resume } in
      leads program w (changed w w.holders h new) h Moved (λ (v : World). AreGathered v records) does
      (goes_as new refl (ready_on w h old new h (records h) here refl ready))
  await_by is (one_takes g takes does) =
      absurd (subst (λ (phase : Phase). HasGathered w g (records g) phase) takes.phase_is (gathered.each g takes.hart takes.here))

  resume_by : (is : ResumesHart program w h old) → (reply_to program w (Step h) ≡ Moved) × AreGathered (after_event program w (Step h)) records
  resume_by is =
      leads program w (changed w w.holders h is.after) h Moved (λ (v : World). AreGathered v records) is.does
      (goes_as is.after is.queue (subst (λ (phase : Phase). HasGathered (changed w w.holders h is.after) h (records h) phase) (sym is.runs) tt))

pub gathered_go_on : GatheredGoOn
gathered_go_on program w records h phase gathered (inl waits) i =
    let j : IsInPhase w h Wait = record { hart = i.hart; here = i.here; phase_is = i.phase_is ∙ waits } in
    await_by program w records h gathered i.hart i.here j.phase_is (waits_step program w h j)
gathered_go_on program w records h phase gathered (inr resumes) i =
    let j : IsInPhase w h Resume = record { hart = i.hart; here = i.here; phase_is = i.phase_is ∙ resumes } in
    resume_by program w records h gathered i.hart i.here (resumes_step program w h j)
