-- Steps of recovery.
use Rattle.std.proofs.Common.{◌≡◌, ℕ, zero, suc, ◌+◌, ◌<◌, List, [], ◌∷◌, length, map, get_or, get_or-set_same, arith}
use Rattle.std.proofs.Common.{slice_get, slice_set, Option, Some, None, is_some, refl, sym, ◌∙◌, ap, subst, if◌then◌else◌}
use Rattle.machine_events.specs.declared.event.Reply.{Reply}
use Rattle.machine_events.specs.declared.event.Reply.TheVariants.{Moved, Waits, Barrier, Still}
use Rattle.machine_events.specs.Cores.{is_idle}
use Rattle.ido_base.specs.Locks.{least_missing}
use Rattle.log_schemes.specs.declared.log.Log.{Log}
use Rattle.ido_base.specs.Words.{Word}
use Rattle.line_memory.specs.declared.memory.LineMemory.{LineMemory}
use Rattle.line_memory.specs.links.MemoryRepresentation.{Represents, Logs, log_in}
use Rattle.rv64_isa.specs.declared.object.Slot.{Slot}
use Rattle.machine_model.specs.declared.phase.Phase.{Phase}
use Rattle.machine_model.specs.declared.phase.Phase.TheVariants.{Take, Wait, Resume, Run, Done, Ended}
use Rattle.machine_model.specs.Machine.{Hart as HartModel, World, Outcome, record_of, taken, waited, taking_from, is_taking}
use Rattle.machine_model.specs.Machine.{resumed, resumed_registers, resume_of, durable_point, phase_step}
use Rattle.log_schemes.specs.Schemes.{numbers_from}
use Rattle.hart_core.specs.declared.hart.Hart.{Hart}
use Rattle.hart_core.specs.StepsOnParts.{Parts, PartsStand, PartsEnd, IsStep}
use Rattle.hart_core.proofs.Public.{same_end, changed_end}
use Rattle.resume_recovery.specs.RecoverySteps.{phase_at, phases_of, IsRecoveryStep}
use Rattle.resume_recovery.specs.links.LeastLockTaker.{taking_among}

-- ---- Take

-- the lock that a hart lacks, by what was read and the table
missing_is : (number : ℕ) (found : Option ℕ) (parts : Parts) (w : World) (model : HartModel) →
    found ≡ least_missing parts.locks (record_of (log_in parts.memory) w.words number) number → PartsStand parts number w model →
    least_missing w.holders (record_of w.log w.words number) number ≡ found
missing_is number found parts w model is s =
    ap (λ (holders : List (Option ℕ)). least_missing holders (record_of w.log w.words number) number) s.holders
    ∙ ap (λ (log : Log). least_missing parts.locks (record_of log w.words number) number) (ap (λ (l : Logs). l.log) s.logs)
    ∙ sym is

module _ (number : ℕ) (found : Option ℕ) (hart : Hart) (memory : LineMemory) (locks : List (Option ℕ))
    (is_missing : (words : List Word) → Represents memory words → found ≡ least_missing locks (record_of (log_in memory) words number) number) where
  -- the hart lacks none
  pub take_ends : found ≡ None →
      IsStep (λ w model. taken w number model (least_missing w.holders (record_of w.log w.words number) number)) number
      (record { phase = Take; hart = hart; memory = memory; locks = locks }) (record { phase = Wait; hart = hart; memory = memory; locks = locks }) Moved
  take_ends none = record {
    each = λ w model s.
        let parts : Parts = record { phase = Take; hart = hart; memory = memory; locks = locks } in
        let after : Parts = record { phase = Wait; hart = hart; memory = memory; locks = locks } in
        let lacked : least_missing w.holders (record_of w.log w.words number) number ≡ None =
        missing_is number found parts w model (is_missing w.words s.words) s ∙ none in
        subst (λ (o : Option ℕ). PartsEnd after Moved number w (taken w number model o)) (sym lacked)
        (changed_end parts after Moved number w model (record model { phase = Wait }) w.words w.holders s s.words refl s.holders refl
        (record { registers = s.hart.registers; pc = s.hart.pc; queue = s.hart.queue }) (λ any entries q. q));
  }

  -- the hart lacks a lock that has a holder
  pub take_waits : (lock holder : ℕ) → found ≡ Some lock → slice_get locks lock ≡ Some (Some holder) →
      IsStep (λ w model. taken w number model (least_missing w.holders (record_of w.log w.words number) number)) number
      (record { phase = Take; hart = hart; memory = memory; locks = locks }) (record { phase = Take; hart = hart; memory = memory; locks = locks })
      (Waits lock holder)
  take_waits lock holder lacks held = record {
    each = λ w model s.
        let parts : Parts = record { phase = Take; hart = hart; memory = memory; locks = locks } in
        let lacked : least_missing w.holders (record_of w.log w.words number) number ≡ Some lock =
        missing_is number found parts w model (is_missing w.words s.words) s ∙ lacks in
        let there : slice_get w.holders lock ≡ Some (Some holder) = ap (λ (holders : List (Option ℕ)). slice_get holders lock) s.holders ∙ held in
        subst (λ (o : Option ℕ). PartsEnd parts (Waits lock holder) number w (taken w number model o)) (sym lacked)
        (rw (taken, there) (same_end parts (Waits lock holder) number w model s));
  }

  -- the hart lacks a lock that is free
  pub take_takes : (lock : ℕ) (locks' : List (Option ℕ)) → found ≡ Some lock → slice_get locks lock ≡ Some None →
      locks' ≡ slice_set locks lock (Some number) →
      IsStep (λ w model. taken w number model (least_missing w.holders (record_of w.log w.words number) number)) number
      (record { phase = Take; hart = hart; memory = memory; locks = locks }) (record { phase = Take; hart = hart; memory = memory; locks = locks' }) Moved
  take_takes lock locks' lacks free is = record {
    each = λ w model s.
        let parts : Parts = record { phase = Take; hart = hart; memory = memory; locks = locks } in
        let after : Parts = record { phase = Take; hart = hart; memory = memory; locks = locks' } in
        let lacked : least_missing w.holders (record_of w.log w.words number) number ≡ Some lock =
        missing_is number found parts w model (is_missing w.words s.words) s ∙ lacks in
        let there : slice_get w.holders lock ≡ Some None = ap (λ (holders : List (Option ℕ)). slice_get holders lock) s.holders ∙ free in
        let holders : slice_set w.holders lock (Some number) ≡ locks' = ap (λ (hs : List (Option ℕ)). slice_set hs lock (Some number)) s.holders ∙ sym is in
        subst (λ (o : Option ℕ). PartsEnd after Moved number w (taken w number model o)) (sym lacked)
        (rw (taken, there) (changed_end parts after Moved number w model model w.words (slice_set w.holders lock (Some number)) s s.words refl holders s.phase
        s.hart (λ any entries q. q)));
  }

-- ---- Wait

taking-is : (at : ℕ) (harts : List HartModel) → taking_from at harts ≡ taking_among at (map (λ hart. hart.phase) harts)
taking-is at [] = refl
taking-is at (hart ∷ harts) = ap (λ (o : Option ℕ). if is_taking hart.phase then Some at else o) (taking-is (at + 1) harts)

module _ (number : ℕ) (hart : Hart) (memory : LineMemory) (locks : List (Option ℕ)) (phases : List Phase) (w : World) (model : HartModel)
    (s : PartsStand (record { phase = Wait; hart = hart; memory = memory; locks = locks }) number w model) (same : phases_of w ≡ phases) where
  pub wait_ends : None ≡ taking_among 0 phases →
      PartsEnd (record { phase = Resume; hart = hart; memory = memory; locks = locks }) Moved number w (waited w number model (taking_from 0 w.harts))
  wait_ends none =
      let before : Parts = record { phase = Wait; hart = hart; memory = memory; locks = locks } in
      let after : Parts = record { phase = Resume; hart = hart; memory = memory; locks = locks } in
      let found : taking_from 0 w.harts ≡ None = taking-is 0 w.harts ∙ ap (taking_among 0) same ∙ sym none in
      subst (λ (o : Option ℕ). PartsEnd after Moved number w (waited w number model o)) (sym found)
      (changed_end before after Moved number w model (record model { phase = Resume }) w.words w.holders s s.words refl s.holders refl
      (record { registers = s.hart.registers; pc = s.hart.pc; queue = s.hart.queue }) (λ any entries q. q))

  pub wait_stays : (taking : ℕ) → Some taking ≡ taking_among 0 phases →
      PartsEnd (record { phase = Wait; hart = hart; memory = memory; locks = locks }) (Barrier taking) number w (waited w number model (taking_from 0 w.harts))
  wait_stays taking some =
      let parts : Parts = record { phase = Wait; hart = hart; memory = memory; locks = locks } in
      let found : taking_from 0 w.harts ≡ Some taking = taking-is 0 w.harts ∙ ap (taking_among 0) same ∙ sym some in
      subst (λ (o : Option ℕ). PartsEnd parts (Barrier taking) number w (waited w number model o)) (sym found)
      (same_end parts (Barrier taking) number w model s)

-- ---- Resume

pub resume_step : (number : ℕ) (hart : Hart) (memory : LineMemory) (locks : List (Option ℕ)) (registers : List ℕ) (pc : ℕ) →
    ((words : List Word) → Represents memory words → registers ≡ resumed_registers (log_in memory) words number) →
    ((words : List Word) → Represents memory words → pc ≡ resume_of (durable_point (log_in memory) words number)) → (hart' : Hart) →
    hart'.registers ≡ registers → hart'.pc ≡ pc →
    hart'.queue ≡ hart.queue → IsStep (λ w model. resumed w number model) number (record { phase = Resume; hart = hart; memory = memory; locks = locks })
    (record { phase = Run; hart = hart'; memory = memory; locks = locks }) Moved
resume_step number hart memory locks registers pc are is hart' registers' pc' queue' = record {
  each = λ w model s.
      let before : Parts = record { phase = Resume; hart = hart; memory = memory; locks = locks } in
      let after : Parts = record { phase = Run; hart = hart'; memory = memory; locks = locks } in
      changed_end before after Moved number w model
      (record model { registers = resumed_registers w.log w.words number; pc = resume_of (durable_point w.log w.words number); phase = Run })
      w.words w.holders s s.words refl s.holders refl (record {
        registers = ap (λ (l : Logs). resumed_registers l.log w.words number) s.logs ∙ sym (registers' ∙ are w.words s.words);
        pc = ap (λ (l : Logs). resume_of (durable_point l.log w.words number)) s.logs ∙ sym (pc' ∙ is w.words s.words);
        queue = rw queue' s.hart.queue;
      }) (λ any entries q. q);
}

-- ---- All phases

pub still_step : (number : ℕ) (parts : Parts) (phases : List Phase) → (parts.phase ≡ Take → ⊥) → (parts.phase ≡ Wait → ⊥) → (parts.phase ≡ Resume → ⊥) →
    (parts.phase ≡ Run → ⊥) → IsRecoveryStep number parts parts phases Still
still_step number parts phases take wait resume run = record {
  each =
      λ program w model s same. subst (λ (o : Outcome). PartsEnd parts Still number w o) (sym (still program w model parts.phase take wait resume run))
      (same_end parts Still number w model s);
}
  where
    still : (program : List (List Slot)) (w : World) (model : HartModel) (phase : Phase) → (phase ≡ Take → ⊥) → (phase ≡ Wait → ⊥) → (phase ≡ Resume → ⊥) →
        (phase ≡ Run → ⊥) → phase_step program w number model phase ≡ (w, Still)
    still program w model Take t a r u = absurd (t refl)
    still program w model Wait t a r u = absurd (a refl)
    still program w model Resume t a r u = absurd (r refl)
    still program w model Run t a r u = absurd (u refl)
    still program w model Done t a r u = refl
    still program w model Ended t a r u = refl

-- what stands at a place, whatever stands past the end
get_or-any : {X : Type 0} (xs : List X) (n : ℕ) (d e : X) → n < length xs → get_or xs n d ≡ get_or xs n e
get_or-any [] n d e within = absurd (omega arith)
get_or-any (x ∷ xs) zero d e within = refl
get_or-any (x ∷ xs) (suc n) d e within = get_or-any xs n d e (omega arith)

pub phase_read : (phases : List Phase) (number : ℕ) (d phase : Phase) → number < length phases → get_or phases number d ≡ phase → phase_at phases number ≡ phase
phase_read phases number d phase within is = get_or-any phases number Done d within ∙ is

-- a step by the phase that stands in a list, which leaves another one there
pub placed_step : (number : ℕ) (phases : List Phase) (phase phase' : Phase) (hart hart' : Hart) (memory : LineMemory) (locks locks' : List (Option ℕ))
    (reply : Reply) → number < length phases → phase_at phases number ≡ phase →
    IsRecoveryStep number (record { phase = phase; hart = hart; memory = memory; locks = locks })
    (record { phase = phase'; hart = hart'; memory = memory; locks = locks' }) phases reply →
    IsRecoveryStep number (record { phase = phase_at phases number; hart = hart; memory = memory; locks = locks })
    (record { phase = phase_at (slice_set phases number phase') number; hart = hart'; memory = memory; locks = locks' }) phases reply
placed_step number phases phase phase' hart hart' memory locks locks' reply within is step =
    subst (λ (p : Phase). IsRecoveryStep number (record { phase = p; hart = hart; memory = memory; locks = locks })
    (record { phase = phase_at (slice_set phases number phase') number; hart = hart'; memory = memory; locks = locks' }) phases reply) (sym is)
    (subst (λ (p : Phase). IsRecoveryStep number (record { phase = phase; hart = hart; memory = memory; locks = locks })
    (record { phase = p; hart = hart'; memory = memory; locks = locks' }) phases reply) (sym (get_or-set_same phases number phase' Done within)) step)

-- ---- Steps that wait

waited-idle : (w : World) (number : ℕ) (model : HartModel) (taking : Option ℕ) → is_idle (waited w number model taking).1 ≡ is_some taking
waited-idle w number model None = refl
waited-idle w number model (Some taking) = refl

pub wait_idle : (phases : List Phase) (w : World) (number : ℕ) (model : HartModel) → phases_of w ≡ phases →
    is_idle (waited w number model (taking_from 0 w.harts)).1 ≡ is_some (taking_among 0 phases)
wait_idle phases w number model same =
    waited-idle w number model (taking_from 0 w.harts) ∙ ap is_some (taking-is 0 w.harts ∙ ap (taking_among 0) same)
