-- A thread's log in a machine, whatever happens.
use Rattle.std.proofs.Common.{◌≡◌, inl, inr, ℕ, zero, suc, ◌+◌, ◌<◌, List, [], ◌∷◌, ◌++◌, length, map, refl, ap, arith, sym, ◌∙◌, subst, add-zero}
use Rattle.std.proofs.Common.{Bool, true, false, Option, Some}
use Rattle.std.specs.Prelude.{slice_get, ◌==◌, if◌then◌else◌}
use Rattle.std.proofs.lemmas.Bool.{cond_both, true≢false}
use Rattle.log_states.specs.Laws.{recorded_by, IsAtRecord}
use Rattle.boundary_code.specs.Boundaries.{boundary_effects}
use Rattle.log_schemes.specs.declared.log.Log.{Log}
use Rattle.machine_events.specs.declared.event.Event.TheVariants.{Step, Evict, Crash}
use Rattle.machine_events.specs.declared.event.Reply.TheVariants.{Moved}
use Rattle.ido_base.specs.Words.{Word, crashed}
use Rattle.ido_base.specs.Growth.{AreEntries}
use Rattle.rv64_isa.specs.declared.object.Slot.{Slot}
use Rattle.machine_model.specs.declared.phase.Phase.TheVariants.{Run}
use Rattle.rv64_isa.specs.Rows.{Effect, Continues, Loads, Stores, Cleans, Fences, Calls, next}
use Rattle.machine_model.specs.Machine.{Hart, World, applied, hart_step, phase_step, stepped, happens, after_event, reply_to}
use Rattle.log_schemes.specs.Schemes.{numbers_from}
use Rattle.machine_model.specs.Machine.{fresh_hart, phase_after_crash, durable_point, after_crash_of, start_of}
use Rattle.machine_model.specs.Frames.{IsWellFormedWorld}
use Rattle.machine_model.specs.Schedule.{has_moved, effect_at}
use Rattle.operator_code.specs.StraightLineCode.{seen}
use Rattle.std.proofs.lemmas.List.Elements.{Contains-append_left, Contains-append_right}
use Rattle.log_states.specs.Logs.{Record, nothing_recorded, AreNamed, IsRecord, HasLog, IsRecorded, framed_of}
use Rattle.log_states.specs.Stages.{LogConfig, LogIs, is_committed, left_by_crash}
use Rattle.log_states.specs.Machines.{config_of, MovesTo, IsNext, IsElsewhere}
use Rattle.log_states.specs.LogInvariant.{LogInv, passage, Advances, Completes, WritesBack, StartsStanding, BeginsStanding, OwnStepsKeep, StepsKeep}
use Rattle.log_states.specs.LogInvariant.{EvictionsKeep, CrashesStanding}
use Rattle.log_states.proofs.EventsKeepLog.{keeps, ends, rests}
use Rattle.log_states.proofs.BoundaryCommits.{crashes_leave}
use Rattle.log_states.proofs.BoundaryStarts.{begins}
use Rattle.log_states.proofs.RecoveredRecords.{starts_empty}
use Rattle.log_states.proofs.Machines.{own_steps_move, steps_move, evictions_move, crashes_crash, executes_effect, runs_step, some_same}
use Rattle.log_states.proofs.BoundaryEffectsInLog.{boundaries_stay_in, log_effects_go, there_below}

-- what either record counts on
both : (old new : Record) → List ℕ
both old new = framed_of old ++ framed_of new

names_old : (old new : Record) → AreNamed (both old new) old
unfolding both
names_old old new word c = Contains-append_left (framed_of old) (framed_of new) word c

names_new : (old new : Record) → AreNamed (both old new) new
unfolding both
names_new old new word c = Contains-append_right (framed_of old) (framed_of new) word c

-- what moves the log keeps it on its way
moved_stands : (thread : ℕ) (named : List ℕ) (old new : Record) (w : World) (hart : Hart) (rest : List Effect) (after : World) (rest_after : List Effect) →
    AreNamed named old → AreNamed named new →
    LogIs w.log thread old new (config_of w hart rest) → MovesTo thread named w hart rest after rest_after → LogInv thread old new after rest_after
moved_stands thread named old new w hart rest after rest_after names also l m = record {
  hart = m.next;
  here = m.there;
  log = subst (λ (log : Log). LogIs log thread old new (config_of after m.next rest_after)) (sym m.log)
      (keeps w.log thread named old new (config_of w hart rest) (config_of after m.next rest_after) names also l m.moves);
}

pub steps_keep : StepsKeep
steps_keep program named g thread old new w rest sound s names also elsewhere =
    moved_stands thread named old new w s.hart rest (after_event program w (Step g)) rest names also s.log
    (steps_move program named w g thread s.hart rest sound s.here elsewhere)

pub evictions_keep : EvictionsKeep
evictions_keep program line mask thread old new w rest s =
    moved_stands thread (both old new) old new w s.hart rest (after_event program w (Evict line mask)) rest (names_old old new) (names_new old new) s.log
    (evictions_move program (both old new) w line mask thread s.hart rest s.here)

pub begins_standing : BeginsStanding
begins_standing b framed frame older old side resume x w same s at r comes = record {
  hart = s.hart;
  here = s.here;
  log = subst (λ (log : Log). LogIs log b.thread old (recorded_by b framed frame side resume x) (config_of w s.hart (boundary_effects b side resume x))) same
      (begins b framed frame old side resume x w.words s.hart.queue (subst (λ (log : Log). HasLog log b.thread w.words) (sym same) s.log.log) s.log.queue
      (subst (λ (log : Log). IsRecord log old) (sym same) s.log.follows.new_is)
      (subst (λ (log : Log). IsRecorded log b.thread old w.words) (sym same) (ends w.log b.thread older old (config_of w s.hart []) s.log refl))
      (subst (λ (log : Log). IsAtRecord log old side x) (sym same) at) r comes);
}

-- ---- An instruction of a boundary

module _ {program : List (List Slot)} {thread : ℕ} {w : World} {hart : Hart} {effect : Effect} (old new : Record) (later : List Effect)
    (sound : IsWellFormedWorld w) (is : IsNext program w thread hart effect) where
  -- an instruction of the boundary makes the next effect
  makes : LogIs w.log thread old new (config_of w hart (effect ∷ later)) → Advances program (passage thread old new) w (effect ∷ []) later
  makes l =
      let own = boundaries_stay_in w.log thread old new (config_of w hart (effect ∷ later)) effect later l refl in
      let to = own_steps_move program (both old new) w thread hart effect later is own.1 in
      let stands : LogInv thread old new (after_event program w (Step thread))
      (if has_moved (reply_to program w (Step thread)) then later else effect ∷ later) =
      moved_stands thread (both old new) old new w hart (effect ∷ later) (after_event program w (Step thread)) _ (names_old old new) (names_new old new) l to in
      elim (log_effects_go program w thread hart effect is own.0) [
        | inl moved ↦ Completes moved (subst (λ r. LogInv thread old new (after_event program w (Step thread))
            (if has_moved r then later else effect ∷ later)) moved stands)
        | inr drained ↦ WritesBack drained (subst (λ r. LogInv thread old new (after_event program w (Step thread))
            (if has_moved r then later else effect ∷ later)) drained stands)
      ]

  -- an instruction of the boundary only computes
  computes : (registers : List ℕ) (to : ℕ) → effect ≡ Continues registers to → LogInv thread old new w later →
      Advances program (passage thread old new) w [] later
  unfolding happens
  computes registers to goes s =
      let replied : (hart_step program w thread hart).1 ≡ Moved = executes_effect program thread w hart effect (λ o. o.1 ≡ Moved) is.is
      (subst (λ (e : Effect). (applied w thread hart e).1 ≡ Moved) (sym goes) refl) in
      let phased : (phase_step program w thread hart hart.phase).1 ≡ Moved =
      runs_step program thread w hart effect (λ o. o.1 ≡ Moved) hart.phase is.runs replied in
      Completes (subst (λ (x : Option Hart). (stepped program w thread x).1 ≡ Moved) (sym is.here) phased)
      (steps_keep program (both old new) thread thread old new w later sound s (names_old old new) (names_new old new) elsewhere)
    where
      is_going : Effect → Type 0
      is_going (Continues r p) = Unit {0}
      is_going (Loads address bytes signed register) = ⊥
      is_going (Stores address bytes value) = ⊥
      is_going (Cleans address) = ⊥
      is_going Fences = ⊥
      is_going Calls = ⊥

      elsewhere : IsElsewhere program w (both old new) thread thread
      elsewhere other address bytes value n i below meets =
          let one : hart ≡ other = some_same hart other (sym is.here ∙ n.here) in
          let same : Continues registers to ≡ Stores address bytes value =
          sym goes ∙ some_same effect (Stores address bytes value) (sym is.is ∙ ap (λ (x : Hart). effect_at program thread x) one ∙ n.is) in
          absurd (subst is_going same tt)

  made : (e : Effect) → effect ≡ e → LogInv thread old new w (e ∷ later) → Advances program (passage thread old new) w (e ∷ []) later
  made e same s =
      let one : s.hart ≡ hart = some_same s.hart hart (sym s.here ∙ is.here) in
      subst (λ (f : Effect). Advances program (passage thread old new) w (f ∷ []) later) same
      (makes (subst (λ (x : Hart). LogIs w.log thread old new (config_of w x (effect ∷ later))) one
      (subst (λ (f : Effect). LogIs w.log thread old new (config_of w s.hart (f ∷ later))) (sym same) s.log)))

  by_effect : (e : Effect) → effect ≡ e → LogInv thread old new w (seen hart.pc e ++ later) →
      Advances program (passage thread old new) w (seen hart.pc e) later
  by_effect (Continues registers to) e s = by (to == next hart.pc) s
    where
      by : (b : Bool) → LogInv thread old new w ((if b then [] else Continues registers to ∷ []) ++ later) →
          Advances program (passage thread old new) w (if b then [] else Continues registers to ∷ []) later
      by true stands = computes registers to e stands
      by false stands = absurd (true≢false (sym (boundaries_stay_in w.log thread old new (config_of w stands.hart (Continues registers to ∷ later))
          (Continues registers to) later stands.log refl).1))
  by_effect (Loads address bytes signed register) e s =
      absurd (true≢false (sym (boundaries_stay_in w.log thread old new (config_of w s.hart (Loads address bytes signed register ∷ later))
      (Loads address bytes signed register) later s.log refl).1))
  by_effect (Stores address bytes value) e s = made (Stores address bytes value) e s
  by_effect (Cleans address) e s = made (Cleans address) e s
  by_effect Fences e s = made Fences e s
  by_effect Calls e s = absurd (true≢false (sym (boundaries_stay_in w.log thread old new (config_of w s.hart (Calls ∷ later)) Calls later s.log refl).1))

pub own_steps_keep : OwnStepsKeep
own_steps_keep program thread old new w hart effect later sound is s = by_effect old new later sound is effect refl s

-- ---- Crashes and starts

row_of : {A : Type 0} (f : ℕ → A) (at count i : ℕ) → i < count → slice_get (map f (numbers_from at count)) i ≡ Some (f (at + i))
row_of f at zero i below = absurd (omega (arith, below))
row_of {A} f at (suc count) zero below = ap (λ (n : ℕ). Some (f n)) (sym (add-zero at))
row_of {A} f at (suc count) (suc i) below =
    let same : at + 1 + i ≡ at + suc i = omega arith in
    row_of f (at + 1) count i (omega (arith, below)) ∙ ap (λ (n : ℕ). Some (f n)) same

-- a hart that begins, with an empty queue
begins_with : (thread : ℕ) (r : Record) (w : World) (hart : Hart) → slice_get w.harts thread ≡ Some hart → hart.queue ≡ [] → IsRecord w.log r →
    HasLog w.log thread w.words →
    IsRecorded w.log thread r w.words → LogInv thread nothing_recorded r w []
begins_with thread r w hart here empty is log recorded = record {
  hart = hart;
  here = here;
  log = rests w.log thread r (config_of w hart []) refl log (subst (λ q. AreEntries w.words q) (sym empty) tt) is recorded;
}

pub starts_standing : StartsStanding
unfolding start_of
starts_standing log program locks thread initial inside =
    let e = starts_empty log program locks thread initial inside in
    begins_with thread nothing_recorded (start_of log program locks initial) (fresh_hart program Run (0 + thread))
    (row_of (fresh_hart program Run) 0 (length program) thread inside) refl e.0 e.1 e.2

pub crashes_standing : CrashesStanding
unfolding happens after_crash_of
crashes_standing program thread old new w rest count s =
    let m : LogConfig = config_of w s.hart rest in
    let left = left_by_crash w.log thread old new m in
    let leaves = crashes_leave w.log thread old new m s.log in
    let words : crashed w.words ≡ (after_event program w Crash).words = sym (crashes_crash program w) in
    let inside : thread < length program = omega (arith, count, there_below w.harts thread s.hart s.here) in
    let fresh : ℕ → Hart = λ t. fresh_hart program (phase_after_crash (durable_point w.log (after_event program w Crash).words t)) t in
    begins_with thread left (after_event program w Crash) (fresh (0 + thread)) (row_of fresh 0 (length program) thread inside) refl
    (cond_both (is_committed w.log thread m) new old (IsRecord w.log) (λ _. s.log.follows.new_is) (λ _. s.log.follows.old_is))
    (subst (λ (ws : List Word). HasLog w.log thread ws) words leaves.1) (subst (λ (ws : List Word). IsRecorded w.log thread left ws) words leaves.0)
