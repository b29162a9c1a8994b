-- What other events leave, and runs one after the other.
use Rattle.std.proofs.Common.{◌≡◌, ℕ, zero, suc, ◌+◌, ◌-◌, List, [], ◌++◌, length, refl, ap, arith, sym, ◌∙◌, subst, Some, zero-add, append_assoc}
use Rattle.std.specs.Prelude.{slice_get}
use Rattle.machine_model.proofs.Public.{log_stays}
use Rattle.log_schemes.specs.declared.log.Log.{Log}
use Rattle.machine_events.specs.declared.event.Event.{Event}
use Rattle.machine_events.specs.declared.event.Event.TheVariants.{Step, Evict, Crash, Start}
use Rattle.rv64_isa.specs.declared.object.Slot.{Slot}
use Rattle.machine_model.specs.declared.phase.Phase.TheVariants.{Run}
use Rattle.machine_model.specs.Machine.{Hart, World, Outcome, moved, happens, after_event}
use Rattle.machine_model.specs.Frames.{IsWellFormedWorld, Touches}
use Rattle.machine_model.proofs.Public.{get-set_same, steps_touch}
use Rattle.code_runs.specs.ComputingRuns.{LocalConfig, config}
use Rattle.code_runs.specs.CodeTraces.{MarkedEnvironment, Observation, Trace, Answers}
use Rattle.code_runs.proofs.Public.{along, walk_answers}
use Rattle.hart_runs.specs.HartsOnRuns.{IsRunningAt, MayGo, IsOnTrace}
use Rattle.hart_runs.specs.Laws.{IsOfOthers, stretch, IsOnSameTrace, IsOnFirstPart}
use Rattle.hart_runs.proofs.RunStepEffects.{may_left, may_right, may_both}

pub others_leave : (program : List (List Slot)) (w : World) (h : ℕ) (event : Event) → IsWellFormedWorld w → IsOfOthers h event →
    (slice_get (after_event program w event).harts h ≡ slice_get w.harts h) × (length (after_event program w event).harts ≡ length w.harts)
unfolding happens
others_leave program w h (Step g) sound other =
    let t : Touches g w (after_event program w (Step g)) = steps_touch program w g sound in
    (t.others h (λ e. other (sym e)), t.count)
others_leave program w h (Evict line mask) sound other = (refl, refl)
others_leave program w h Crash sound other = absurd other
others_leave program w h Start sound other = absurd other

pub others_keep_runs : (program : List (List Slot)) (w : World) (h : ℕ) (event : Event) → IsWellFormedWorld w → IsOfOthers h event →
    (s : MarkedEnvironment) (steps : ℕ) (seen : List Observation) (to : LocalConfig) (on : IsOnTrace w h s steps seen to) →
    IsOnSameTrace (after_event program w event) h (stretch s steps seen to) on.hart
others_keep_runs program w h event sound other s steps seen to on =
    let leave : (slice_get (after_event program w event).harts h ≡ slice_get w.harts h) × (length (after_event program w event).harts ≡ length w.harts) =
    others_leave program w h event sound other in
    record {
      on = record {
        hart = on.hart;
        here = leave.0 ∙ on.here;
        runs = on.runs;
        walks = on.walks;
        may = subst (λ (log : Log). MayGo log (length (after_event program w event).harts) seen) (sym (log_stays program w event sound))
            (subst (λ (n : ℕ). MayGo w.log n seen) (sym leave.1) on.may);
      };
      same = refl;
    }

-- ---- Runs one after the other

pub runs_join : (w : World) (h : ℕ) (s : MarkedEnvironment) (n k : ℕ) (first later : List Observation) (by to : LocalConfig) → IsOnTrace w h s n first by →
    Trace s k by later to →
    MayGo w.log (length w.harts) later → IsOnTrace w h s (n + k) (first ++ later) to
runs_join w h s n k first later by to on walks may = record {
  hart = on.hart;
  here = on.here;
  runs = on.runs;
  walks = along s n k (config on.hart.registers on.hart.pc) by to first later on.walks walks;
  may = may_both w.log (length w.harts) first later on.may may;
}

regrouped : (seen head tail first later : List Observation) → seen ≡ head ++ tail → tail ≡ first ++ later → seen ≡ (head ++ first) ++ later
regrouped seen head tail first later e g = e ∙ (ap (λ (x : List Observation). head ++ x) g ∙ sym (append_assoc head first later))

-- a run in two parts
record InParts (s : MarkedEnvironment) (n k : ℕ) (m : LocalConfig) (seen : List Observation) (to : LocalConfig) : Type 0 where
  by : LocalConfig
  first : List Observation
  later : List Observation
  seen_is : seen ≡ first ++ later
  before : Trace s n m first by
  after : Trace s k by later to

in_parts : (s : MarkedEnvironment) (n k : ℕ) (m : LocalConfig) (seen : List Observation) (to : LocalConfig) → Trace s (n + k) m seen to →
    InParts s n k m seen to
in_parts s zero k m seen to w = record {
  by = m;
  first = [];
  later = seen;
  seen_is = refl;
  before = (refl, refl);
  after = subst (λ (i : ℕ). Trace s i m seen to) (zero-add k) w;
}
in_parts s (suc n) k m seen to w =
    let e : suc n + k ≡ suc (n + k) = omega arith in
    let v : Trace s (suc (n + k)) m seen to = subst (λ (i : ℕ). Trace s i m seen to) e w in
    let p : InParts s n k v.0 v.2 to = in_parts s n k v.0 v.2 to v.4 in
    record {
      by = p.by;
      first = v.1 ++ p.first;
      later = p.later;
      seen_is = regrouped seen v.1 v.2 p.first p.later v.5 p.seen_is;
      before = (v.0, v.1, p.first, v.3, p.before, refl);
      after = p.after;
    }

pub runs_split : (w : World) (h : ℕ) (s : MarkedEnvironment) (n k : ℕ) (seen : List Observation) (to : LocalConfig) → IsOnTrace w h s (n + k) seen to →
    IsOnFirstPart w h n (stretch s (n + k) seen to)
runs_split w h s n k seen to on =
    let p : InParts s n k (config on.hart.registers on.hart.pc) seen to = in_parts s n k (config on.hart.registers on.hart.pc) seen to on.walks in
    let may : MayGo w.log (length w.harts) (p.first ++ p.later) = subst (λ (x : List Observation). MayGo w.log (length w.harts) x) p.seen_is on.may in
    let left : k ≡ n + k - n = omega arith in
    record {
      by = p.by;
      first = p.first;
      later = p.later;
      seen_is = p.seen_is;
      on = record { hart = on.hart; here = on.here; runs = on.runs; walks = p.before; may = may_left w.log (length w.harts) p.first p.later may };
      after = subst (λ (i : ℕ). Trace s i p.by p.later to) left p.after;
      may = may_right w.log (length w.harts) p.first p.later may;
    }

pub runs_begin : (w : World) (h : ℕ) (s : MarkedEnvironment) (steps : ℕ) (seen : List Observation) (m to : LocalConfig) → IsRunningAt w h m →
    Trace s steps m seen to →
    MayGo w.log (length w.harts) seen →
    IsOnTrace w h s steps seen to
runs_begin w h s steps seen m to at walks may = record {
  hart = at.hart;
  here = at.here;
  runs = at.runs;
  walks = subst (λ (x : LocalConfig). Trace s steps x seen to) (sym at.is) walks;
  may = may;
}

pub moved_harts_begin : (program : List (List Slot)) (w v : World) (h : ℕ) (old after : Hart) → slice_get v.harts h ≡ Some old →
    happens program w (Step h) ≡ moved v h after →
    after.phase ≡ Run → IsRunningAt (after_event program w (Step h)) h (config after.registers after.pc)
moved_harts_begin program w v h old after here does runs =
    subst (λ (o : Outcome). IsRunningAt o.0 h (config after.registers after.pc)) (sym does)
    (record { hart = after; here = get-set_same v.harts h after old here; runs = runs; is = refl })

pub runs_stay_on : (w : World) (h : ℕ) (s z : MarkedEnvironment) (steps : ℕ) (seen : List Observation) (to : LocalConfig) → Answers s z →
    (on : IsOnTrace w h s steps seen to) →
    IsOnSameTrace w h (stretch z steps seen to) on.hart
runs_stay_on w h s z steps seen to answers on = record {
  on = record {
    hart = on.hart;
    here = on.here;
    runs = on.runs;
    walks = walk_answers s z answers steps (config on.hart.registers on.hart.pc) to seen on.walks;
    may = on.may;
  };
  same = refl;
}
