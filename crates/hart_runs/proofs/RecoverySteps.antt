-- What the steps of recovery do.
use Rattle.std.proofs.Common.{◌≡◌, ◌≢◌, ◌⊎◌, inl, inr, ℕ, zero, suc, ◌+◌, ◌<◌, List, [], ◌∷◌, length, map, refl}
use Rattle.std.proofs.Common.{ap, arith, sym, ◌∙◌, subst, get_or, Bool, true, false, Option, Some, None, add-zero}
use Rattle.std.specs.Prelude.{slice_get, min, not, ◌==◌}
use Rattle.std.proofs.lemmas.Bool.{cases_lt, cond_both, eqb-true}
use Rattle.ido_base.specs.Words.{Word}
use Rattle.log_schemes.specs.declared.log.Log.{Log}
use Rattle.machine_events.specs.declared.event.Event.TheVariants.{Step}
use Rattle.machine_events.specs.declared.event.Reply.TheVariants.{Still}
use Rattle.ido_base.specs.Locks.{is_held_by, is_missing, has_lock, lesser, least_missing}
use Rattle.rv64_isa.specs.declared.object.Slot.{Slot}
use Rattle.machine_model.specs.declared.phase.Phase.{Phase}
use Rattle.machine_model.specs.declared.phase.Phase.TheVariants.{Take, Wait, Resume, Run, Done, Ended}
use Rattle.machine_model.proofs.Public.{resumed_count}
use Rattle.machine_model.specs.Machine.{Hart, World, moved, taken, waited, taking_from, is_taking, record_of}
use Rattle.machine_model.specs.Machine.{durable_point, resume_of, resumed_register, resumed_registers, happens}
use Rattle.log_schemes.specs.Schemes.{numbers_from}
use Rattle.ido_base.proofs.Public.{has_cases, has_first, has_later}
use Rattle.hart_runs.specs.Calls.{IsInPhase, IsRecorded, TakesLocks, AwaitsOthers, ResumesHart}
use Rattle.hart_runs.proofs.OtherEventsKeepRuns.{moved_harts_begin}
use Rattle.hart_runs.proofs.Worlds.{none_some, some_same, took, by_phase}

-- ---- The least lock that is missing

held_by_is : (h : ℕ) (holder : Option ℕ) → is_held_by h holder ≡ true → holder ≡ Some h
held_by_is h None e = absurd (let no : false ≡ true = e in cc)
held_by_is h (Some g) e = ap (λ (n : ℕ). Some n) (sym (eqb-true h g e))

not_held : (h g : ℕ) → is_held_by h (Some g) ≡ false → g ≢ h
not_held h g e is = let same : (h == g) ≡ true = grind (arith, is) in let no : true ≡ false = sym same ∙ e in cc

not_true : (b : Bool) → not b ≡ true → b ≡ false
not_true true e = sym e
not_true false e = refl

not_false : (b : Bool) → not b ≡ false → b ≡ true
not_false true e = refl
not_false false e = sym e

-- none is missing: the hart holds each of the locks
HoldsAll : List (Option ℕ) → (locks : List ℕ) → (h : ℕ) → Type 0
HoldsAll holders locks h = (lock : ℕ) (holder : Option ℕ) → slice_get holders lock ≡ Some holder → has_lock locks lock ≡ true → holder ≡ Some h

-- one is: it is among the locks, and the hart doesn't hold it
record IsMissing (holders : List (Option ℕ)) (locks : List ℕ) (h lock : ℕ) : Type 0 where
  holder : Option ℕ
  there : slice_get holders lock ≡ Some holder
  among : has_lock locks lock ≡ true
  other : is_held_by h holder ≡ false

Missing : List (Option ℕ) → (locks : List ℕ) → (h : ℕ) → Option ℕ → Type 0
Missing holders locks h None = HoldsAll holders locks h
Missing holders locks h (Some lock) = IsMissing holders locks h lock

-- whether a lock is missing, by what is said of its holder
missing_by : (h : ℕ) → Option (Option ℕ) → Bool
missing_by h (Some holder) = not (is_held_by h holder)
missing_by h None = false

missing_is : (holders : List (Option ℕ)) (h lock : ℕ) → is_missing holders h lock ≡ missing_by h (slice_get holders lock)
unfolding missing_by
missing_is holders h lock = by (slice_get holders lock)
  where
    by : (slot : Option (Option ℕ)) → (elim slot [ Some holder ↦ not (is_held_by h holder) | None ↦ false ]) ≡ missing_by h slot
    by None = refl
    by (Some holder) = refl

module _ (holders : List (Option ℕ)) (h : ℕ) where
  -- a lock that isn't missing is the hart's, where it exists
  is_own : (lock : ℕ) (holder : Option ℕ) → is_missing holders h lock ≡ false → slice_get holders lock ≡ Some holder → holder ≡ Some h
  unfolding missing_by
  is_own lock holder e there = held_by_is h holder (not_false (is_held_by h holder) (sym (ap (missing_by h) there) ∙ (sym (missing_is holders h lock) ∙ e)))

  found_by : (lock : ℕ) (locks : List ℕ) (slot : Option (Option ℕ)) → slice_get holders lock ≡ slot → missing_by h slot ≡ true →
      IsMissing holders (lock ∷ locks) h lock
  unfolding missing_by
  found_by lock locks None at e = absurd (let no : false ≡ true = e in cc)
  found_by lock locks (Some o) at e = record { holder = o; there = at; among = has_first lock locks; other = not_true (is_held_by h o) e }

  later_missing : (lock : ℕ) (locks : List ℕ) (found : Option ℕ) → is_missing holders h lock ≡ false → Missing holders locks h found →
      Missing holders (lock ∷ locks) h found
  unfolding Missing HoldsAll
  later_missing lock locks None e m = λ other holder there has. elim (has_cases other lock locks has) [
    | inl same ↦ is_own lock holder e (ap (λ (n : ℕ). slice_get holders n) same ∙ there)
    | inr among ↦ m other holder there among
  ]
  later_missing lock locks (Some other) e m = record { holder = m.holder; there = m.there; among = has_later lock locks other m.among; other = m.other }

  -- the lesser of two that are missing is one of them
  lesser_missing : (lock : ℕ) (locks : List ℕ) (found : Option ℕ) → is_missing holders h lock ≡ true → Missing holders locks h found →
      IsMissing holders (lock ∷ locks) h (lesser lock found)
  unfolding Missing
  lesser_missing lock locks None e m = found_by lock locks (slice_get holders lock) refl (sym (missing_is holders h lock) ∙ e)
  lesser_missing lock locks (Some other) e m = elim (cases_lt lock other) [
    | inl less ↦
        subst (IsMissing holders (lock ∷ locks) h) (let own : lock ≡ min lock other = omega (arith, less) in own)
        (found_by lock locks (slice_get holders lock) refl (sym (missing_is holders h lock) ∙ e))
    | inr no_less ↦
        subst (IsMissing holders (lock ∷ locks) h) (let later : other ≡ min lock other = omega (arith, no_less) in later)
        (record { holder = m.holder; there = m.there; among = has_later lock locks other m.among; other = m.other })
  ]

  missing : (locks : List ℕ) → Missing holders locks h (least_missing holders locks h)
  unfolding Missing HoldsAll
  missing [] = λ lock holder there has. absurd (let no : false ≡ true = has in cc)
  missing (lock ∷ locks) =
      cond_both (is_missing holders h lock) (Some (lesser lock (least_missing holders locks h))) (least_missing holders locks h)
      (λ (x : Option ℕ). Missing holders (lock ∷ locks) h x) (λ e. lesser_missing lock locks (least_missing holders locks h) e (missing locks))
      (λ e. later_missing lock locks (least_missing holders locks h) e (missing locks))

-- ---- Take

module _ (program : List (List Slot)) (w : World) (h : ℕ) (i : IsInPhase w h Take) where
  takes_by : happens program w (Step h) ≡ taken w h i.hart (least_missing w.holders (record_of w.log w.words h) h)
  takes_by = by_phase program w h i.hart i.here Take i.phase_is

  by_holder : (lock : ℕ) (holder : Option ℕ) → IsRecorded w h lock holder → is_held_by h holder ≡ false →
      happens program w (Step h) ≡ taken w h i.hart (Some lock) → TakesLocks program w h i.hart
  by_holder lock None r other e = TakesLocks.takes_one lock r (e ∙ ap (λ (x : Option (Option ℕ)). took w h i.hart lock x) r.there)
  by_holder lock (Some g) r other e = TakesLocks.is_kept_from lock g r (not_held h g other) (e ∙ ap (λ (x : Option (Option ℕ)). took w h i.hart lock x) r.there)

  by_missing : (found : Option ℕ) → Missing w.holders (record_of w.log w.words h) h found → happens program w (Step h) ≡ taken w h i.hart found →
      TakesLocks program w h i.hart
  unfolding Missing HoldsAll
  by_missing None m e = TakesLocks.has_all (λ lock holder r. m lock holder r.there r.among) e
  by_missing (Some lock) m e = by_holder lock m.holder (record { among = m.among; there = m.there }) m.other e

  pub takes_step : TakesLocks program w h i.hart
  takes_step = by_missing (least_missing w.holders (record_of w.log w.words h) h) (missing w.holders h (record_of w.log w.words h)) takes_by

-- ---- Wait

taking_is : (p : Phase) → is_taking p ≡ true → p ≡ Take
taking_is Take e = refl
taking_is Wait e = absurd (let no : false ≡ true = e in cc)
taking_is Resume e = absurd (let no : false ≡ true = e in cc)
taking_is Run e = absurd (let no : false ≡ true = e in cc)
taking_is Done e = absurd (let no : false ≡ true = e in cc)
taking_is Ended e = absurd (let no : false ≡ true = e in cc)

record TakesAt (at : ℕ) (harts : List Hart) (g : ℕ) : Type 0 where
  place : ℕ
  hart_is : g ≡ at + place
  hart : Hart
  there : slice_get harts place ≡ Some hart
  phase_is : hart.phase ≡ Take

Taking : (at : ℕ) → List Hart → Option ℕ → Type 0
Taking at harts None = (g : ℕ) (hart : Hart) → slice_get harts g ≡ Some hart → hart.phase ≢ Take
Taking at harts (Some g) = TakesAt at harts g

later_taking : (at : ℕ) (x : Hart) (harts : List Hart) (found : Option ℕ) → is_taking x.phase ≡ false → Taking (at + 1) harts found →
    Taking at (x ∷ harts) found
unfolding Taking
later_taking at x harts None e t = first
  where
    first : (g : ℕ) (hart : Hart) → slice_get (x ∷ harts) g ≡ Some hart → hart.phase ≢ Take
    first zero hart there takes =
        let same : x ≡ hart = some_same x hart there in
        let no : true ≡ false = sym (ap (λ (p : Phase). is_taking p) (ap (λ (y : Hart). y.phase) same ∙ takes)) ∙ e in
        cc
    first (suc g) hart there takes = t g hart there takes
later_taking at x harts (Some g) e t = record {
  place = suc t.place;
  hart_is = (let k : g ≡ at + 1 + t.place = t.hart_is in omega (arith, k));
  hart = t.hart;
  there = t.there;
  phase_is = t.phase_is;
}

taking : (at : ℕ) (harts : List Hart) → Taking at harts (taking_from at harts)
unfolding Taking
taking at [] = λ g hart there. absurd (none_some hart there)
taking at (x ∷ harts) =
    cond_both (is_taking x.phase) (Some at) (taking_from (at + 1) harts) (λ (o : Option ℕ). Taking at (x ∷ harts) o)
    (λ e. record { place = 0; hart_is = sym (add-zero at); hart = x; there = refl; phase_is = taking_is x.phase e })
    (λ e. later_taking at x harts (taking_from (at + 1) harts) e (taking (at + 1) harts))

module _ (program : List (List Slot)) (w : World) (h : ℕ) (i : IsInPhase w h Wait) where
  by_taking : (found : Option ℕ) → Taking 0 w.harts found → happens program w (Step h) ≡ waited w h i.hart found → AwaitsOthers program w h i.hart
  unfolding Taking
  by_taking None t e = AwaitsOthers.all_have (λ g one. t g one.hart one.here one.phase_is) e
  by_taking (Some g) t e =
      let same : t.place ≡ g = (let z : g ≡ 0 + t.place = t.hart_is in omega (arith, z)) in
      AwaitsOthers.one_takes g (record { hart = t.hart; here = subst (λ (n : ℕ). slice_get w.harts n ≡ Some t.hart) same t.there; phase_is = t.phase_is }) e

  pub waits_step : AwaitsOthers program w h i.hart
  waits_step = by_taking (taking_from 0 w.harts) (taking 0 w.harts) (by_phase program w h i.hart i.here Wait i.phase_is)

-- ---- Resume

resumed_hart : World → (h : ℕ) → Hart → Hart
resumed_hart w h hart = record hart {
  registers = resumed_registers w.log w.words h;
  pc = resume_of (durable_point w.log w.words h);
  phase = Run;
}

pub resumes_step : (program : List (List Slot)) (w : World) (h : ℕ) (i : IsInPhase w h Resume) → ResumesHart program w h i.hart
unfolding resumed_hart
resumes_step program w h i =
    let does : happens program w (Step h) ≡ moved w h (resumed_hart w h i.hart) = by_phase program w h i.hart i.here Resume i.phase_is in
    record {
      after = resumed_hart w h i.hart;
      does = does;
      runs = refl;
      pc = refl;
      count = resumed_count w.log w.words h;
      registers = refl;
      queue = refl;
      at = moved_harts_begin program w w h i.hart (resumed_hart w h i.hart) i.here does refl;
    }

-- ---- Stopped

pub stopped_stay : (program : List (List Slot)) (w : World) (h : ℕ) (phase : Phase) → (phase ≡ Done) ⊎ (phase ≡ Ended) → IsInPhase w h phase →
    happens program w (Step h) ≡ (w, Still)
stopped_stay program w h phase (inl is) i = by_phase program w h i.hart i.here Done (i.phase_is ∙ is)
stopped_stay program w h phase (inr is) i = by_phase program w h i.hart i.here Ended (i.phase_is ∙ is)
