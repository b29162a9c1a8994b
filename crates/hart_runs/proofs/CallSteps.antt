-- What a call does.
use Rattle.std.proofs.Common.{◌≡◌, ℕ, zero, suc, ◌+◌, List, [], ◌∷◌, refl, ap, arith, ◌∙◌, set, set-set, cond, Bool, true, false, Option, Some, None}
use Rattle.std.specs.Prelude.{slice_get, not, is_none, ◌==◌, ◌&&◌}
use Rattle.std.proofs.lemmas.Bool.{cond_both}
use Rattle.machine_events.specs.declared.event.Event.TheVariants.{Step}
use Rattle.machine_events.specs.declared.event.Reply.TheVariants.{Waits}
use Rattle.ido_base.specs.Locks.{is_held_by, held_from, least_held, holds_none}
use Rattle.rv64_isa.specs.declared.instr.Instr.TheVariants.{Ecall}
use Rattle.rv64_isa.specs.declared.object.Slot.{Slot}
use Rattle.machine_model.specs.declared.phase.Phase.{Phase}
use Rattle.machine_model.specs.declared.phase.Phase.TheVariants.{Run, Done, Ended}
use Rattle.rv64_isa.specs.Rows.{row}
use Rattle.machine_model.specs.Machine.{Hart, World, Outcome, moved, with_hart, with_holder, gone_on, called}
use Rattle.machine_model.specs.Machine.{acquired, released, ended, applied, over_after, done_if_over, happens}
use Rattle.machine_model.proofs.Public.{get-set_same}
use Rattle.hart_runs.specs.Calls.{IsAtCall, lock_asked, phase_after}
use Rattle.hart_runs.proofs.Worlds.{none_some, some_same, if_true, not_over, done_not_over, runs_by}

same_number : (h : ℕ) → (h == h) ≡ true
same_number h = grind arith

-- ---- Who holds something

-- a hart that is given a lock holds one
held_when_set : (at : ℕ) (holders : List (Option ℕ)) (lock h : ℕ) (old : Option ℕ) → slice_get holders lock ≡ Some old →
    is_none (held_from at (set holders lock (Some h)) h) ≡ false
held_when_set at [] lock h old e = absurd (none_some old e)
held_when_set at (o ∷ os) zero h old e = ap (λ (b : Bool). is_none (cond b (Some at) (held_from (at + 1) os h))) (same_number h)
held_when_set at (o ∷ os) (suc lock) h old e =
    cond_both (is_held_by h o) (Some at) (held_from (at + 1) (set os lock (Some h)) h) (λ (x : Option ℕ). is_none x ≡ false) (λ _. refl)
    (λ _. held_when_set (at + 1) os lock h old e)

-- a hart that has a lock already holds one
held_when_there : (at : ℕ) (holders : List (Option ℕ)) (lock h : ℕ) → slice_get holders lock ≡ Some (Some h) → is_none (held_from at holders h) ≡ false
held_when_there at [] lock h e = absurd (none_some (Some h) e)
held_when_there at (o ∷ os) zero h e =
    let same : o ≡ Some h = some_same o (Some h) e in
    let held : is_held_by h o ≡ true = ap (λ (x : Option ℕ). is_held_by h x) same ∙ same_number h in
    ap (λ (b : Bool). is_none (cond b (Some at) (held_from (at + 1) os h))) held
held_when_there at (o ∷ os) (suc lock) h e =
    cond_both (is_held_by h o) (Some at) (held_from (at + 1) os h) (λ (x : Option ℕ). is_none x ≡ false) (λ _. refl) (λ _. held_when_there (at + 1) os lock h e)

never : (a b : Bool) → (a && (b && false)) ≡ false
never true true = refl
never true false = refl
never false true = refl
never false false = refl

-- a hart that holds something is not done
holding_not_over : (w v : World) (h : ℕ) → holds_none v.holders h ≡ false → over_after w v h ≡ false
holding_not_over w v h e = ap (λ (b : Bool). w.recovering && (not (holds_none w.holders h) && b)) e ∙ never w.recovering (not (holds_none w.holders h))

-- ---- The step at a call

module _ (program : List (List Slot)) (w : World) (h number : ℕ) (a : IsAtCall program w h number) where
  abbrev lock : ℕ
  lock = lock_asked a.hart

  -- the outcome before it is seen whether the hart is done
  outcome_is : (o : Outcome) → called w h a.hart number lock ≡ o → applied w h a.hart (row Ecall a.hart.registers a.hart.pc) ≡ o
  unfolding row
  outcome_is o e = ap (λ (n : ℕ). called w h a.hart n lock) a.asks ∙ e

  ends_as : (o : Outcome) → called w h a.hart number lock ≡ o → happens program w (Step h) ≡ (done_if_over w h (slice_get o.0.harts h) o.0, o.1)
  ends_as o e = runs_by program w h a.hart a.here a.runs Ecall a.calls
      ∙ ap (λ (x : Outcome). (done_if_over w h (slice_get x.0.harts h) x.0, x.1)) (outcome_is o e)

  -- no hart is done by it
  goes_as : (o : Outcome) → called w h a.hart number lock ≡ o → over_after w o.0 h ≡ false → happens program w (Step h) ≡ o
  goes_as o e none = ends_as o e ∙ ap (λ (v : World). (v, o.1)) (done_not_over w o.0 h (slice_get o.0.harts h) none)

pub acquires_take : (program : List (List Slot)) (w : World) (h : ℕ) (a : IsAtCall program w h 1) → slice_get w.holders (lock_asked a.hart) ≡ Some None →
    happens program w (Step h) ≡ moved (with_holder w (lock_asked a.hart) (Some h)) h (gone_on a.hart)
acquires_take program w h a free =
    let o : Outcome = moved (with_holder w (lock_asked a.hart) (Some h)) h (gone_on a.hart) in
    goes_as program w h 1 a o (ap (λ (x : Option (Option ℕ)). acquired w h a.hart (lock_asked a.hart) x) free)
    (holding_not_over w o.0 h (held_when_set 0 w.holders (lock_asked a.hart) h None free))

pub acquires_wait : (program : List (List Slot)) (w : World) (h holder : ℕ) (a : IsAtCall program w h 1) →
    slice_get w.holders (lock_asked a.hart) ≡ Some (Some holder) →
    happens program w (Step h) ≡ (w, Waits (lock_asked a.hart) holder)
acquires_wait program w h holder a held =
    goes_as program w h 1 a (w, Waits (lock_asked a.hart) holder) (ap (λ (x : Option (Option ℕ)). acquired w h a.hart (lock_asked a.hart) x) held)
    (not_over w w h refl)

pub ends_end : (program : List (List Slot)) (w : World) (h : ℕ) (a : IsAtCall program w h 3) → least_held w.holders h ≡ None →
    happens program w (Step h) ≡ moved w h (record (gone_on a.hart) { phase = Ended })
ends_end program w h a none =
    let o : Outcome = moved w h (record (gone_on a.hart) { phase = Ended }) in
    goes_as program w h 3 a o (ap (λ (x : Option ℕ). ended w h a.hart x) none) (not_over w o.0 h refl)

-- ---- A release

phase_by : (v : World) (h : ℕ) (x : Hart) → x.phase ≡ Run → (b : Bool) →
    cond b (with_hart (with_hart v h x) h (record x { phase = Done })) (with_hart v h x) ≡ with_hart v h (record x { phase = cond b Done Run })
phase_by v h x runs true = ap (λ (harts : List Hart). record v { harts = harts }) (set-set v.harts h x (record x { phase = Done }))
phase_by v h x runs false = ap (λ (p : Phase). with_hart v h (record x { phase = p })) runs

-- what a release in recovery depends on is whether the hart holds something after it
over_by : (w v : World) (h : ℕ) → holds_none w.holders h ≡ false → over_after w v h ≡ (w.recovering && holds_none v.holders h)
over_by w v h e = ap (λ (b : Bool). w.recovering && (not b && holds_none v.holders h)) e

pub releases_give : (program : List (List Slot)) (w : World) (h : ℕ) (a : IsAtCall program w h 2) → slice_get w.holders (lock_asked a.hart) ≡ Some (Some h) →
    happens program w (Step h) ≡
    moved (with_holder w (lock_asked a.hart) None) h (record (gone_on a.hart) { phase = phase_after w h (set w.holders (lock_asked a.hart) None) })
releases_give program w h a held =
    let v : World = with_holder w (lock_asked a.hart) None in
    let x : Hart = gone_on a.hart in
    let o : Outcome = moved v h x in
    let does : called w h a.hart 2 (lock_asked a.hart) ≡ o =
    ap (λ (y : Option (Option ℕ)). released w h a.hart (lock_asked a.hart) y) held ∙ if_true (is_held_by h (Some h)) o _ (same_number h) in
    let over : over_after w o.0 h ≡ (w.recovering && holds_none v.holders h) = over_by w o.0 h (held_when_there 0 w.holders (lock_asked a.hart) h held) in
    let there : slice_get o.0.harts h ≡ Some x = get-set_same w.harts h x a.hart a.here in
    let done : done_if_over w h (slice_get o.0.harts h) o.0 ≡ with_hart v h (record x { phase = phase_after w h v.holders }) =
    ap (λ (y : Option Hart). done_if_over w h y o.0) there
    ∙ (ap (λ (b : Bool). cond b (with_hart o.0 h (record x { phase = Done })) o.0) over ∙ phase_by v h x a.runs (w.recovering && holds_none v.holders h)) in
    ends_as program w h 2 a o does ∙ ap (λ (y : World). (y, o.1)) done
