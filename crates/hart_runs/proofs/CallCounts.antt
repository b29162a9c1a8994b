-- What is counted of a call.
use Rattle.std.proofs.Common.{◌≡◌, ℕ, List, refl, ap, ◌∙◌, cond, Bool, true, false, Option, Some, None}
use Rattle.std.specs.Prelude.{◌==◌, ◌&&◌, if◌then◌else◌}
use Rattle.machine_events.specs.declared.event.Event.TheVariants.{Step}
use Rattle.rv64_isa.specs.declared.instr.Instr.TheVariants.{Ecall}
use Rattle.rv64_isa.specs.declared.object.Slot.{Slot}
use Rattle.machine_model.specs.declared.phase.Phase.{Phase}
use Rattle.rv64_isa.specs.Rows.{Effect, Calls, row}
use Rattle.machine_model.specs.Machine.{Hart, World, reply_to}
use Rattle.machine_model.specs.Schedule.{has_moved, is_running, completing, effect_at, is_mark}
use Rattle.machine_model.specs.Schedule.{is_point_store, is_fence, passes_mark, stores_point, finishes_fence}
use Rattle.hart_runs.specs.Calls.{IsAtCall}
use Rattle.hart_runs.proofs.Worlds.{effect_is}

-- of the hart that completes an instruction, if it does
tested : (Effect → Bool) → List (List Slot) → (h : ℕ) → Option Hart → Bool
tested test program h o = elim o [
  | None ↦ false
  | Some hart ↦ elim (effect_at program h hart) [
    | None ↦ false
    | Some effect ↦ test effect
  ]
]

module _ (program : List (List Slot)) (w : World) (h number : ℕ) (a : IsAtCall program w h number) where
  completed : Bool
  completed = has_moved (reply_to program w (Step h))

  completing_is : completing program w h ≡ cond completed (Some a.hart) None
  unfolding completed
  completing_is = ap (λ (o : Option Hart). of o) a.here
      ∙ ap (λ (p : Phase). cond (is_running p && has_moved (reply_to program w (Step h))) (Some a.hart) None) a.runs
    where
      of : Option Hart → Option Hart
      of o = elim o [
        | Some hart ↦ if is_running hart.phase && has_moved (reply_to program w (Step h)) then Some hart else None
        | None ↦ None
      ]

  calls : effect_at program h a.hart ≡ Some Calls
  unfolding row
  calls = effect_is program w h a.hart a.here a.runs Ecall a.calls

  passes : (marks : List (List ℕ)) → passes_mark marks program w h ≡ (has_moved (reply_to program w (Step h)) && is_mark marks h a.hart.pc)
  unfolding completed
  passes marks = ap (λ (o : Option Hart). of o) completing_is ∙ by (has_moved (reply_to program w (Step h)))
    where
      of : Option Hart → Bool
      of o = elim o [
        | Some hart ↦ is_mark marks h hart.pc
        | None ↦ false
      ]

      by : (b : Bool) → of (cond b (Some a.hart) None) ≡ (b && is_mark marks h a.hart.pc)
      by true = refl
      by false = refl

  none : (test : Effect → Bool) → test Calls ≡ false → ((h == h) && tested test program h (completing program w h)) ≡ false
  unfolding tested completed
  none test e = ap (λ (o : Option Hart). (h == h) && tested test program h o) completing_is
      ∙ (ap (λ (b : Bool). (h == h) && b) (by (has_moved (reply_to program w (Step h)))) ∙ never (h == h))
    where
      by : (b : Bool) → tested test program h (cond b (Some a.hart) None) ≡ false
      by true = ap (λ (o : Option Effect). of o) calls ∙ e
        where
          of : Option Effect → Bool
          of o = elim o [
            | None ↦ false
            | Some effect ↦ test effect
          ]
      by false = refl

      never : (b : Bool) → (b && false) ≡ false
      never true = refl
      never false = refl

  pub calls_count : ((marks : List (List ℕ)) → passes_mark marks program w h ≡ (has_moved (reply_to program w (Step h)) && is_mark marks h a.hart.pc))
      × (stores_point program w (Step h) h ≡ false) × (finishes_fence program w (Step h) h ≡ false)
  unfolding tested
  calls_count = (passes, none (is_point_store w.log h) refl, none is_fence refl)
