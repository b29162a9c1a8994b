-- Lists of harts and locks, and when a step of a hart that executes instructions ends nothing.
use Rattle.std.proofs.Common.{◌≡◌, ℕ, List, refl, ap, sym, ◌∙◌, subst, cond, Bool, true, false, Option, Some, None}
use Rattle.std.specs.Prelude.{slice_get, not, ◌&&◌}
use Rattle.machine_events.specs.declared.event.Event.TheVariants.{Step}
use Rattle.machine_events.specs.declared.event.Reply.TheVariants.{Waits}
use Rattle.ido_base.specs.Locks.{holds_none}
use Rattle.rv64_isa.specs.declared.instr.Instr.{Instr}
use Rattle.rv64_isa.specs.declared.object.Slot.{Slot}
use Rattle.rv64_isa.specs.declared.object.Slot.TheVariants.{Row, NoRow}
use Rattle.machine_model.specs.declared.phase.Phase.{Phase}
use Rattle.machine_model.specs.declared.phase.Phase.TheVariants.{Run, Done}
use Rattle.rv64_isa.specs.Programs.{fetched}
use Rattle.rv64_isa.specs.Rows.{Effect, row}
use Rattle.machine_model.specs.Machine.{Hart, World, Outcome, moved, with_hart, with_holder, happens, stepped}
use Rattle.machine_model.specs.Machine.{phase_step, hart_step, applied, executed, over_after, done_if_over}
use Rattle.machine_model.specs.Schedule.{effect_at}
use Rattle.hart_runs.specs.HartsOnRuns.{instr_of, instr_at}

pub is_some : {A : Type 0} → Option A → Type 0
is_some None = ⊥
is_some (Some x) = Unit {0}

pub none_some : {A : Type 0} (x : A) → None ≡ Some x → ⊥
unfolding is_some
none_some x e = subst (λ o. is_some o) (sym e) tt

-- what is there twice is one
pub same_there : {A : Type 0} (o : Option A) (x y : A) → o ≡ Some x → o ≡ Some y → x ≡ y
same_there {A = A} o x y e f = ap (λ (z : Option A). z_of z) (sym e ∙ f)
  where
    z_of : Option A → A
    z_of None = x
    z_of (Some z) = z

pub some_same : {A : Type 0} (x y : A) → Some x ≡ Some y → x ≡ y
some_same {A = A} x y e = same_there (Some x) x y refl e

-- what a choice takes
pub if_true : {A : Type 0} (b : Bool) (x y : A) → b ≡ true → cond b x y ≡ x
if_true {A = A} b x y e = ap (λ (t : Bool). cond t x y) e

pub if_false : {A : Type 0} (b : Bool) (x y : A) → b ≡ false → cond b x y ≡ y
if_false {A = A} b x y e = ap (λ (t : Bool). cond t x y) e

-- ---- What a hart fetches

pub instr_of_is : (o : Option Slot) (instr : Instr) → instr_of o ≡ Some instr → o ≡ Some (Row instr)
instr_of_is None instr e = absurd (none_some instr e)
instr_of_is (Some (NoRow word)) instr e = absurd (none_some instr e)
instr_of_is (Some (Row i)) instr e = ap (λ (j : Instr). Some (Row j)) (same_there (Some i) i instr refl e)

pub fetched_is : (program : List (List Slot)) (h pc : ℕ) (instr : Instr) → instr_at program h pc ≡ Some instr → fetched program h pc ≡ Some (Row instr)
fetched_is program h pc instr e = instr_of_is (fetched program h pc) instr e

-- ---- A step of a hart that takes locks

-- by the holder of the lock that it takes next
abbrev pub took : World → (h : ℕ) → Hart → (lock : ℕ) → Option (Option ℕ) → Outcome
took w h hart lock x = elim x [
  | Some (Some holder) ↦ (w, Waits lock holder)
  | _ ↦ moved (with_holder w lock (Some h)) h hart
]

-- ---- A step of a hart in the phase Run

never_over : (a b : Bool) → (a && (not b && b)) ≡ false
never_over true true = refl
never_over true false = refl
never_over false true = refl
never_over false false = refl

-- a step that leaves the locks makes no hart done
pub not_over : (w v : World) (h : ℕ) → v.holders ≡ w.holders → over_after w v h ≡ false
not_over w v h same =
    ap (λ (holders : List (Option ℕ)). w.recovering && (not (holds_none w.holders h) && holds_none holders h)) same
    ∙ never_over w.recovering (holds_none w.holders h)

pub done_not_over : (w v : World) (h : ℕ) (o : Option Hart) → over_after w v h ≡ false → done_if_over w h o v ≡ v
done_not_over w v h None e = refl
done_not_over w v h (Some hart) e = if_false (over_after w v h) (with_hart v h (record hart { phase = Done })) v e

module _ (program : List (List Slot)) (w : World) (h : ℕ) (hart : Hart) (here : slice_get w.harts h ≡ Some hart) where
  pub by_phase : (phase : Phase) → hart.phase ≡ phase → happens program w (Step h) ≡ phase_step program w h hart phase
  unfolding happens
  by_phase phase is = ap (λ (o : Option Hart). stepped program w h o) here ∙ ap (λ (p : Phase). phase_step program w h hart p) is

  -- the step of a hart that executes instructions, as the row of its instruction says
  module _ (runs : hart.phase ≡ Run) (instr : Instr) (stands : instr_at program h hart.pc ≡ Some instr) where
    pub executes : hart_step program w h hart ≡ applied w h hart (row instr hart.registers hart.pc)
    executes = ap (λ (o : Option Slot). executed w h hart o) (fetched_is program h hart.pc instr stands)

    pub runs_by : happens program w (Step h) ≡ (
      done_if_over w h (slice_get (applied w h hart (row instr hart.registers hart.pc)).0.harts h) (applied w h hart (row instr hart.registers hart.pc)).0,
      (applied w h hart (row instr hart.registers hart.pc)).1,
    )
    runs_by = by_phase Run runs ∙ ap (λ (o : Outcome). (done_if_over w h (slice_get o.0.harts h) o.0, o.1)) executes

    -- where no hart is done by it
    pub runs_as : over_after w (applied w h hart (row instr hart.registers hart.pc)).0 h ≡ false →
        happens program w (Step h) ≡ applied w h hart (row instr hart.registers hart.pc)
    runs_as none = runs_by ∙ ap (λ (v : World). (v, (applied w h hart (row instr hart.registers hart.pc)).1)) (done_not_over w _ h _ none)

    pub effect_is : effect_at program h hart ≡ Some (row instr hart.registers hart.pc)
    effect_is = ap (λ (o : Option Slot). effect_in o) (fetched_is program h hart.pc instr stands)
      where
        effect_in : Option Slot → Option Effect
        effect_in o = elim o [
          | Some (Row i) ↦ Some (row i hart.registers hart.pc)
          | _ ↦ None
        ]
