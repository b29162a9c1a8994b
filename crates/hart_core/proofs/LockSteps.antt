-- Steps that ask for locks, and how a step begins.
use Rattle.std.proofs.Common.{◌≡◌, ◌≢◌, not, eqb, ℕ, zero, suc, ◌≤◌, List, [], ◌∷◌, length, slice_get, slice_set}
use Rattle.std.proofs.Common.{Option, Some, None, true, false, ◌==◌, refl, sym, ◌∙◌, ap, subst, arith}
use Rattle.std.specs.Option.{option_eq}
use Rattle.std.proofs.lemmas.Bool.Decides.{nat_tests}
use Rattle.machine_events.specs.declared.event.Reply.{Reply}
use Rattle.machine_events.specs.declared.event.Reply.TheVariants.{Moved, Waits, Stuck}
use Rattle.machine_events.specs.declared.event.Cause.TheVariants.{Illegal, NoCode, NoLock, NotHeld, EndHolding, NoCall}
use Rattle.ido_base.specs.Locks.{is_held_by, least_held}
use Rattle.line_memory.specs.declared.memory.LineMemory.{LineMemory}
use Rattle.rv64_isa.specs.declared.instr.Instr.{Instr}
use Rattle.rv64_isa.specs.declared.object.Slot.{Slot}
use Rattle.rv64_isa.specs.declared.object.Slot.TheVariants.{Row, NoRow}
use Rattle.machine_model.specs.declared.phase.Phase.{Phase}
use Rattle.machine_model.specs.declared.phase.Phase.TheVariants.{Ended}
use Rattle.rv64_isa.specs.Rows.{Effect, Calls, next, read, row}
use Rattle.rv64_isa.specs.Programs.{fetched}
use Rattle.machine_model.specs.Machine.{Hart as HartModel, World, Outcome, applied, called, acquired, released, ended, executed, hart_step, stuck, moved, gone_on}
use Rattle.hart_core.specs.declared.hart.Hart.{Hart}
use Rattle.hart_core.specs.StepsOnParts.{Parts, PartsStand, PartsEnd, IsStep}
use Rattle.hart_core.proofs.StepOutcomes.{same_end, changed_end}

-- nothing stands past the end of a list
pub get_past : {X : Type 0} (xs : List X) (n : ℕ) → length xs ≤ n → slice_get xs n ≡ None
get_past [] n past = refl
get_past (x ∷ xs) zero past = absurd (omega arith)
get_past (x ∷ xs) (suc n) past = get_past xs n (omega arith)

-- an outcome that goes by what the locks have at a place
by_holder : (number lock : ℕ) (outcome : World → HartModel → Option (Option ℕ) → Outcome) (before after : Parts) (reply : Reply) (found : Option (Option ℕ)) →
    slice_get before.locks lock ≡ found →
    ((w : World) (model : HartModel) → PartsStand before number w model → PartsEnd after reply number w (outcome w model found)) →
    IsStep (λ w model. outcome w model (slice_get w.holders lock)) number before after reply
by_holder number lock outcome before after reply found is step = record {
  each =
      λ w model s. subst (λ (o : Option (Option ℕ)). PartsEnd after reply number w (outcome w model o))
      (sym (ap (λ (holders : List (Option ℕ)). slice_get holders lock) s.holders ∙ is)) (step w model s);
}

-- the hart goes on, and the holders are others
gone_end : (number : ℕ) (phase phase' : Phase) (hart : Hart) (memory : LineMemory) (locks locks' holders : List (Option ℕ)) (w : World) (model : HartModel) →
    holders ≡ locks' → PartsStand (record { phase = phase; hart = hart; memory = memory; locks = locks }) number w model →
    PartsEnd (record { phase = phase'; hart = record hart { pc = next hart.pc }; memory = memory; locks = locks' }) Moved number w
    (moved (record w { holders = holders }) number (record (gone_on model) { phase = phase' }))
gone_end number phase phase' hart memory locks locks' holders w model same s =
    let before : Parts = record { phase = phase; hart = hart; memory = memory; locks = locks } in
    let after : Parts = record { phase = phase'; hart = record hart { pc = next hart.pc }; memory = memory; locks = locks' } in
    changed_end before after Moved number w model (record (gone_on model) { phase = phase' }) w.words holders s s.words refl same refl
    (record { registers = s.hart.registers; pc = ap next s.hart.pc; queue = s.hart.queue }) (λ any entries q. q)

pub acquire_no_lock : (number lock : ℕ) (parts : Parts) → length parts.locks ≤ lock →
    IsStep (λ w model. acquired w number model lock (slice_get w.holders lock)) number parts parts (Stuck (NoLock lock))
acquire_no_lock number lock parts past =
    by_holder number lock (λ w model found. acquired w number model lock found) parts parts (Stuck (NoLock lock)) None (get_past parts.locks lock past)
    (λ w model s. same_end parts (Stuck (NoLock lock)) number w model s)

pub acquire_waits : (number lock holder : ℕ) (parts : Parts) → slice_get parts.locks lock ≡ Some (Some holder) →
    IsStep (λ w model. acquired w number model lock (slice_get w.holders lock)) number parts parts (Waits lock holder)
acquire_waits number lock holder parts held =
    by_holder number lock (λ w model found. acquired w number model lock found) parts parts (Waits lock holder) (Some (Some holder)) held
    (λ w model s. same_end parts (Waits lock holder) number w model s)

going : (number : ℕ) (phase : Phase) (hart : Hart) (memory : LineMemory) (locks locks' : List (Option ℕ)) (lock : ℕ) (holder : Option ℕ) →
    locks' ≡ slice_set locks lock holder → (w : World) (model : HartModel) →
    PartsStand (record { phase = phase; hart = hart; memory = memory; locks = locks }) number w model →
    PartsEnd (record { phase = phase; hart = record hart { pc = next hart.pc }; memory = memory; locks = locks' }) Moved number w
    (moved (record w { holders = slice_set w.holders lock holder }) number (gone_on model))
going number phase hart memory locks locks' lock holder is w model s =
    subst (λ (p : Phase). PartsEnd (record { phase = p; hart = record hart { pc = next hart.pc }; memory = memory; locks = locks' }) Moved number w
    (moved (record w { holders = slice_set w.holders lock holder }) number (gone_on model))) s.phase
    (gone_end number phase model.phase hart memory locks locks' (slice_set w.holders lock holder) w model
    (ap (λ (holders : List (Option ℕ)). slice_set holders lock holder) s.holders ∙ sym is) s)

pub acquire_takes : (number lock : ℕ) (phase : Phase) (hart : Hart) (memory : LineMemory) (locks locks' : List (Option ℕ)) → slice_get locks lock ≡ Some None →
    locks' ≡ slice_set locks lock (Some number) →
    IsStep (λ w model. acquired w number model lock (slice_get w.holders lock)) number (record { phase = phase; hart = hart; memory = memory; locks = locks })
    (record { phase = phase; hart = record hart { pc = next hart.pc }; memory = memory; locks = locks' }) Moved
acquire_takes number lock phase hart memory locks locks' free taken =
    by_holder number lock (λ w model found. acquired w number model lock found) _ _ Moved (Some None) free
    (λ w model s. going number phase hart memory locks locks' lock (Some number) taken w model s)

pub release_no_lock : (number lock : ℕ) (parts : Parts) → length parts.locks ≤ lock →
    IsStep (λ w model. released w number model lock (slice_get w.holders lock)) number parts parts (Stuck (NoLock lock))
release_no_lock number lock parts past =
    by_holder number lock (λ w model found. released w number model lock found) parts parts (Stuck (NoLock lock)) None (get_past parts.locks lock past)
    (λ w model s. same_end parts (Stuck (NoLock lock)) number w model s)

-- the test of who holds the lock
pub other_holder : (number : ℕ) (holder : Option ℕ) → not (option_eq eqb holder (Some number)) ≡ true → is_held_by number holder ≡ false
other_holder number None e = refl
other_holder number (Some h) e = grind (arith, nat_tests)

pub own_holder : (number : ℕ) (holder : Option ℕ) → not (option_eq eqb holder (Some number)) ≡ false → is_held_by number holder ≡ true
own_holder number None e = cc
own_holder number (Some h) e = grind (arith, nat_tests)

pub release_not_held : (number lock : ℕ) (holder : Option ℕ) (parts : Parts) → slice_get parts.locks lock ≡ Some holder → is_held_by number holder ≡ false →
    IsStep (λ w model. released w number model lock (slice_get w.holders lock)) number parts parts (Stuck (NotHeld lock))
release_not_held number lock holder parts held other =
    by_holder number lock (λ w model found. released w number model lock found) parts parts (Stuck (NotHeld lock)) (Some holder) held
    (λ w model s. rw other (same_end parts (Stuck (NotHeld lock)) number w model s))

pub release_gives : (number lock : ℕ) (holder : Option ℕ) (phase : Phase) (hart : Hart) (memory : LineMemory) (locks locks' : List (Option ℕ)) →
    slice_get locks lock ≡ Some holder → is_held_by number holder ≡ true → locks' ≡ slice_set locks lock None →
    IsStep (λ w model. released w number model lock (slice_get w.holders lock)) number (record { phase = phase; hart = hart; memory = memory; locks = locks })
    (record { phase = phase; hart = record hart { pc = next hart.pc }; memory = memory; locks = locks' }) Moved
release_gives number lock holder phase hart memory locks locks' held own given =
    by_holder number lock (λ w model found. released w number model lock found) _ _ Moved (Some holder) held
    (λ w model s. rw own (going number phase hart memory locks locks' lock None given w model s))

-- a hart that holds nothing ends
pub end_step : (number : ℕ) (phase : Phase) (hart : Hart) (memory : LineMemory) (locks : List (Option ℕ)) → least_held locks number ≡ None →
    IsStep (λ w model. ended w number model (least_held w.holders number)) number (record { phase = phase; hart = hart; memory = memory; locks = locks })
    (record { phase = Ended; hart = record hart { pc = next hart.pc }; memory = memory; locks = locks }) Moved
end_step number phase hart memory locks none = record {
  each =
      λ w model s. subst (λ (o : Option ℕ).
      PartsEnd (record { phase = Ended; hart = record hart { pc = next hart.pc }; memory = memory; locks = locks }) Moved number w (ended w number model o))
      (sym (ap (λ (holders : List (Option ℕ)). least_held holders number) s.holders ∙ none))
      (gone_end number phase Ended hart memory locks locks w.holders w model s.holders s);
}

pub end_holding : (number lock : ℕ) (parts : Parts) → least_held parts.locks number ≡ Some lock →
    IsStep (λ w model. ended w number model (least_held w.holders number)) number parts parts (Stuck (EndHolding lock))
end_holding number lock parts held = record {
  each =
      λ w model s. subst (λ (o : Option ℕ). PartsEnd parts (Stuck (EndHolding lock)) number w (ended w number model o))
      (sym (ap (λ (holders : List (Option ℕ)). least_held holders number) s.holders ∙ held)) (same_end parts (Stuck (EndHolding lock)) number w model s);
}

-- what is asked by ECALL is read from the hart's registers
pub call_step : (number asked : ℕ) (before after : Parts) (reply : Reply) → read before.hart.registers 17 ≡ asked →
    IsStep (λ w model. called w number model asked (read before.hart.registers 10)) number before after reply →
    IsStep (λ w model. applied w number model Calls) number before after reply
call_step number asked before after reply is step = record {
  each =
      λ w model s. subst (λ (n : ℕ). PartsEnd after reply number w (called w number model n (read model.registers 10)))
      (sym (ap (λ (x : List ℕ). read x 17) s.hart.registers ∙ is))
      (subst (λ (n : ℕ). PartsEnd after reply number w (called w number model asked n)) (sym (ap (λ (x : List ℕ). read x 10) s.hart.registers))
      (step.each w model s));
}

-- nothing else is asked for
pub no_call_step : (number asked : ℕ) (parts : Parts) → read parts.hart.registers 17 ≡ asked → asked ≢ 1 → asked ≢ 2 → asked ≢ 3 →
    IsStep (λ w model. applied w number model Calls) number parts parts (Stuck (NoCall asked))
no_call_step number asked parts is one two three = call_step number asked parts parts (Stuck (NoCall asked)) is (record {
  each = λ w model s.
      let a : (asked == 1) ≡ false = is_not asked 1 one in
      let b : (asked == 2) ≡ false = is_not asked 2 two in
      let c : (asked == 3) ≡ false = is_not asked 3 three in
      rw (a, b, c) (same_end parts (Stuck (NoCall asked)) number w model s);
})
  where
    is_not : (a b : ℕ) → (a ≡ b → ⊥) → (a == b) ≡ false
    is_not a b ne = grind (arith, nat_tests)

-- a step begins with what stands at the pc
pub begun_step : (program : List (List Slot)) (number : ℕ) (found : Option Slot) (before after : Parts) (reply : Reply) →
    found ≡ fetched program number before.hart.pc → IsStep (λ w model. executed w number model found) number before after reply →
    IsStep (λ w model. hart_step program w number model) number before after reply
begun_step program number found before after reply is step = record {
  each =
      λ w model s. subst (λ (o : Option Slot). PartsEnd after reply number w (executed w number model o))
      (is ∙ ap (λ (pc : ℕ). fetched program number pc) (sym s.hart.pc)) (step.each w model s);
}

pub no_code_step : (program : List (List Slot)) (number : ℕ) (parts : Parts) → None ≡ fetched program number parts.hart.pc →
    IsStep (λ w model. hart_step program w number model) number parts parts (Stuck (NoCode parts.hart.pc))
no_code_step program number parts is = begun_step program number None parts parts (Stuck (NoCode parts.hart.pc)) is (record {
  each =
      λ w model s. subst (λ (pc : ℕ). PartsEnd parts (Stuck (NoCode parts.hart.pc)) number w (stuck w (NoCode pc))) (sym s.hart.pc)
      (same_end parts (Stuck (NoCode parts.hart.pc)) number w model s);
})

pub illegal_step : (program : List (List Slot)) (number word : ℕ) (parts : Parts) → Some (NoRow word) ≡ fetched program number parts.hart.pc →
    IsStep (λ w model. hart_step program w number model) number parts parts (Stuck (Illegal word))
illegal_step program number word parts is = begun_step program number (Some (NoRow word)) parts parts (Stuck (Illegal word)) is (record {
  each = λ w model s. same_end parts (Stuck (Illegal word)) number w model s;
})

-- an instruction does what its row says
pub row_step : (program : List (List Slot)) (number : ℕ) (instr : Instr) (meaning : Effect) (before after : Parts) (reply : Reply) →
    Some (Row instr) ≡ fetched program number before.hart.pc → meaning ≡ row instr before.hart.registers before.hart.pc →
    IsStep (λ w model. applied w number model meaning) number before after reply →
    IsStep (λ w model. hart_step program w number model) number before after reply
row_step program number instr meaning before after reply is does step = begun_step program number (Some (Row instr)) before after reply is (record {
  each =
      λ w model s. subst (λ (e : Effect). PartsEnd after reply number w (applied w number model e))
      (does ∙ ap (λ (x : List ℕ). row instr x before.hart.pc) (sym s.hart.registers) ∙ ap (λ (pc : ℕ). row instr model.registers pc) (sym s.hart.pc))
      (step.each w model s);
})
