-- What the sign of a code word tells of a hart that executes it.
use Rattle.std.proofs.Common.{◌≡◌, ℕ, List, slice_get, Option, Some, None}
use Rattle.std.proofs.Common.{Bool, true, false, ◌==◌, ◌&&◌, if◌then◌else◌, refl, ap, sym, ◌∙◌}
use Rattle.std.specs.List.{list_any}
use Rattle.std.proofs.lemmas.Bool.{eq-eqb}
use Rattle.log_schemes.specs.declared.log.Log.{Log}
use Rattle.machine_events.specs.declared.event.Event.TheVariants.{Step}
use Rattle.machine_events.specs.declared.event.Reply.{Reply}
use Rattle.rv64_isa.specs.declared.instr.Instr.{Instr}
use Rattle.rv64_isa.specs.declared.instr.Instr.TheVariants.{Lui, Auipc, Jal, Jalr, Branch, Load, Store, OpImmediate}
use Rattle.rv64_isa.specs.declared.instr.Instr.TheVariants.{ShiftImmediate, ShiftImmediateWord, Op, CboClean, Fence, Ecall}
use Rattle.rv64_isa.specs.declared.object.Slot.{Slot}
use Rattle.rv64_isa.specs.declared.object.Slot.TheVariants.{Row, NoRow}
use Rattle.machine_model.specs.declared.phase.Phase.{Phase}
use Rattle.machine_model.specs.declared.phase.Phase.TheVariants.{Take, Wait, Resume, Run, Done, Ended}
use Rattle.rv64_isa.specs.Rows.{Effect, row}
use Rattle.rv64_isa.specs.Programs.{fetched, code_of, code_start}
use Rattle.machine_model.specs.Machine.{Hart, World, reply_to, happens, stepped, phase_step, executed}
use Rattle.machine_model.specs.Schedule.{completes, completing, effect_at, has_moved, is_fence, is_point_store, is_running, passes_mark, is_mark}
use Rattle.hart_core.specs.LocalSteps.{placed_code}
use Rattle.ido_machine.specs.declared.signs.SignTable.{SignTable}
use Rattle.ido_machine.specs.links.SignTables.{is_fence_slot, is_plain, is_store_slot, sign_at, IsTableOf}
use Rattle.ido_machine.proofs.Public.{word_fence, word_mark, word_plain, word_store}

-- where a word of a thread's code stands
module _ (program : List (List Slot)) (h pc : ℕ) (slot : Slot) (there : fetched program h pc ≡ Some slot) (table : SignTable) (addresses : List ℕ)
    (is : IsTableOf table (code_start program h) (code_of program h) addresses) where
  pub mark_tells : (sign_at table pc).mark ≡ list_any (λ m. m == pc) addresses
  mark_tells = word_mark (placed_code program h) pc slot there table addresses is

  pub fence_tells : (sign_at table pc).fence ≡ is_fence_slot slot
  fence_tells = word_fence (placed_code program h) pc slot there table addresses is

  pub store_tells : (sign_at table pc).store ≡ is_store_slot slot
  store_tells = word_store (placed_code program h) pc slot there table addresses is

  pub plain_tells : (sign_at table pc).plain ≡ is_plain (sign_at table pc)
  plain_tells = word_plain (placed_code program h) pc slot there table addresses is

-- ---- A hart that goes on has an instruction

moved_executed : (w : World) (h : ℕ) (hart : Hart) (found : Option Slot) → has_moved (executed w h hart found).1 ≡ true → (slot : Slot) × (found ≡ Some slot)
moved_executed w h hart None e = cc
moved_executed w h hart (Some slot) e = (slot, refl)

pub moved_fetched : (program : List (List Slot)) (w : World) (h : ℕ) (hart : Hart) → slice_get w.harts h ≡ Some hart → is_running hart.phase ≡ true →
    has_moved (reply_to program w (Step h)) ≡ true → (slot : Slot) × (fetched program h hart.pc ≡ Some slot)
unfolding happens
moved_fetched program w h hart there running moves = by_phase hart.phase refl running
  where
    by_phase : (p : Phase) → hart.phase ≡ p → is_running p ≡ true → (slot : Slot) × (fetched program h hart.pc ≡ Some slot)
    by_phase Run e r =
        let is : stepped program w h (slice_get w.harts h) ≡ phase_step program w h hart Run =
        ap (stepped program w h) there ∙ ap (phase_step program w h hart) e in
        moved_executed w h hart (fetched program h hart.pc) (sym (ap (λ (o : World × Reply). has_moved o.1) is) ∙ moves)
    by_phase Take e r = cc
    by_phase Wait e r = cc
    by_phase Resume e r = cc
    by_phase Done e r = cc
    by_phase Ended e r = cc

-- ---- What a step completes

module _ (program : List (List Slot)) (w : World) (h : ℕ) (hart : Hart) (there : slice_get w.harts h ≡ Some hart) where
  completing_is : (b : Bool) → (is_running hart.phase && has_moved (reply_to program w (Step h))) ≡ b → completing program w h ≡ (if b then Some hart else None)
  completing_is b e = rw (completing, there) (ap (λ (c : Bool). if c then Some hart else None) e)

  -- no instruction, where the hart executes none or doesn't go on
  pub none_running : is_running hart.phase ≡ false → completing program w h ≡ None
  none_running idle = completing_is false (ap (λ (r : Bool). r && has_moved (reply_to program w (Step h))) idle)

  pub none_moved : has_moved (reply_to program w (Step h)) ≡ false → completing program w h ≡ None
  none_moved held = completing_is false (ap (λ (m : Bool). is_running hart.phase && m) held ∙ and_false (is_running hart.phase))
    where
      and_false : (b : Bool) → (b && false) ≡ false
      and_false true = refl
      and_false false = refl

  pub one_moved : is_running hart.phase ≡ true → has_moved (reply_to program w (Step h)) ≡ true → completing program w h ≡ Some hart
  one_moved running moves = completing_is true (ap (λ (r : Bool). r && has_moved (reply_to program w (Step h))) running ∙ moves)

-- what the instruction tells, where there is one
abbrev pub slot_tells : (test : Effect → Bool) → Hart → Option Slot → Bool
slot_tells test hart None = false
slot_tells test hart (Some (NoRow word)) = false
slot_tells test hart (Some (Row instr)) = test (row instr hart.registers hart.pc)

module _ (program : List (List Slot)) (w : World) (h : ℕ) where
  pub passes_none : (marks : List (List ℕ)) → completing program w h ≡ None → passes_mark marks program w h ≡ false
  passes_none marks none = rw (passes_mark, none) refl

  pub completes_none : (test : Effect → Bool) → completing program w h ≡ None → completes test program w (Step h) h ≡ false
  completes_none test none = rw (completes, none, eq-eqb h h refl) refl

  pub passes_one : (marks : List (List ℕ)) (hart : Hart) → completing program w h ≡ Some hart → passes_mark marks program w h ≡ is_mark marks h hart.pc
  passes_one marks hart one = rw (passes_mark, one) refl

  pub completes_one : (test : Effect → Bool) (hart : Hart) (found : Option Slot) → completing program w h ≡ Some hart → fetched program h hart.pc ≡ found →
      completes test program w (Step h) h ≡ slot_tells test hart found
  completes_one test hart None one there = rw (completes, one, eq-eqb h h refl, effect_at, there) refl
  completes_one test hart (Some (NoRow word)) one there = rw (completes, one, eq-eqb h h refl, effect_at, there) refl
  completes_one test hart (Some (Row instr)) one there = rw (completes, one, eq-eqb h h refl, effect_at, there) refl

-- ---- Fences

instr_tells : (instr : Instr) (registers : List ℕ) (pc : ℕ) → is_fence (row instr registers pc) ≡ is_fence_slot (Row instr)
unfolding row
instr_tells (Lui rd immediate) registers pc = refl
instr_tells (Auipc rd immediate) registers pc = refl
instr_tells (Jal rd offset) registers pc = refl
instr_tells (Jalr rd rs1 offset) registers pc = refl
instr_tells (Branch condition rs1 rs2 offset) registers pc = refl
instr_tells (Load kind rd rs1 offset) registers pc = refl
instr_tells (Store kind rs2 rs1 offset) registers pc = refl
instr_tells (OpImmediate operation rd rs1 immediate) registers pc = refl
instr_tells (ShiftImmediate operation rd rs1 count) registers pc = refl
instr_tells (ShiftImmediateWord operation rd rs1 count) registers pc = refl
instr_tells (Op operation rd rs1 rs2) registers pc = refl
instr_tells (CboClean rs1) registers pc = refl
instr_tells Fence registers pc = refl
instr_tells Ecall registers pc = refl

pub fence_is : (hart : Hart) (slot : Slot) → slot_tells is_fence hart (Some slot) ≡ is_fence_slot slot
fence_is hart (Row instr) = instr_tells instr hart.registers hart.pc
fence_is hart (NoRow word) = refl

-- ---- Stores

unstoring : (log : Log) (h : ℕ) (instr : Instr) (registers : List ℕ) (pc : ℕ) → is_store_slot (Row instr) ≡ false →
    is_point_store log h (row instr registers pc) ≡ false
unfolding row
unstoring log h (Lui rd immediate) registers pc e = refl
unstoring log h (Auipc rd immediate) registers pc e = refl
unstoring log h (Jal rd offset) registers pc e = refl
unstoring log h (Jalr rd rs1 offset) registers pc e = refl
unstoring log h (Branch condition rs1 rs2 offset) registers pc e = refl
unstoring log h (Load kind rd rs1 offset) registers pc e = refl
unstoring log h (Store kind rs2 rs1 offset) registers pc e = cc
unstoring log h (OpImmediate operation rd rs1 immediate) registers pc e = refl
unstoring log h (ShiftImmediate operation rd rs1 count) registers pc e = refl
unstoring log h (ShiftImmediateWord operation rd rs1 count) registers pc e = refl
unstoring log h (Op operation rd rs1 rs2) registers pc e = refl
unstoring log h (CboClean rs1) registers pc e = refl
unstoring log h Fence registers pc e = refl
unstoring log h Ecall registers pc e = refl

-- what doesn't store stores no point
pub stores_none : (log : Log) (h : ℕ) (hart : Hart) (slot : Slot) → is_store_slot slot ≡ false → slot_tells (is_point_store log h) hart (Some slot) ≡ false
stores_none log h hart (Row instr) e = unstoring log h instr hart.registers hart.pc e
stores_none log h hart (NoRow word) e = refl
