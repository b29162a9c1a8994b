-- Which steps of a hart that executes instructions are replied to as those of one that waits.
use Rattle.std.proofs.Common.{◌≡◌, ℕ, ◌/◌, List, [], ◌∷◌, ◌++◌, slice_get, Option, Some, None, Bool}
use Rattle.std.proofs.Common.{true, false, ◌==◌, ◌&&◌, if◌then◌else◌, refl, ◌∙◌, nat_lt, length}
use Rattle.machine_events.specs.declared.event.Cause.TheVariants.{Outside, Unaligned, NoCall}
use Rattle.machine_events.specs.Cores.{is_idle}
use Rattle.ido_base.specs.Words.{Entry, entry_of, loaded, stored}
use Rattle.ido_base.specs.Locks.{is_held_by, least_held}
use Rattle.ido_base.specs.Layout.{aligned, byte_number, line_bytes}
use Rattle.log_schemes.specs.Layout.{in_range}
use Rattle.rv64_isa.specs.declared.instr.Instr.{Instr}
use Rattle.rv64_isa.specs.declared.instr.Instr.TheVariants.{Lui, Auipc, Jal, Jalr, Branch, Load, Store, OpImmediate}
use Rattle.rv64_isa.specs.declared.instr.Instr.TheVariants.{ShiftImmediate, ShiftImmediateWord, Op, CboClean, Fence, Ecall}
use Rattle.rv64_isa.specs.declared.object.Slot.{Slot}
use Rattle.rv64_isa.specs.declared.object.Slot.TheVariants.{Row, NoRow}
use Rattle.rv64_isa.specs.Rows.{Effect, Continues, Loads, Stores, Cleans, Fences, Calls, read, row, written, load_result}
use Rattle.rv64_isa.specs.Programs.{fetched}
use Rattle.machine_model.specs.Machine.{Hart, World, Outcome, access, acquired, released, ended, called, cleaned, fenced}
use Rattle.machine_model.specs.Machine.{drain_one, moved, gone_on, stuck, applied, executed, hart_step, queue_limit}
use Rattle.hart_core.specs.links.Waits.{is_held, asks_held, waits_at, would_wait}

-- a choice of two outcomes that aren't idle
one_of : (test : Bool) (a b : Outcome) → is_idle a.1 ≡ false → is_idle b.1 ≡ false → is_idle ((if test then a else b).1) ≡ false
one_of true a b first second = first
one_of false a b first second = second

access-moves : (w : World) (address bytes : ℕ) (outcome : Outcome) → is_idle outcome.1 ≡ false → is_idle (access w address bytes outcome).1 ≡ false
access-moves w address bytes outcome moves =
    one_of (in_range w.log (length w.harts) address bytes) (if aligned address bytes then outcome else stuck w (Unaligned address)) (stuck w (Outside address))
    (one_of (aligned address bytes) outcome (stuck w (Unaligned address)) moves refl) refl

drain-moves : (w : World) (h : ℕ) (hart : Hart) (entries : List Entry) → is_idle (drain_one w h hart entries).1 ≡ false
drain-moves w h hart [] = refl
drain-moves w h hart (e ∷ es) = refl

fence-moves : (w : World) (h : ℕ) (hart : Hart) (entries : List Entry) → is_idle (fenced w h hart entries).1 ≡ false
fence-moves w h hart [] = refl
fence-moves w h hart (e ∷ es) = refl

clean-moves : (w : World) (h : ℕ) (hart : Hart) (line : ℕ) → is_idle (cleaned w h hart line).1 ≡ false
clean-moves w h hart line =
    one_of (nat_lt (length hart.queue) queue_limit) (moved w h (record (gone_on hart) { queue = hart.queue ++ entry_of w.words line ∷ [] }))
    (drain_one w h hart hart.queue) refl (drain-moves w h hart hart.queue)

acquire-waits : (w : World) (h : ℕ) (hart : Hart) (lock : ℕ) (found : Option (Option ℕ)) → is_idle (acquired w h hart lock found).1 ≡ is_held found
acquire-waits w h hart lock None = refl
acquire-waits w h hart lock (Some None) = refl
acquire-waits w h hart lock (Some (Some holder)) = refl

release-moves : (w : World) (h : ℕ) (hart : Hart) (lock : ℕ) (found : Option (Option ℕ)) → is_idle (released w h hart lock found).1 ≡ false
release-moves w h hart lock None = refl
release-moves w h hart lock (Some holder) = one_of (is_held_by h holder) _ _ refl refl

end-moves : (w : World) (h : ℕ) (hart : Hart) (held : Option ℕ) → is_idle (ended w h hart held).1 ≡ false
end-moves w h hart None = refl
end-moves w h hart (Some lock) = refl

call-waits : (w : World) (h : ℕ) (hart : Hart) (number lock : ℕ) → is_idle (called w h hart number lock).1 ≡ asks_held w.holders number lock
call-waits w h hart number lock = by_number (number == 1)
  where
    rest : Outcome
    rest =
        if number == 2 then released w h hart lock (slice_get w.holders lock)
        else if number == 3 then ended w h hart (least_held w.holders h)
        else stuck w (NoCall number)

    rest-moves : is_idle rest.1 ≡ false
    rest-moves =
        one_of (number == 2) (released w h hart lock (slice_get w.holders lock))
        (if number == 3 then ended w h hart (least_held w.holders h) else stuck w (NoCall number))
        (release-moves w h hart lock (slice_get w.holders lock))
        (one_of (number == 3) (ended w h hart (least_held w.holders h)) (stuck w (NoCall number)) (end-moves w h hart (least_held w.holders h)) refl)

    by_number : (b : Bool) → is_idle (if b then acquired w h hart lock (slice_get w.holders lock) else rest).1 ≡ (b && is_held (slice_get w.holders lock))
    by_number true = acquire-waits w h hart lock (slice_get w.holders lock)
    by_number false = rest-moves

-- what an effect asks for is a lock that has a holder
abbrev effect_waits : List (Option ℕ) → (registers : List ℕ) → Effect → Bool
effect_waits holders registers (Continues after pc) = false
effect_waits holders registers (Loads address bytes signed register) = false
effect_waits holders registers (Stores address bytes value) = false
effect_waits holders registers (Cleans address) = false
effect_waits holders registers Fences = false
effect_waits holders registers Calls = asks_held holders (read registers 17) (read registers 10)

applied-waits : (w : World) (h : ℕ) (hart : Hart) (effect : Effect) → is_idle (applied w h hart effect).1 ≡ effect_waits w.holders hart.registers effect
applied-waits w h hart (Continues registers pc) = refl
applied-waits w h hart (Loads address bytes signed register) =
    access-moves w address bytes
    (moved w h (record (gone_on hart) {
      registers = written hart.registers register (load_result bytes signed (loaded w.words (byte_number address) bytes));
    })) refl
applied-waits w h hart (Stores address bytes value) =
    access-moves w address bytes (moved (record w { words = stored w.words (byte_number address) bytes value }) h (gone_on hart)) refl
applied-waits w h hart (Cleans address) =
    access-moves w address 1 (cleaned w h hart (byte_number address / line_bytes)) (clean-moves w h hart (byte_number address / line_bytes))
applied-waits w h hart Fences = fence-moves w h hart hart.queue
applied-waits w h hart Calls = call-waits w h hart (read hart.registers 17) (read hart.registers 10)

row-waits : (holders : List (Option ℕ)) (registers : List ℕ) (pc : ℕ) (instr : Instr) →
    effect_waits holders registers (row instr registers pc) ≡ waits_at holders registers (Some (Row instr))
unfolding row
row-waits holders registers pc (Lui rd immediate) = refl
row-waits holders registers pc (Auipc rd immediate) = refl
row-waits holders registers pc (Jal rd offset) = refl
row-waits holders registers pc (Jalr rd rs1 offset) = refl
row-waits holders registers pc (Branch condition rs1 rs2 offset) = refl
row-waits holders registers pc (Load kind rd rs1 offset) = refl
row-waits holders registers pc (Store kind rs2 rs1 offset) = refl
row-waits holders registers pc (OpImmediate operation rd rs1 immediate) = refl
row-waits holders registers pc (ShiftImmediate operation rd rs1 count) = refl
row-waits holders registers pc (ShiftImmediateWord operation rd rs1 count) = refl
row-waits holders registers pc (Op operation rd rs1 rs2) = refl
row-waits holders registers pc (CboClean rs1) = refl
row-waits holders registers pc Fence = refl
row-waits holders registers pc Ecall = refl

slot-waits : (w : World) (h : ℕ) (hart : Hart) (slot : Option Slot) → is_idle (executed w h hart slot).1 ≡ waits_at w.holders hart.registers slot
slot-waits w h hart None = refl
slot-waits w h hart (Some (NoRow word)) = refl
slot-waits w h hart (Some (Row instr)) =
    applied-waits w h hart (row instr hart.registers hart.pc) ∙ row-waits w.holders hart.registers hart.pc instr

-- a step is idle exactly where it waits for a lock
pub step-waits : (program : List (List Slot)) (w : World) (h : ℕ) (hart : Hart) →
    is_idle (hart_step program w h hart).1 ≡ would_wait program h hart.registers hart.pc w.holders
step-waits program w h hart = slot-waits w h hart (fetched program h hart.pc)
