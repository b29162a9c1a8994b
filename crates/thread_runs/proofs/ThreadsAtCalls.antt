-- Threads at their calls.
use Rattle.std.proofs.Common.{◌≡◌, ℕ, zero, suc, ◌+◌, ◌*◌, ◌^◌, ◌<◌, List, [], ◌∷◌, length, refl, ap, arith, sym, ◌∙◌, subst, Bool, true, false, Some}
use Rattle.std.specs.Prelude.{slice_get, ◌&&◌}
use Rattle.std.proofs.Math.Nat.{mod-eq_of_lt}
use Rattle.std.proofs.Math.ListN.{length-set}
use Rattle.log_schemes.specs.declared.log.Log.{Log}
use Rattle.machine_events.specs.declared.event.Event.TheVariants.{Step}
use Rattle.ido_base.specs.Layout.{byte_number}
use Rattle.ido_base.specs.Words.{Word, loaded}
use Rattle.rv64_isa.specs.declared.instr.Instr.{Instr}
use Rattle.rv64_isa.specs.declared.instr.Instr.TheVariants.{Ecall}
use Rattle.rv64_isa.specs.declared.object.Slot.{Slot}
use Rattle.rv64_isa.specs.Rows.{Effect, next, read}
use Rattle.machine_model.specs.Machine.{Hart, World, Outcome, moved, happens, after_event, reply_to}
use Rattle.machine_model.specs.Schedule.{has_moved}
use Rattle.rv64_link.specs.LinkedCode.{IsInstructionAt}
use Rattle.memory_layout.specs.Roles as roles
use Rattle.code_runs.specs.ComputingRuns.{LocalConfig, config}
use Rattle.code_runs.specs.CodeTraces.{Program, MarkedEnvironment}
use Rattle.hart_runs.specs.HartsOnRuns.{Agrees, LoadGives, instr_at, is_access}
use Rattle.hart_runs.specs.Calls.{IsAtCall}
use Rattle.hart_runs.proofs.Public.{none_some}
use Rattle.thread_code.specs.Plans.{Plan, Thread}
use Rattle.thread_code.specs.NodeCodeEffects.{Places}
use Rattle.thread_runs.specs.CodeFragments.{IsOnFragment, Running, Stage, end_of}

below_length : (xs : List Slot) (i : ℕ) (x : Slot) → slice_get xs i ≡ Some x → i < length xs
below_length [] i x e = absurd (none_some x e)
below_length (y ∷ ys) zero x e = omega arith
below_length (y ∷ ys) (suc i) x e = let l : i < length ys = below_length ys i x e in omega (arith, l)

-- the address after an instruction of code that ends within the addresses
next_is : (program : Program) (address : ℕ) (instr : Instr) → IsInstructionAt program.start program.code address instr →
    program.start + 4 * length program.code < 2 ^ 64 →
    next address ≡ address + 4
next_is program address instr st room =
    let i : st.0 < length program.code = below_length program.code st.0 _ st.2 in
    let at : address ≡ program.start + 4 * st.0 = st.1 in
    mod-eq_of_lt (omega (arith, i, at, room))

-- ---- The world after a call

-- an environment agrees where words, the count of harts and the log stay
pub agrees_on : (program : List (List Slot)) (w v : World) (h : ℕ) (s : MarkedEnvironment) → v.words ≡ w.words → length v.harts ≡ length w.harts →
    v.log ≡ w.log → Agrees program w h s →
    Agrees program v h s
agrees_on program w v h s words count log agrees = record {
  fetches = agrees.fetches;
  loads = λ address bytes value e. given address bytes value (agrees.loads address bytes value e);
}
  where
    given : (address bytes value : ℕ) → LoadGives w address bytes value → LoadGives v address bytes value
    given address bytes value g = record {
      may = ap (λ (l : Log). is_access l (length v.harts) address bytes) log ∙ (ap (λ (n : ℕ). is_access w.log n address bytes) count ∙ g.may);
      is = ap (λ (ws : List Word). loaded ws (byte_number address) bytes) words ∙ g.is;
    }

module _ (program : List (List Slot)) (w v : World) (h : ℕ) (after : Hart) (does : happens program w (Step h) ≡ moved v h after) where
  pub words_stay : v.words ≡ w.words → (after_event program w (Step h)).words ≡ w.words
  words_stay e = ap (λ (o : Outcome). o.0.words) does ∙ e

  pub count_stays : v.harts ≡ w.harts → length (after_event program w (Step h)).harts ≡ length w.harts
  count_stays e = ap (λ (o : Outcome). length o.0.harts) does ∙ (length-set v.harts h after ∙ ap (λ (hs : List Hart). length hs) e)

  pub log_stays : v.log ≡ w.log → (after_event program w (Step h)).log ≡ w.log
  log_stays e = ap (λ (o : Outcome). o.0.log) does ∙ e

  pub has_moved_by : has_moved (reply_to program w (Step h)) ≡ true
  has_moved_by = ap (λ (o : Outcome). has_moved o.1) does

pub and_right : (a b : Bool) → a ≡ true → (a && b) ≡ b
and_right true b e = refl
and_right false b e = absurd (let z : ⊥ = cc in z)

pub and_none : (a b : Bool) → b ≡ false → (a && b) ≡ false
and_none true b e = e
and_none false b e = refl

-- ---- A hart at the call of a node

-- at the end of a fragment that leads to the call of a node
module _ {p : Plan} {t : Thread} {c : Places} {running : Running} {stage : Stage} {effects : List Effect} (there : IsOnFragment p t c running stage 0 effects)
    (node : ℕ) (ends : end_of p t c stage.exit stage.node ≡ c.call node)
    (stands : IsInstructionAt c.program.start c.program.code (c.call node) Ecall) where
  pub config_is : config there.on.hart.registers there.on.hart.pc ≡ config there.registers (c.call node)
  config_is = there.on.walks.0 ∙ ap (λ (x : ℕ). config there.registers x) ends

  pub pc_is : there.on.hart.pc ≡ c.call node
  pc_is = ap (λ (x : LocalConfig). x.pc) config_is

  pub registers_are : there.on.hart.registers ≡ there.registers
  registers_are = ap (λ (x : LocalConfig). x.registers) config_is

  -- it asks for the call of that number
  abbrev pub call_there : (number : ℕ) → read there.registers roles.call ≡ number → IsAtCall running.program running.world running.hart number
  call_there number asks = record {
    hart = there.on.hart;
    here = there.on.here;
    runs = there.on.runs;
    calls = subst (λ (x : ℕ). instr_at running.program running.hart x ≡ Some Ecall) (sym pc_is)
        (there.agrees.fetches (c.call node) Ecall (there.meets.fetches (c.call node) Ecall stands));
    asks = ap (λ (x : List ℕ). read x 17) registers_are ∙ asks;
  }

  pub boundary_after_is : c.program.start + 4 * length c.program.code < 2 ^ 64 →
      config there.on.hart.registers (next there.on.hart.pc) ≡ config there.registers (c.call node + 4)
  boundary_after_is room = ap (λ (x : LocalConfig). config x.registers (next x.pc)) config_is ∙
      ap (λ (x : ℕ). config there.registers x) (next_is c.program (c.call node) Ecall stands room)
