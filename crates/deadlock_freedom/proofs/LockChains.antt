-- Where no hart can step, each has stopped: of those that wait for locks, the one that waits for the greatest would wait for a hart that can.
use Rattle.std.proofs.Common.{◌≡◌, ◌⊎◌, inl, inr, refl, ℕ, zero, suc, ◌+◌, ◌<◌, ◌≤◌, List, length, ap, sym, ◌∙◌, true, false}
use Rattle.std.proofs.Common.{Some, arith}
use Rattle.std.specs.Prelude.{slice_get}
use Rattle.std.proofs.lemmas.Option.{slice_get_within}
use Rattle.machine_events.specs.declared.event.Event.TheVariants.{Step}
use Rattle.machine_events.specs.declared.event.Reply.TheVariants.{Moved}
use Rattle.machine_events.specs.Cores.{is_idle}
use Rattle.rv64_isa.specs.declared.instr.Instr.TheVariants.{Ecall}
use Rattle.rv64_isa.specs.declared.object.Slot.{Slot}
use Rattle.rv64_isa.specs.declared.object.Slot.TheVariants.{Row}
use Rattle.machine_model.specs.declared.phase.Phase.{Phase}
use Rattle.machine_model.specs.declared.phase.Phase.TheVariants.{Take, Wait, Resume, Run, Done, Ended}
use Rattle.rv64_isa.specs.Rows.{read}
use Rattle.rv64_isa.specs.Programs.{fetched}
use Rattle.machine_model.specs.Machine.{Hart, World, Outcome, reply_to, phase_step}
use Rattle.deadlock_freedom.proofs.HartReplies.{HasNotStopped, run_leads, by_phase, waits_for_takers}
use Rattle.deadlock_freedom.proofs.Holders.{HoldersGoOn}

-- the hart executes instructions, and is at a call for the lock, which a hart holds
pub record WaitsFor (program : List (List Slot)) (w : World) (h lock : ℕ) : Type 0 where
  pub hart : Hart
  pub here : slice_get w.harts h ≡ Some hart
  pub runs : hart.phase ≡ Run
  pub calls : fetched program h hart.pc ≡ Some (Row Ecall)
  pub asks : read hart.registers 17 ≡ 1
  pub lock_is : read hart.registers 10 ≡ lock
  pub holder : ℕ
  pub held : slice_get w.holders lock ≡ Some (Some holder)

-- the hart's next step would wait, or finds that it has stopped
abbrev IsIdle : List (List Slot) → World → (h : ℕ) → Type 0
IsIdle program w h = is_idle (reply_to program w (Step h)) ≡ true

module _ (program : List (List Slot)) (w : World) (on : HoldersGoOn w) (idles : (h : ℕ) (hart : Hart) → slice_get w.harts h ≡ Some hart → IsIdle program w h)
    (takes : (h : ℕ) (hart : Hart) → slice_get w.harts h ≡ Some hart → hart.phase ≡ Take → reply_to program w (Step h) ≡ Moved)
    (ascends : (h lock held : ℕ) → WaitsFor program w h lock → slice_get w.holders held ≡ Some (Some h) → held < lock) where
  idle_at : (h : ℕ) (hart : Hart) (phase : Phase) → slice_get w.harts h ≡ Some hart → hart.phase ≡ phase →
      is_idle (phase_step program w h hart phase).1 ≡ true
  idle_at h hart phase here is =
      let e : is_idle (reply_to program w (Step h)) ≡ true = idles h hart here in
      sym (ap (λ (o : Outcome). is_idle o.1) (by_phase program w h hart here phase is)) ∙ e

  none_takes : (h : ℕ) (hart : Hart) → slice_get w.harts h ≡ Some hart → hart.phase ≡ Take → ⊥
  none_takes h hart here is =
      let e : is_idle (reply_to program w (Step h)) ≡ true = idles h hart here in
      let no : false ≡ true = sym (ap is_idle (takes h hart here is)) ∙ e in
      cc

  none_awaits : (h : ℕ) (hart : Hart) → slice_get w.harts h ≡ Some hart → hart.phase ≡ Wait → ⊥
  none_awaits h hart here is =
      let t = waits_for_takers w h hart (idle_at h hart Wait here is) in
      none_takes t.number t.hart t.there t.takes

  none_resumes : (h : ℕ) (hart : Hart) → slice_get w.harts h ≡ Some hart → hart.phase ≡ Resume → ⊥
  none_resumes h hart here is = let no : false ≡ true = idle_at h hart Resume here is in cc

  -- one that executes instructions waits for a lock
  waits : (h : ℕ) (hart : Hart) → slice_get w.harts h ≡ Some hart → hart.phase ≡ Run → WaitsFor program w h (read hart.registers 10)
  waits h hart here is =
      let i = (run_leads w h hart here is program).idles (idle_at h hart Run here is) in
      record { hart = hart; here = here; runs = is; calls = i.0; asks = i.1.asks; lock_is = refl; holder = i.1.holder; held = i.1.held }

  -- one that goes on waits for a lock
  on_waits : (h : ℕ) (hart : Hart) → slice_get w.harts h ≡ Some hart → HasNotStopped hart → (phase : Phase) → hart.phase ≡ phase →
      WaitsFor program w h (read hart.registers 10)
  on_waits h hart here goes Take is = absurd (none_takes h hart here is)
  on_waits h hart here goes Wait is = absurd (none_awaits h hart here is)
  on_waits h hart here goes Resume is = absurd (none_resumes h hart here is)
  on_waits h hart here goes Run is = waits h hart here is
  on_waits h hart here goes Done is = absurd (goes.not_done is)
  on_waits h hart here goes Ended is = absurd (goes.not_ended is)

  -- the holder of the lock waits for a greater one, and so on, past the last lock
  none_waits : (left h lock : ℕ) → length w.holders ≤ lock + left → WaitsFor program w h lock → ⊥
  none_waits zero h lock past x =
      let within : lock < length w.holders = slice_get_within w.holders lock (Some x.holder) x.held in
      omega (arith, past, within)
  none_waits (suc left) h lock past x =
      let o = on.each lock x.holder x.held in
      let y = on_waits x.holder o.0 o.1 o.2 o.0.phase refl in
      let greater : lock < read o.0.registers 10 = ascends x.holder (read o.0.registers 10) lock y x.held in
      none_waits left x.holder (read o.0.registers 10) (omega (arith, past, greater)) y

  by_phases : (h : ℕ) (hart : Hart) → slice_get w.harts h ≡ Some hart → (phase : Phase) → hart.phase ≡ phase → (hart.phase ≡ Ended) ⊎ (hart.phase ≡ Done)
  by_phases h hart here Take is = absurd (none_takes h hart here is)
  by_phases h hart here Wait is = absurd (none_awaits h hart here is)
  by_phases h hart here Resume is = absurd (none_resumes h hart here is)
  by_phases h hart here Run is =
      let x = waits h hart here is in
      absurd (none_waits (length w.holders) h (read hart.registers 10) (omega arith) x)
  by_phases h hart here Done is = inr is
  by_phases h hart here Ended is = inl is

  pub all_stopped : (h : ℕ) (hart : Hart) → slice_get w.harts h ≡ Some hart → (hart.phase ≡ Ended) ⊎ (hart.phase ≡ Done)
  all_stopped h hart here = by_phases h hart here hart.phase refl

-- a hart that has stopped idles
pub stopped_idles : (program : List (List Slot)) (w : World) (h : ℕ) (hart : Hart) → slice_get w.harts h ≡ Some hart →
    (hart.phase ≡ Ended) ⊎ (hart.phase ≡ Done) → is_idle (reply_to program w (Step h)) ≡ true
stopped_idles program w h hart here (inl is) = ap (λ (o : Outcome). is_idle o.1) (by_phase program w h hart here Ended is)
stopped_idles program w h hart here (inr is) = ap (λ (o : Outcome). is_idle o.1) (by_phase program w h hart here Done is)
