-- Events of a machine.
use Rattle.std.proofs.Common.{◌≡◌, ℕ, zero, suc, ◌<◌, List, [], ◌∷◌, length, map, replicate, slice_get, slice_set, Option, Some}
use Rattle.std.proofs.Common.{None, Bool, true, false, inl, inr, refl, sym, ◌∙◌, ap, subst, arith, not, ◌&&◌, if◌then◌else◌}
use Rattle.std.proofs.lemmas.Bool.{cases_eq}
use Rattle.std.proofs.lemmas.List.{length-set}
use Rattle.machine_events.specs.declared.event.Event.TheVariants.{Step, Evict, Crash}
use Rattle.machine_events.specs.declared.event.Reply.{Reply}
use Rattle.log_schemes.specs.declared.log.Log.{Log}
use Rattle.machine_events.specs.declared.event.Reply.TheVariants.{Device, Moved}
use Rattle.machine_events.specs.Cores.{is_idle}
use Rattle.ido_base.specs.Locks.{holds_none}
use Rattle.ido_base.specs.Words.{Word, Entry, word_of, durable_value, evicted, crashed}
use Rattle.line_memory.specs.declared.memory.LineMemory.{LineMemory}
use Rattle.line_memory.specs.declared.queue.Queue.{Queue}
use Rattle.line_memory.specs.links.Queues.{RepresentsQueue}
use Rattle.line_memory.specs.links.MemoryRepresentation.{Represents, Logs, log_in, threads_of, logs_of}
use Rattle.line_memory.proofs.Public.{RepresentsQueue-evicted}
use Rattle.rv64_isa.specs.declared.object.Slot.{Slot}
use Rattle.machine_model.specs.declared.phase.Phase.{Phase}
use Rattle.machine_model.specs.declared.phase.Phase.TheVariants.{Run, Done}
use Rattle.machine_model.specs.Machine.{Hart as HartModel, World, Outcome, happens, hart_step, run_step, stepped, phase_step}
use Rattle.machine_model.specs.Machine.{done_if_over, over_after, with_hart, phase_after_crash, durable_point, after_crash_of}
use Rattle.log_schemes.specs.Schemes.{numbers_from}
use Rattle.hart_core.specs.declared.hart.Hart.{Hart}
use Rattle.hart_core.specs.links.Harts.{RepresentsHart}
use Rattle.hart_core.specs.StepsOnParts.{Parts, PartsStand, PartsEnd}
use Rattle.hart_core.specs.declared.local.LocalState.{LocalState}
use Rattle.hart_core.specs.links.Waits.{would_wait}
use Rattle.hart_core.proofs.Public.{changed_end, found_set, set_found, step-waits}
use Rattle.resume_recovery.specs.RecoverySteps.{phase_at, phases_of, IsRecoveryStep}
use Rattle.ido_machine.specs.Harts.{HartsStand, AreFresh, with_local_state}
use Rattle.ido_machine.specs.Machines.{MachineState, RepresentsMachineState, StateEnds}
use Rattle.ido_machine.proofs.Lists.{set_same, set_other, get_some, get_map, map_set, map_map}
use Rattle.ido_machine.proofs.Starts.{crash_simulates}

-- ---- Steps

-- harts that represent their models at some words do so at others that keep what queues represent
kept : (it : Hart) (model : HartModel) (words words' : List Word) →
    ((any : Queue) (entries : List Entry) → RepresentsQueue any entries words → RepresentsQueue any entries words') → RepresentsHart it model words →
    RepresentsHart it model words'
kept it model words words' queues s = record { registers = s.registers; pc = s.pc; queue = queues it.queue model.queue s.queue }

-- what a step of one hart reaches
abbrev pub parts_of : MachineState → Phase → Hart → Parts
parts_of state phase it = record { phase = phase; hart = it; memory = state.memory; locks = state.locks }

pub parts_stand : (state : MachineState) (number : ℕ) (phase : Phase) (it : Hart) (w : World) (model : HartModel) →
    threads_of state.memory ≡ length state.harts →
    phase_at state.phases number ≡ phase → slice_get state.harts number ≡ Some it → slice_get w.harts number ≡ Some model → RepresentsMachineState state w →
    PartsStand (parts_of state phase it) number w model
parts_stand state number phase it w model threads is found there s = record {
  words = s.words;
  holders = s.holders;
  logs = ap (λ (log : Log). record { log = log; threads = length w.harts }) s.log
      ∙ ap (λ (n : ℕ). record { log = log_in state.memory; threads = n }) (s.standing.count ∙ sym threads);
  found = there;
  phase = sym (get_map (λ (hart : HartModel). hart.phase) w.harts number model Done there) ∙ ap (λ (phases : List Phase). phase_at phases number) s.phases ∙ is;
  hart = s.standing.each number it model found there;
}

-- what a step of one hart leaves
abbrev pub state_with : MachineState → (number : ℕ) → Parts → MachineState
state_with state number after = record {
  phases = slice_set state.phases number after.phase;
  harts = slice_set state.harts number after.hart;
  memory = after.memory;
  locks = after.locks;
  recovering = state.recovering;
}

harts_stand : (state : MachineState) (number : ℕ) (after : Parts) (reply : Reply) (w : World) (outcome : Outcome) → RepresentsMachineState state w →
    PartsEnd after reply number w outcome → HartsStand (slice_set state.harts number after.hart) outcome.0.harts outcome.0.words
harts_stand state number after reply w outcome s e = record {
  count = ap length e.harts ∙ length-set w.harts number e.model ∙ s.standing.count ∙ sym (length-set state.harts number after.hart);
  each = λ n one model found there. elim (cases_eq n number) [
    | inl same ↦
        let one_is : after.hart ≡ one =
        set_same state.harts number after.hart one (subst (λ (k : ℕ). slice_get (slice_set state.harts number after.hart) k ≡ Some one) same found) in
        let model_is : e.model ≡ model =
        set_same w.harts number e.model model
        (subst (λ (k : ℕ). slice_get (slice_set w.harts number e.model) k ≡ Some model) same
        (subst (λ (ms : List HartModel). slice_get ms n ≡ Some model) e.harts there)) in
        subst (λ (x : Hart). RepresentsHart x model outcome.0.words) one_is
        (subst (λ (m : HartModel). RepresentsHart after.hart m outcome.0.words) model_is e.stand.hart)
    | inr other ↦
        let found' : slice_get state.harts n ≡ Some one = sym (set_other state.harts number n after.hart other) ∙ found in
        let there' : slice_get w.harts n ≡ Some model =
        sym (set_other w.harts number n e.model other) ∙ subst (λ (ms : List HartModel). slice_get ms n ≡ Some model) e.harts there in
        kept one model w.words outcome.0.words e.queues (s.standing.each n one model found' there')
  ];
}

state_end : (state : MachineState) (number : ℕ) (after : Parts) (reply : Reply) (w : World) (outcome : Outcome) → RepresentsMachineState state w →
    PartsEnd after reply number w outcome → StateEnds (state_with state number after) reply outcome
state_end state number after reply w outcome s e = record {
  replied = e.replied;
  stands = record {
    words = e.stand.words;
    holders = e.stand.holders;
    phases =
        ap (map (λ (hart : HartModel). hart.phase)) e.harts ∙ map_set (λ (hart : HartModel). hart.phase) w.harts number e.model
        ∙ ap (λ (phases : List Phase). slice_set phases number e.model.phase) s.phases ∙ ap (slice_set state.phases number) e.stand.phase;
    standing = harts_stand state number after reply w outcome s e;
    recovering = e.recovering ∙ s.recovering;
    log = ap (λ (l : Logs). l.log) e.stand.logs;
  };
}

-- the step of a hart that there is goes by its phase
pub stepped-is : (program : List (List Slot)) (w : World) (number : ℕ) (model : HartModel) (phase : Phase) → slice_get w.harts number ≡ Some model →
    model.phase ≡ phase → happens program w (Step number) ≡ phase_step program w number model phase
unfolding happens
stepped-is program w number model phase there is = ap (stepped program w number) there ∙ ap (phase_step program w number model) is

-- in recovery, the last release makes the hart done
abbrev done_end : World → ℕ → Outcome → Option HartModel → Outcome
done_end w h o found = (done_if_over w h found o.0, o.1)

abbrev over_end : ℕ → Outcome → HartModel → Bool → Outcome
over_end h o model over = ((if over then with_hart o.0 h (record model { phase = Done }) else o.0), o.1)

after-done : (w : World) (h : ℕ) (o : Outcome) (model : HartModel) (b : Bool) → slice_get o.0.harts h ≡ Some model → over_after w o.0 h ≡ b →
    done_end w h o (slice_get o.0.harts h) ≡ over_end h o model b
after-done w h o model b found is = ap (done_end w h o) found ∙ ap (over_end h o model) is

and_both : (r a b : Bool) → (r && (a && b)) ≡ ((r && a) && b)
and_both true a b = refl
and_both false a b = refl

set_set : {X : Type 0} (xs : List X) (n : ℕ) (x y : X) → slice_set (slice_set xs n x) n y ≡ slice_set xs n y
set_set [] n x y = refl
set_set (z ∷ zs) zero x y = refl
set_set (z ∷ zs) (suc n) x y = ap (λ (rest : List _). z ∷ rest) (set_set zs n x y)

module _ (program : List (List Slot)) (number : ℕ) (before after : Parts) (reply : Reply) (w : World) (model : HartModel) where
  -- in recovery, the hart has released its last lock
  abbrev pub ends : Bool
  ends = (w.recovering && not (holds_none before.locks number)) && holds_none after.locks number

  over-is : PartsStand before number w model → (e : PartsEnd after reply number w (hart_step program w number model)) →
      over_after w (hart_step program w number model).0 number ≡ ends
  over-is s e =
      ap (λ (holders : List (Option ℕ)).
      w.recovering && (not (holds_none holders number) && holds_none (hart_step program w number model).0.holders number)) s.holders
      ∙ ap (λ (holders : List (Option ℕ)). w.recovering && (not (holds_none before.locks number) && holds_none holders number)) e.stand.holders
      ∙ and_both w.recovering (not (holds_none before.locks number)) (holds_none after.locks number)

  pub run_on : ends ≡ false → PartsStand before number w model → PartsEnd after reply number w (hart_step program w number model) →
      PartsEnd after reply number w (run_step program w number model)
  run_on stays s e =
      let o : Outcome = hart_step program w number model in
      subst (λ (x : Outcome). PartsEnd after reply number w x) (sym (after-done w number o e.model false e.stand.found (over-is s e ∙ stays))) e

  pub run_done : ends ≡ true → PartsStand before number w model → PartsEnd after reply number w (hart_step program w number model) →
      PartsEnd (record after { phase = Done }) reply number w (run_step program w number model)
  run_done over s e =
      let o : Outcome = hart_step program w number model in
      let done : HartModel = record e.model { phase = Done } in
      subst (λ (x : Outcome). PartsEnd (record after { phase = Done }) reply number w x)
      (sym (after-done w number o e.model true e.stand.found (over-is s e ∙ over))) (record {
        replied = e.replied;
        model = done;
        stand = record {
          words = e.stand.words;
          holders = e.stand.holders;
          logs = ap (λ (n : ℕ). record { log = o.0.log; threads = n }) (length-set o.0.harts number done) ∙ e.stand.logs;
          found = found_set o.0.harts number e.model done e.stand.found;
          phase = refl;
          hart = record { registers = e.stand.hart.registers; pc = e.stand.hart.pc; queue = e.stand.hart.queue };
        };
        harts = ap (λ (models : List HartModel). slice_set models number done) e.harts ∙ set_set w.harts number e.model done;
        recovering = e.recovering;
        queues = e.queues;
      })

-- a step of a hart that runs
pub run_end : (program : List (List Slot)) (number : ℕ) (state : MachineState) (phase : Phase) (it : Hart) (after : Parts) (reply : Reply) (w : World) →
    number < length state.harts → threads_of state.memory ≡ length state.harts → slice_get state.harts number ≡ Some it → phase_at state.phases number ≡ phase →
    phase ≡ Run → ((v : World) (model : HartModel) → v.recovering ≡ state.recovering → PartsStand (parts_of state phase it) number v model →
    PartsEnd after reply number v (run_step program v number model)) → RepresentsMachineState state w →
    StateEnds (state_with state number after) reply (happens program w (Step number))
run_end program number state phase it after reply w within threads found is run step s =
    let some : (m : HartModel) × (slice_get w.harts number ≡ Some m) = get_some w.harts number (omega (arith, s.standing.count)) in
    let model : HartModel = some.0 in
    let there : slice_get w.harts number ≡ Some model = some.1 in
    let one : PartsStand (parts_of state phase it) number w model = parts_stand state number phase it w model threads is found there s in
    subst (λ (o : Outcome). StateEnds (state_with state number after) reply o) (sym (stepped-is program w number model Run there (one.phase ∙ run)))
    (state_end state number after reply w (run_step program w number model) s (step w model s.recovering one))

-- a step of a hart in recovery
pub recovery_end : (program : List (List Slot)) (number : ℕ) (state : MachineState) (it : Hart) (after : Parts) (reply : Reply) (w : World) →
    number < length state.harts → threads_of state.memory ≡ length state.harts → slice_get state.harts number ≡ Some it →
    IsRecoveryStep number (parts_of state (phase_at state.phases number) it) after state.phases reply → RepresentsMachineState state w →
    StateEnds (state_with state number after) reply (happens program w (Step number))
recovery_end program number state it after reply w within threads found step s =
    let some : (m : HartModel) × (slice_get w.harts number ≡ Some m) = get_some w.harts number (omega (arith, s.standing.count)) in
    let model : HartModel = some.0 in
    let there : slice_get w.harts number ≡ Some model = some.1 in
    let one : PartsStand (parts_of state (phase_at state.phases number) it) number w model =
    parts_stand state number (phase_at state.phases number) it w model threads refl found there s in
    let phase : Phase = phase_at state.phases number in
    subst (λ (o : Outcome). StateEnds (state_with state number after) reply o) (sym (stepped-is program w number model phase there one.phase))
    (state_end state number after reply w (phase_step program w number model phase) s (step.each program w model one s.phases))

-- ---- Steps that wait

-- a hart that runs is idle exactly where its next instruction asks for a lock that has a holder
pub run_idle : (program : List (List Slot)) (number : ℕ) (registers : List ℕ) (pc : ℕ) (locks : List (Option ℕ)) (w : World) (model : HartModel) →
    slice_get w.harts number ≡ Some model → model.phase ≡ Run → model.registers ≡ registers → model.pc ≡ pc → w.holders ≡ locks →
    would_wait program number registers pc locks ≡ is_idle (happens program w (Step number)).1
run_idle program number registers pc locks w model there running same_registers same_pc same_holders =
    sym (ap (λ (o : Outcome). is_idle o.1) (stepped-is program w number model Run there running) ∙ step-waits program w number model
    ∙ ap (λ (xs : List ℕ). would_wait program number xs model.pc w.holders) same_registers
    ∙ ap (λ (at : ℕ). would_wait program number registers at w.holders) same_pc ∙ ap (would_wait program number registers pc) same_holders)

-- the phase of a hart, by the phases of all
pub phase_there : (phases : List Phase) (number : ℕ) (w : World) (model : HartModel) → slice_get w.harts number ≡ Some model → phases_of w ≡ phases →
    model.phase ≡ phase_at phases number
phase_there phases number w model there same =
    sym (get_map (λ (hart : HartModel). hart.phase) w.harts number model Done there) ∙ ap (λ (ps : List Phase). phase_at ps number) same

-- ---- A hart whose registers and pc are others

pub gone_stands : (state : MachineState) (number : ℕ) (it next : Hart) (w : World) (model : HartModel) (s : LocalState) →
    threads_of state.memory ≡ length state.harts → slice_get state.harts number ≡ Some it → slice_get w.harts number ≡ Some model →
    next ≡ record it { registers = s.registers; pc = s.pc } → RepresentsMachineState state w →
    RepresentsMachineState (record state { harts = slice_set state.harts number next }) (with_hart w number (with_local_state model s))
gone_stands state number it next w model s threads found there is stands =
    let phase : Phase = phase_at state.phases number in
    let gone : HartModel = with_local_state model s in
    let before : Parts = parts_of state phase it in
    let after : Parts = record before { hart = next } in
    let one : PartsStand before number w model = parts_stand state number phase it w model threads refl found there stands in
    let queue : RepresentsQueue next.queue model.queue w.words =
    subst (λ (x : Hart). RepresentsQueue x.queue model.queue w.words) (sym is) one.hart.queue in
    let end : PartsEnd after Moved number w (with_hart w number gone, Moved) =
    changed_end before after Moved number w model gone w.words w.holders one stands.words refl stands.holders one.phase
    (record { registers = ap (λ (x : Hart). x.registers) (sym is); pc = ap (λ (x : Hart). x.pc) (sym is); queue = queue }) (λ any entries q. q) in
    let phase_in : HartModel → Phase = λ hart. hart.phase in
    record {
      words = stands.words;
      holders = stands.holders;
      phases =
          map_set phase_in w.harts number gone ∙ sym (map_set phase_in w.harts number model)
          ∙ ap (map phase_in) (set_found w.harts number model there) ∙ stands.phases;
      standing = harts_stand state number after Moved w (with_hart w number gone, Moved) stands end;
      recovering = stands.recovering;
      log = stands.log;
    }

-- ---- Evictions and crashes

pub evict_end : (program : List (List Slot)) (state : MachineState) (memory : LineMemory) (line mask : ℕ) (w : World) →
    ((words : List Word) → Represents state.memory words → Represents memory (evicted words line mask)) → logs_of memory ≡ logs_of state.memory →
    RepresentsMachineState state w →
    StateEnds (record state { memory = memory }) Device (happens program w (Evict line mask))
unfolding happens
evict_end program state memory line mask w stands logs s = record {
  replied = refl;
  stands = record {
    words = stands w.words s.words;
    holders = s.holders;
    phases = s.phases;
    standing = record {
      count = s.standing.count;
      each =
          λ n one model found there. kept one model w.words (evicted w.words line mask)
          (λ any entries q. RepresentsQueue-evicted any entries w.words line mask q)
          (s.standing.each n one model found there);
    };
    recovering = s.recovering;
    log = s.log ∙ ap (λ (l : Logs). l.log) (sym logs);
  };
}

pub crash_end : (program : List (List Slot)) (state state' : MachineState) (w : World) → AreFresh program state'.harts (length program) →
    ((words : List Word) → Represents state'.memory words →
    state'.phases ≡ map (λ thread. phase_after_crash (durable_point (log_in state'.memory) words thread)) (numbers_from 0 (length program))) →
    ((words : List Word) → Represents state.memory words → Represents state'.memory (crashed words)) → logs_of state'.memory ≡ logs_of state.memory →
    state'.locks ≡ replicate (length state.locks) None →
    state'.recovering ≡ true → RepresentsMachineState state w → StateEnds state' Device (happens program w Crash)
unfolding happens
crash_end program state state' w fresh phases stands logs free recovering s =
    let left : map word_of (map durable_value w.words) ≡ crashed w.words = map_map word_of durable_value w.words in
    let there : Represents state'.memory (map word_of (map durable_value w.words)) =
    subst (λ (words : List Word). Represents state'.memory words) (sym left) (stands w.words s.words) in
    record {
      replied = refl;
      stands =
          subst (λ (log : Log). RepresentsMachineState state' (after_crash_of log program (length w.holders) (map durable_value w.words)))
          (ap (λ (l : Logs). l.log) logs ∙ sym s.log)
          (crash_simulates program (length w.holders) (map durable_value w.words) state' fresh (phases (map word_of (map durable_value w.words)) there) there
          (free ∙ ap (λ (locks : List (Option ℕ)). replicate (length locks) None) (sym s.holders)) recovering);
    }
