-- A world in which one hart and the holders are others, and memory is the same.
use Rattle.std.proofs.Common.{◌≡◌, ◌≢◌, ◌⊎◌, inl, inr, ℕ, List, [], set, length, ap, arith, sym, ◌∙◌, subst, Option, Some}
use Rattle.std.specs.Prelude.{slice_get}
use Rattle.std.proofs.lemmas.Option.{same_Some}
use Rattle.std.proofs.lemmas.List.{length-set}
use Rattle.ido_base.specs.Words.{Entry}
use Rattle.machine_events.specs.declared.event.Event.TheVariants.{Step}
use Rattle.machine_events.specs.declared.event.Reply.{Reply}
use Rattle.rv64_isa.specs.declared.object.Slot.{Slot}
use Rattle.machine_model.specs.Machine.{Hart, World, Outcome, happens, after_event, reply_to}
use Rattle.machine_model.proofs.Public.{get-set_same, get-set_other}
use Rattle.log_states.specs.Logs.{Record, nothing_recorded}
use Rattle.log_states.specs.Stages.{LogIs}
use Rattle.recovered_threads.specs.RecoveryStates.{HasRecord}

pub same_there : {A : Type 0} (o : Option A) (x y : A) → o ≡ Some x → o ≡ Some y → x ≡ y
same_there o x y e g = same_Some x y (sym e ∙ g)

pub same_or_other : (i j : ℕ) → (i ≡ j) ⊎ (i ≢ j)
same_or_other i j = grind arith

-- the holders and hart g are these
abbrev pub changed : World → (holders : List (Option ℕ)) → (g : ℕ) → Hart → World
changed w holders g hart = record w { holders = holders; harts = set w.harts g hart }

-- what is so of hart g and of all others is so of each
pub each_hart : (w : World) (g : ℕ) (old new : Hart) (P : ℕ → Hart → Type 0) → slice_get w.harts g ≡ Some old → P g new →
    ((h : ℕ) (hart : Hart) → h ≢ g → slice_get w.harts h ≡ Some hart → P h hart) →
    (h : ℕ) (hart : Hart) → slice_get (set w.harts g new) h ≡ Some hart → P h hart
each_hart w g old new P here own others h hart there = elim (same_or_other h g) [
  | inl same ↦
      let at : slice_get (set w.harts g new) h ≡ Some new = ap (slice_get (set w.harts g new)) same ∙ get-set_same w.harts g new old here in
      let is : new ≡ hart = same_there (slice_get (set w.harts g new) h) new hart at there in
      subst (λ (n : ℕ). P n hart) (sym same) (subst (λ (x : Hart). P g x) is own)
  | inr other ↦ others h hart other (sym (get-set_other w.harts g h new other) ∙ there)
]

pub count_changed : (w : World) (holders : List (Option ℕ)) (g : ℕ) (hart : Hart) → length (changed w holders g hart).harts ≡ length w.harts
count_changed w holders g hart = length-set w.harts g hart

-- logs stay, where the hart's queue is the same
pub log_stays : (w : World) (holders : List (Option ℕ)) (g : ℕ) (old new : Hart) (h : ℕ) (r : Record) → slice_get w.harts g ≡ Some old →
    new.queue ≡ old.queue → HasRecord w h r → HasRecord (changed w holders g new) h r
log_stays w holders g old new h r here queue s = elim (same_or_other h g) [
  | inl same ↦
      let one : s.hart ≡ old = same_there (slice_get w.harts g) s.hart old (ap (slice_get w.harts) (sym same) ∙ s.here) here in
      let queues : s.hart.queue ≡ new.queue = ap (λ (x : Hart). x.queue) one ∙ sym queue in
      record {
        hart = new;
        here = ap (slice_get (set w.harts g new)) same ∙ get-set_same w.harts g new old here;
        log = subst (λ (q : List Entry). LogIs w.log h nothing_recorded r (record { words = w.words; queue = q; rest = [] })) queues s.log;
      }
  | inr other ↦ record { hart = s.hart; here = get-set_other w.harts g h new other ∙ s.here; log = s.log }
]

-- what a step leads to
pub leads : (program : List (List Slot)) (w v : World) (h : ℕ) (reply : Reply) (P : World → Type 0) → happens program w (Step h) ≡ (v, reply) → P v →
    (reply_to program w (Step h) ≡ reply) × P (after_event program w (Step h))
leads program w v h reply P e x = (ap (λ (o : Outcome). o.1) e, subst P (sym (ap (λ (o : Outcome). o.0) e)) x)
