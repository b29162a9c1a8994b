-- A machine in which another life begins.
use Rattle.std.proofs.Common.{◌≡◌, refl, ℕ, zero, suc, ◌+◌, ◌<◌, ◌≤◌, List, [], ◌∷◌, length, map, replicate, slice_get, slice_set, Some}
use Rattle.std.proofs.Common.{true, false, inl, inr, sym, ◌∙◌, ap, subst, arith, length-set}
use Rattle.std.proofs.lemmas.Bool.{cases_eq}
use Rattle.machine_events.specs.declared.event.Event.TheVariants.{Start}
use Rattle.machine_events.specs.declared.event.Reply.TheVariants.{Device}
use Rattle.ido_base.specs.Words.{Word}
use Rattle.line_memory.specs.links.Queues.{RepresentsQueue}
use Rattle.line_memory.specs.links.MemoryRepresentation.{Represents, log_in}
use Rattle.rv64_isa.specs.declared.object.Slot.{Slot}
use Rattle.machine_model.specs.declared.phase.Phase.{Phase}
use Rattle.machine_model.specs.declared.phase.Phase.TheVariants.{Run}
use Rattle.machine_model.specs.Machine.{Hart as HartModel, World, Outcome, happens, anew, all_anew, can_start}
use Rattle.machine_model.proofs.Public.{anew_found, anew_length, outcome_of, starts_by}
use Rattle.hart_core.specs.declared.hart.Hart.{Hart}
use Rattle.hart_core.specs.links.Harts.{RepresentsHart}
use Rattle.ido_machine.specs.Harts.{HartsStand, IsAnew, AreAnew}
use Rattle.ido_machine.specs.Machines.{MachineState, RepresentsMachineState, StateEnds}
use Rattle.ido_machine.proofs.Lists.{set_same, set_other, get_some}

-- ---- Harts, one after another

-- the first `count` are at the first word of their code again, and the others as they were
pub record AreAnewUpTo (program : List (List Slot)) (old harts : List Hart) (count : ℕ) : Type 0 where
  pub size : length harts ≡ length old
  pub begun : (thread : ℕ) (was it : Hart) → thread < count → slice_get old thread ≡ Some was → slice_get harts thread ≡ Some it → IsAnew program thread was it
  pub still : (thread : ℕ) → count ≤ thread → slice_get harts thread ≡ slice_get old thread

pub none_anew : (program : List (List Slot)) (old : List Hart) → AreAnewUpTo program old old 0
none_anew program old = record { size = refl; begun = λ thread was it low. absurd (omega (arith, low)); still = λ thread past. refl }

pub anew_set : (program : List (List Slot)) (old harts : List Hart) (count : ℕ) (was it : Hart) → slice_get harts count ≡ Some was →
    IsAnew program count was it → AreAnewUpTo program old harts count → AreAnewUpTo program old (slice_set harts count it) (count + 1)
anew_set program old harts count was it here new a = record {
  size = length-set harts count it ∙ a.size;
  begun = λ thread before one below found there. elim (cases_eq thread count) [
    | inl same ↦
        let is : it ≡ one = set_same harts count it one (subst (λ (k : ℕ). slice_get (slice_set harts count it) k ≡ Some one) same there) in
        let found' : slice_get harts count ≡ Some before =
        a.still count (omega arith) ∙ subst (λ (k : ℕ). slice_get old k ≡ Some before) same found in
        let was_is : was ≡ before = let both = sym here ∙ found' in cc in
        subst (λ (k : ℕ). IsAnew program k before one) (sym same)
        (subst (λ (x : Hart). IsAnew program count before x) is (subst (λ (x : Hart). IsAnew program count x it) was_is new))
    | inr other ↦ a.begun thread before one (omega (arith, below, other)) found (sym (set_other harts count thread it other) ∙ there)
  ];
  still = λ thread past.
      set_other harts count thread it (λ same. absurd (omega (arith, same, past))) ∙ a.still thread (omega (arith, past));
}

pub all_are_anew : (program : List (List Slot)) (old harts : List Hart) (count : ℕ) → length old ≤ count → AreAnewUpTo program old harts count →
    AreAnew program old harts
all_are_anew program old harts count all a = record {
  size = a.size;
  each = λ thread was it found there. a.begun thread was it (omega (arith, all, within old thread was found)) found there;
}
  where
    within : (xs : List Hart) (n : ℕ) (x : Hart) → slice_get xs n ≡ Some x → n < length xs
    within [] n x e = cc
    within (y ∷ ys) zero x e = omega arith
    within (y ∷ ys) (suc n) x e = omega (arith, within ys n x e)

-- ---- The machine

phases_anew : (program : List (List Slot)) (at : ℕ) (harts : List HartModel) →
    map (λ (hart : HartModel). hart.phase) (all_anew program at harts) ≡ replicate (length harts) Run
phases_anew program at [] = refl
phases_anew program at (hart ∷ harts) = ap (λ (phases : List Phase). Run ∷ phases) (phases_anew program (at + 1) harts)

harts_anew : (program : List (List Slot)) (old new : List Hart) (models : List HartModel) (words : List Word) → AreAnew program old new →
    HartsStand old models words → HartsStand new (all_anew program 0 models) words
harts_anew program old new models words a s = record {
  count = anew_length program 0 models ∙ s.count ∙ sym a.size;
  each = λ n it model found there.
      let one = anew_found program 0 models n model there in
      let was = get_some old n (omega (arith, s.count, a.size, within new n it found)) in
      let is = a.each n was.0 it was.1 found in
      let stood : RepresentsHart was.0 one.was words = s.each n was.0 one.was was.1 one.there in
      let number : 0 + n ≡ n = omega arith in
      subst (λ (m : HartModel). RepresentsHart it m words) (sym (one.is ∙ ap (λ (k : ℕ). anew program k one.was) number)) (record {
        registers = sym is.registers;
        pc = sym is.pc;
        queue = subst (λ q. RepresentsQueue q one.was.queue words) (sym is.queue) stood.queue;
      });
}
  where
    within : (xs : List Hart) (n : ℕ) (x : Hart) → slice_get xs n ≡ Some x → n < length xs
    within [] n x e = cc
    within (y ∷ ys) zero x e = omega arith
    within (y ∷ ys) (suc n) x e = omega (arith, within ys n x e)

pub start_end : (program : List (List Slot)) (state state' : MachineState) (w : World) → AreAnew program state.harts state'.harts →
    state'.phases ≡ replicate (length state.harts) Run → state'.memory ≡ state.memory → state'.locks ≡ state.locks → state'.recovering ≡ false →
    can_start w ≡ true → RepresentsMachineState state w → StateEnds state' Device (happens program w Start)
start_end program state state' w a phases memory locks running may s =
    subst (λ (o : Outcome). StateEnds state' Device o) (sym (starts_by program w ∙ ap (outcome_of program w) may)) (record {
      replied = refl;
      stands = record {
        words = subst (λ m. Represents m w.words) (sym memory) s.words;
        holders = s.holders ∙ sym locks;
        phases = phases_anew program 0 w.harts ∙ ap (λ (n : ℕ). replicate n Run) s.standing.count ∙ sym phases;
        standing = harts_anew program state.harts state'.harts w.harts w.words a s.standing;
        recovering = sym running;
        log = s.log ∙ ap log_in (sym memory);
      };
    })
