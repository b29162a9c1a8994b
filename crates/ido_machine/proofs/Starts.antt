-- The start of a machine, and its state after a crash.
use Rattle.std.proofs.Common.{refl, ◌≡◌, ℕ, zero, suc, ◌+◌, ◌<◌, List, [], ◌∷◌, ◌++◌, length, map, replicate, slice_get}
use Rattle.std.proofs.Common.{slice_set, Some, None, true, false, inl, inr, sym, ◌∙◌, ap, subst, arith, length-set}
use Rattle.std.proofs.lemmas.Bool.{cases_eq}
use Rattle.std.proofs.lemmas.List.{length_push}
use Rattle.ido_base.specs.Words.{Word, word_of}
use Rattle.log_schemes.specs.Layout.{initial_words}
use Rattle.line_memory.specs.links.MemoryRepresentation.{Represents, log_in}
use Rattle.rv64_isa.specs.declared.object.Slot.{Slot}
use Rattle.machine_model.specs.declared.phase.Phase.{Phase}
use Rattle.machine_model.specs.declared.phase.Phase.TheVariants.{Run}
use Rattle.machine_model.specs.Machine.{Hart as HartModel, start_of, after_crash_of, fresh_hart, phase_after_crash, durable_point}
use Rattle.log_schemes.specs.Schemes.{numbers_from}
use Rattle.hart_core.specs.declared.hart.Hart.{Hart}
use Rattle.hart_core.specs.links.Harts.{RepresentsHart}
use Rattle.ido_machine.specs.Harts.{HartsStand, IsFresh, AreFresh}
use Rattle.ido_machine.specs.Machines.{MachineState, RepresentsMachineState}
use Rattle.ido_machine.proofs.Lists.{set_same, set_other, get_push, get_numbers, length-numbers, map_map, map_constant}

-- one hart more
pub AreFresh-push : (program : List (List Slot)) (harts : List Hart) (count : ℕ) (it : Hart) → AreFresh program harts count → IsFresh program count it →
    AreFresh program (harts ++ it ∷ []) (count + 1)
AreFresh-push program harts count it fresh new = record {
  size = length_push harts it ∙ ap (λ n. n + 1) fresh.size;
  each = λ thread one found. elim (get_push harts thread it one found) [
    | inl was ↦ fresh.each thread one was
    | inr p ↦ subst (λ (x : Hart). IsFresh program thread x) p.1 (subst (λ (n : ℕ). IsFresh program n it) (sym fresh.size ∙ sym p.0) new)
  ];
}

-- as many harts as programs, of which the first `count` are fresh
pub record AreRestarted (program : List (List Slot)) (harts : List Hart) (count : ℕ) : Type 0 where
  pub size : length harts ≡ length program
  pub each : (thread : ℕ) (it : Hart) → thread < count → slice_get harts thread ≡ Some it → IsFresh program thread it

pub AreRestarted-set : (program : List (List Slot)) (harts : List Hart) (count : ℕ) (it : Hart) → AreRestarted program harts count → IsFresh program count it →
    AreRestarted program (slice_set harts count it) (count + 1)
AreRestarted-set program harts count it a new = record {
  size = length-set harts count it ∙ a.size;
  each = λ thread one below found. elim (cases_eq thread count) [
    | inl same ↦
        let is : it ≡ one = set_same harts count it one (subst (λ (k : ℕ). slice_get (slice_set harts count it) k ≡ Some one) same found) in
        subst (λ (k : ℕ). IsFresh program k one) (sym same) (subst (λ (x : Hart). IsFresh program count x) is new)
    | inr other ↦ a.each thread one (omega (arith, below, other)) (sym (set_other harts count thread it other) ∙ found)
  ];
}

pub AreFresh-all : (program : List (List Slot)) (harts : List Hart) (count : ℕ) → count ≡ length program → AreRestarted program harts count →
    AreFresh program harts (length program)
AreFresh-all program harts count all a = record {
  size = a.size;
  each = λ thread it found. a.each thread it (within harts thread it (all ∙ sym a.size) found) found;
}
  where
    within : (xs : List Hart) (n : ℕ) (x : Hart) → count ≡ length xs → slice_get xs n ≡ Some x → n < count
    within xs n x e found = omega (arith, e, below xs n x found)
      where
        below : (ys : List Hart) (m : ℕ) (y : Hart) → slice_get ys m ≡ Some y → m < length ys
        below [] m y there = cc
        below (z ∷ zs) zero y there = omega arith
        below (z ∷ zs) (suc m) y there = omega (arith, below zs m y there)

-- fresh harts represent those of the definition, whatever their phases
fresh_stand : (program : List (List Slot)) (phase : ℕ → Phase) (harts : List Hart) (words : List Word) → AreFresh program harts (length program) →
    HartsStand harts (map (λ thread. fresh_hart program (phase thread) thread) (numbers_from 0 (length program))) words
fresh_stand program phase harts words fresh = record {
  count = length-numbers model 0 (length program) ∙ sym fresh.size;
  each = λ thread it m found there.
      let same : model (0 + thread) ≡ m = get_numbers model 0 (length program) thread m there in
      let zero_is : 0 + thread ≡ thread = omega arith in
      subst (λ (x : HartModel). RepresentsHart it x words) (ap model (sym zero_is) ∙ same) (one thread it (fresh.each thread it found));
}
  where
    model : ℕ → HartModel
    model = λ thread. fresh_hart program (phase thread) thread

    one : (thread : ℕ) (it : Hart) → IsFresh program thread it → RepresentsHart it (fresh_hart program (phase thread) thread) words
    one thread it is = record { registers = sym is.registers; pc = sym is.pc; queue = is.queue words }

pub start_simulates : (program : List (List Slot)) (locks : ℕ) (initial : List ℕ) (state : MachineState) → AreFresh program state.harts (length program) →
    state.phases ≡ replicate (length program) Run → Represents state.memory (map word_of (initial_words (log_in state.memory) (length program) initial)) →
    state.locks ≡ replicate locks None → state.recovering ≡ false → RepresentsMachineState state (start_of (log_in state.memory) program locks initial)
unfolding start_of
start_simulates program locks initial state fresh phases stands free running = record {
  words = stands;
  holders = sym free;
  phases =
      map_map (λ (hart : HartModel). hart.phase) (fresh_hart program Run) (numbers_from 0 (length program)) ∙ map_constant Run 0 (length program) ∙ sym phases;
  standing = fresh_stand program (λ thread. Run) state.harts (map word_of (initial_words (log_in state.memory) (length program) initial)) fresh;
  recovering = sym running;
  log = refl;
}

pub crash_simulates : (program : List (List Slot)) (locks : ℕ) (words : List ℕ) (state : MachineState) → AreFresh program state.harts (length program) →
    state.phases ≡ map (λ thread. phase_after_crash (durable_point (log_in state.memory) (map word_of words) thread)) (numbers_from 0 (length program)) →
    Represents state.memory (map word_of words) → state.locks ≡ replicate locks None → state.recovering ≡ true →
    RepresentsMachineState state (after_crash_of (log_in state.memory) program locks words)
unfolding after_crash_of
crash_simulates program locks words state fresh phases stands free recovering = record {
  words = stands;
  holders = sym free;
  phases =
      map_map (λ (hart : HartModel). hart.phase)
      (λ thread. fresh_hart program (phase_after_crash (durable_point (log_in state.memory) (map word_of words) thread)) thread)
      (numbers_from 0 (length program)) ∙ sym phases;
  standing =
      fresh_stand program (λ thread. phase_after_crash (durable_point (log_in state.memory) (map word_of words) thread)) state.harts (map word_of words) fresh;
  recovering = sym recovering;
  log = refl;
}
