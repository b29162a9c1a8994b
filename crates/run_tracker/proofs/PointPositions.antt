-- The word of a hart's point has one value more after a step that stores it, and as many after any other that completes an instruction.
use Rattle.std.proofs.Common.{◌≡◌, ◌⊎◌, ℕ, ◌+◌, ◌/◌, ◌<◌, ◌==◌, List, [], ◌∷◌, length, length-append, slice_set, slice_get, Option, Some, None}
use Rattle.std.proofs.Common.{Bool, true, false, not, cond, nat_lt, inl, inr, refl, ap, sym, subst, ◌∙◌, arith, get_or-set_same, get_or-set_other}
use Rattle.std.proofs.lemmas.Bool.{cases_eq, cond_both, eq-eqb, ne_eqb}
use Rattle.machine_events.specs.declared.event.Event.TheVariants.{Step}
use Rattle.ido_base.specs.Words.{Word, Entry, word_of, word_at, last_position, with_value}
use Rattle.ido_base.specs.Layout.{aligned, byte_number}
use Rattle.log_schemes.specs.Layout.{in_range}
use Rattle.ido_base.specs.Locks.{is_held_by, least_held}
use Rattle.rv64_isa.specs.declared.object.Slot.{Slot}
use Rattle.rv64_isa.specs.declared.object.Slot.TheVariants.{Row, NoRow}
use Rattle.machine_model.specs.declared.phase.Phase.{Phase}
use Rattle.machine_model.specs.declared.phase.Phase.TheVariants.{Take, Wait, Resume, Run, Done, Ended}
use Rattle.rv64_isa.specs.Rows.{Effect, Continues, Loads, Stores, Cleans, Fences, Calls, row, read}
use Rattle.rv64_isa.specs.Programs.{fetched}
use Rattle.machine_model.specs.Machine.{Hart, World, Outcome, access, drain_one, fenced, cleaned, acquired, released, ended, called}
use Rattle.machine_model.specs.Machine.{applied, executed, hart_step, run_step, phase_step, stepped, happens, after_event, reply_to}
use Rattle.machine_model.specs.Schedule.{completing, has_moved, is_point_store, is_running, stores_point}
use Rattle.run_tracker.specs.links.AccountRepresentation.{point_word}
use Rattle.run_tracker.proofs.DurableWordsStay.{settles}
use Rattle.run_tracker.proofs.SignObservations.{completes_one, one_moved, slot_tells}

plus_none : (n : ℕ) → n ≡ n + 0
plus_none n = omega arith

module _ (h : ℕ) (w : World) (point : point_word w.log h < length w.words) (some : 0 < length (word_at w.words (point_word w.log h)).values) where
  abbrev last_in : World → ℕ
  last_in v = last_position (word_at v.words (point_word w.log h))

  abbrev Grows : Bool → Outcome → Type 0
  Grows b o = has_moved o.1 ≡ true → last_in o.0 ≡ last_in w + cond b 1 0

  -- a store of a whole word or a part of it
  stores : (number n : ℕ) → last_position (word_at (slice_set w.words number (with_value (word_at w.words number) n)) (point_word w.log h))
      ≡ last_in w + cond (number == point_word w.log h) 1 0
  stores number n = by_place (cases_eq (point_word w.log h) number)
    where
      new : Word
      new = with_value (word_at w.words number) n

      by_place : (point_word w.log h ≡ number) ⊎ (point_word w.log h ≡ number → ⊥) →
          last_position (word_at (slice_set w.words number new) (point_word w.log h)) ≡ last_in w + cond (number == point_word w.log h) 1 0
      by_place (inl same) =
          let more : last_position (word_at (slice_set w.words number new) number) ≡ last_position (word_at w.words number) + 1 =
          ap last_position (get_or-set_same w.words number new (word_of 0) (subst (λ (k : ℕ). k < length w.words) same point))
          ∙ omega (arith, length-append (word_at w.words number).values (n ∷ []), subst (λ (k : ℕ). 0 < length (word_at w.words k).values) same some) in
          subst (λ (k : ℕ). last_position (word_at (slice_set w.words number new) k) ≡ last_position (word_at w.words k) + cond (number == k) 1 0) (sym same)
          (more ∙ ap (λ (b : Bool). last_position (word_at w.words number) + cond b 1 0) (sym (eq-eqb number number refl)))
      by_place (inr ne) =
          ap last_position (get_or-set_other w.words number (point_word w.log h) new (word_of 0) ne) ∙ plus_none (last_in w)
          ∙ ap (λ (b : Bool). last_in w + cond b 1 0) (sym (ne_eqb number (point_word w.log h) (λ e. ne (sym e))))

  module _ (hart : Hart) where
    drains : (queue : List Entry) → Grows false (drain_one w h hart queue)
    drains [] = λ e. cc
    drains (x ∷ xs) = λ e. cc

    fences : (queue : List Entry) → Grows false (fenced w h hart queue)
    fences [] = λ e. plus_none (last_in w)
    fences (x ∷ xs) = drains (x ∷ xs)

    accesses : (b : Bool) (address bytes : ℕ) (outcome : Outcome) → Grows b outcome → Grows b (access w address bytes outcome)
    accesses b address bytes outcome grows =
        cond_both (in_range w.log (length w.harts) address bytes) _ _ (Grows b)
        (λ _. cond_both (aligned address bytes) _ _ (Grows b) (λ _. grows) (λ _ e. cc))
        (λ _ e. cc)

    cleans : (line : ℕ) → Grows false (cleaned w h hart line)
    cleans line = cond_both (nat_lt (length hart.queue) 16) _ _ (Grows false) (λ _ e. plus_none (last_in w)) (λ _. drains hart.queue)

    acquires : (lock : ℕ) (holder : Option (Option ℕ)) → Grows false (acquired w h hart lock holder)
    acquires lock None = λ e. cc
    acquires lock (Some None) = λ e. plus_none (last_in w)
    acquires lock (Some (Some holder)) = λ e. cc

    releases : (lock : ℕ) (holder : Option (Option ℕ)) → Grows false (released w h hart lock holder)
    releases lock None = λ e. cc
    releases lock (Some holder) = cond_both (is_held_by h holder) _ _ (Grows false) (λ _ e. plus_none (last_in w)) (λ _ e. cc)

    ends : (lock : Option ℕ) → Grows false (ended w h hart lock)
    ends None = λ e. plus_none (last_in w)
    ends (Some lock) = λ e. cc

    calls : (number lock : ℕ) → Grows false (called w h hart number lock)
    calls number lock =
        cond_both (number == 1) _ _ (Grows false) (λ _. acquires lock (slice_get w.holders lock))
        (λ _. cond_both (number == 2) _ _ (Grows false) (λ _. releases lock (slice_get w.holders lock))
        (λ _. cond_both (number == 3) _ _ (Grows false) (λ _. ends (least_held w.holders h)) (λ _ e. cc)))

    applies : (effect : Effect) → Grows (is_point_store w.log h effect) (applied w h hart effect)
    applies (Continues registers pc) = λ e. plus_none (last_in w)
    applies (Loads address bytes signed register) = accesses false address bytes _ (λ e. plus_none (last_in w))
    applies (Stores address bytes value) = accesses _ address bytes _ (λ e. stores (byte_number address / 8) _)
    applies (Cleans address) = accesses false address 1 _ (cleans (byte_number address / 64))
    applies Fences = fences hart.queue
    applies Calls = calls (read hart.registers 17) (read hart.registers 10)

    executes : (found : Option Slot) → Grows (slot_tells (is_point_store w.log h) hart found) (executed w h hart found)
    executes None = λ e. cc
    executes (Some (NoRow word)) = λ e. cc
    executes (Some (Row instr)) = applies (row instr hart.registers hart.pc)

  module _ (program : List (List Slot)) (hart : Hart) (there : slice_get w.harts h ≡ Some hart) where
    runs : Grows (slot_tells (is_point_store w.log h) hart (fetched program h hart.pc)) (run_step program w h hart)
    runs e =
        let outcome = hart_step program w h hart in
        ap (λ (words : List Word). last_position (word_at words (point_word w.log h))) (settles h w outcome.0 (slice_get outcome.0.harts h))
        ∙ executes hart (fetched program h hart.pc) e

    by_phase : (phase : Phase) → is_running phase ≡ true →
        Grows (slot_tells (is_point_store w.log h) hart (fetched program h hart.pc)) (phase_step program w h hart phase)
    by_phase Run running = runs
    by_phase Take running = cc
    by_phase Wait running = cc
    by_phase Resume running = cc
    by_phase Done running = cc
    by_phase Ended running = cc

    steps : is_running hart.phase ≡ true → Grows (slot_tells (is_point_store w.log h) hart (fetched program h hart.pc)) (happens program w (Step h))
    unfolding happens
    steps running =
        subst (λ (found : Option Hart). Grows (slot_tells (is_point_store w.log h) hart (fetched program h hart.pc)) (stepped program w h found)) (sym there)
        (by_phase hart.phase running)

    pub grown : is_running hart.phase ≡ true → has_moved (reply_to program w (Step h)) ≡ true
        → last_in (after_event program w (Step h)) ≡ last_in w + cond (stores_point program w (Step h) h) 1 0
    grown running moves =
        let one : completing program w h ≡ Some hart = one_moved program w h hart there running moves in
        steps running moves ∙ ap (λ (b : Bool). last_in w + cond b 1 0)
        (sym (completes_one program w h (is_point_store w.log h) hart (fetched program h hart.pc) one refl))

-- a position tells whether it has grown
pub differs : (old new : ℕ) (grows : Bool) → new ≡ old + cond grows 1 0 → not (new == old) ≡ grows
differs old new true e = ap not (ne_eqb new old (λ same. omega (arith, same, e)))
differs old new false e = ap not (eq-eqb new old (omega (arith, e)))
