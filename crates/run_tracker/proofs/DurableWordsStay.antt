-- What is durable of words is so after each step that writes nothing back.
use Rattle.std.proofs.Common.{◌≡◌, ◌⊎◌, ℕ, ◌/◌, ◌<◌, ◌≤◌, ◌==◌, List, [], ◌∷◌, length, slice_set, slice_get, Option, Some, None}
use Rattle.std.proofs.Common.{Bool, false, cond, nat_lt, inl, inr, refl, ap, sym, subst, ◌∙◌, get_or-set_same, get_or-set_other}
use Rattle.std.proofs.lemmas.Bool.{cases_eq, cases_lt, cond_both}
use Rattle.std.proofs.lemmas.List.{set_past}
use Rattle.machine_events.specs.declared.event.Event.TheVariants.{Step}
use Rattle.machine_events.specs.declared.event.Reply.TheVariants.{Waits}
use Rattle.ido_base.specs.Words.{Word, Entry, word_of, word_at}
use Rattle.ido_base.specs.Layout.{aligned, byte_number}
use Rattle.log_schemes.specs.Layout.{in_range}
use Rattle.ido_base.specs.Locks.{is_held_by, least_held, least_missing}
use Rattle.rv64_isa.specs.declared.object.Slot.{Slot}
use Rattle.rv64_isa.specs.declared.object.Slot.TheVariants.{Row, NoRow}
use Rattle.machine_model.specs.declared.phase.Phase.{Phase}
use Rattle.machine_model.specs.declared.phase.Phase.TheVariants.{Take, Wait, Resume, Run, Done, Ended}
use Rattle.rv64_isa.specs.Rows.{Effect, Continues, Loads, Stores, Cleans, Fences, Calls, row, read}
use Rattle.rv64_isa.specs.Programs.{fetched}
use Rattle.machine_model.specs.Machine.{Hart, World, Outcome, moved, with_holder, access, drain_one, fenced, cleaned, acquired}
use Rattle.machine_model.specs.Machine.{released, ended, called, applied, executed, taken, waited, record_of, taking_from, hart_step}
use Rattle.machine_model.specs.Machine.{run_step, done_if_over, over_after, phase_step, stepped, happens, after_event, reply_to}
use Rattle.run_tracker.specs.links.LifeParts.{is_drained}

abbrev pub SameDurable : (old new : List Word) → Type 0
SameDurable old new = (j : ℕ) → (word_at new j).durable ≡ (word_at old j).durable

-- a word with other values and the same durable position
set_durable : (words : List Word) (i : ℕ) (values : List ℕ) → SameDurable words (slice_set words i (record (word_at words i) { values = values }))
set_durable words i values j = by_place (cases_eq j i) (cases_lt i (length words))
  where
    new : Word
    new = record (word_at words i) { values = values }

    by_place : (j ≡ i) ⊎ (j ≡ i → ⊥) → (i < length words) ⊎ (length words ≤ i) → (word_at (slice_set words i new) j).durable ≡ (word_at words j).durable
    by_place (inl same) (inl within) =
        subst (λ (k : ℕ). (word_at (slice_set words i new) k).durable ≡ (word_at words k).durable) (sym same)
        (ap (λ (w : Word). w.durable) (get_or-set_same words i new (word_of 0) within))
    by_place (inl same) (inr past) = ap (λ (ws : List Word). (word_at ws j).durable) (set_past words i new past)
    by_place (inr ne) place = ap (λ (w : Word). w.durable) (get_or-set_other words i j new (word_of 0) ne)

abbrev Keeps : World → Outcome → Type 0
Keeps w o = is_drained o.1 ≡ false → SameDurable w.words o.0.words

module _ (h : ℕ) (w : World) (hart : Hart) where
  drains : (queue : List Entry) → Keeps w (drain_one w h hart queue)
  drains [] = λ e. absurd (subst (λ (b : Bool). cond b (Unit {0}) ⊥) e tt)
  drains (x ∷ xs) = λ e. absurd (subst (λ (b : Bool). cond b (Unit {0}) ⊥) e tt)

  fences : (queue : List Entry) → Keeps w (fenced w h hart queue)
  fences [] = λ e j. refl
  fences (x ∷ xs) = drains (x ∷ xs)

  accesses : (address bytes : ℕ) (outcome : Outcome) → Keeps w outcome → Keeps w (access w address bytes outcome)
  accesses address bytes outcome keeps =
      cond_both (in_range w.log (length w.harts) address bytes) _ _ (Keeps w)
      (λ _. cond_both (aligned address bytes) _ _ (Keeps w) (λ _. keeps) (λ _ e j. refl))
      (λ _ e j. refl)

  cleans : (line : ℕ) → Keeps w (cleaned w h hart line)
  cleans line = cond_both (nat_lt (length hart.queue) 16) _ _ (Keeps w) (λ _ e j. refl) (λ _. drains hart.queue)

  acquires : (lock : ℕ) (holder : Option (Option ℕ)) → Keeps w (acquired w h hart lock holder)
  acquires lock None = λ e j. refl
  acquires lock (Some None) = λ e j. refl
  acquires lock (Some (Some holder)) = λ e j. refl

  releases : (lock : ℕ) (holder : Option (Option ℕ)) → Keeps w (released w h hart lock holder)
  releases lock None = λ e j. refl
  releases lock (Some holder) = cond_both (is_held_by h holder) _ _ (Keeps w) (λ _ e j. refl) (λ _ e j. refl)

  ends : (lock : Option ℕ) → Keeps w (ended w h hart lock)
  ends None = λ e j. refl
  ends (Some lock) = λ e j. refl

  calls : (number lock : ℕ) → Keeps w (called w h hart number lock)
  calls number lock =
      cond_both (number == 1) _ _ (Keeps w) (λ _. acquires lock (slice_get w.holders lock))
      (λ _. cond_both (number == 2) _ _ (Keeps w) (λ _. releases lock (slice_get w.holders lock))
      (λ _. cond_both (number == 3) _ _ (Keeps w) (λ _. ends (least_held w.holders h)) (λ _ e j. refl)))

  applies : (effect : Effect) → Keeps w (applied w h hart effect)
  applies (Continues registers pc) = λ e j. refl
  applies (Loads address bytes signed register) = accesses address bytes _ (λ e j. refl)
  applies (Stores address bytes value) = accesses address bytes _ (λ e j. set_durable w.words (byte_number address / 8) _ j)
  applies (Cleans address) = accesses address 1 _ (cleans (byte_number address / 64))
  applies Fences = fences hart.queue
  applies Calls = calls (read hart.registers 17) (read hart.registers 10)

  executes : (slot : Option Slot) → Keeps w (executed w h hart slot)
  executes None = λ e j. refl
  executes (Some (NoRow word)) = λ e j. refl
  executes (Some (Row instr)) = applies (row instr hart.registers hart.pc)

  takes : (lock : Option ℕ) → Keeps w (taken w h hart lock)
  takes None = λ e j. refl
  takes (Some lock) = took (slice_get w.holders lock)
    where
      took : (x : Option (Option ℕ)) → Keeps w (elim x [
        | Some (Some holder) ↦ (w, Waits lock holder)
        | _ ↦ moved (with_holder w lock (Some h)) h hart
      ])
      took None = λ e j. refl
      took (Some None) = λ e j. refl
      took (Some (Some holder)) = λ e j. refl

  waits : (taking : Option ℕ) → Keeps w (waited w h hart taking)
  waits None = λ e j. refl
  waits (Some taking) = λ e j. refl

pub settles : (h : ℕ) (w v : World) (hart : Option Hart) → (done_if_over w h hart v).words ≡ v.words
settles h w v None = refl
settles h w v (Some hart) = cond_both (over_after w v h) _ _ (λ (u : World). u.words ≡ v.words) (λ _. refl) (λ _. refl)

module _ (program : List (List Slot)) (h : ℕ) (w : World) where
  runs : (hart : Hart) → Keeps w (run_step program w h hart)
  runs hart e j =
      let outcome = hart_step program w h hart in
      ap (λ (ws : List Word). (word_at ws j).durable) (settles h w outcome.0 (slice_get outcome.0.harts h)) ∙ executes h w hart (fetched program h hart.pc) e j

  by_phase : (hart : Hart) (phase : Phase) → Keeps w (phase_step program w h hart phase)
  by_phase hart Take = takes h w hart (least_missing w.holders (record_of w.log w.words h) h)
  by_phase hart Wait = waits h w hart (taking_from 0 w.harts)
  by_phase hart Resume = λ e j. refl
  by_phase hart Run = runs hart
  by_phase hart Done = λ e j. refl
  by_phase hart Ended = λ e j. refl

  steps : (hart : Option Hart) → Keeps w (stepped program w h hart)
  steps None = λ e j. refl
  steps (Some hart) = by_phase hart hart.phase

  pub undrained : is_drained (reply_to program w (Step h)) ≡ false → SameDurable w.words (after_event program w (Step h)).words
  unfolding happens
  undrained = steps (slice_get w.harts h)
